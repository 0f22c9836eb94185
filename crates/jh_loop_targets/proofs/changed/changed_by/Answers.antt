use Rattle.std.proofs.Common.{ap, ◌∙◌, ◌++◌, [], map}
use Rattle.jh_state_facts.specs.well_formedness.States.{local_of}
use Rattle.jh_semantics.specs.typed_code.Statements.{code_in}
use Rattle.jh_guard.specs.Writes.{stmt_writes}
use Rattle.jh_state_facts.specs.changes.Added.{sorted_in}
use Rattle.jh_loop_targets.specs.Gathering.{stmt_adds}
use Rattle.jh_loop_targets.specs.Noted.{holds}
use Rattle.jh_loop_targets.proofs.Filterings.{noted-state, noted-sets}
use Rattle.jh_loop_targets.proofs.Firsts.{firsts-are}
use Rattle.jh_loop_targets.proofs.changed.changed_by.Goals as goal

pub returns-clause-names : goal.returns-clause-names
returns-clause-names c = λ p program ws told states.
    c.in_ok-names.ensures
    ∙ (λ i. noted-state program (holds c.in_ok-gathered.gathered.written) (stmt_writes ws (code_in p c.args.body.now)) (sorted_in c.args.told.now.states.now) (c.in_ok-gathered.ensures.written p ws told) states.names i
    ++ (c.in_ok-gathered.ensures.locals p ∙ ap (λ sc. stmt_adds sc (code_in p c.args.body.now) []) c.in_ok-known.ensures ∙ firsts-are (map local_of c.args.scope.now) (code_in p c.args.body.now)) i)

pub returns-clause-sets : goal.returns-clause-sets
returns-clause-sets c = λ p program ws told states.
    c.in_ok-sets.ensures
    ∙ noted-sets program (holds c.in_ok-gathered.gathered.written) (stmt_writes ws (code_in p c.args.body.now)) c.args.told.now.states.now c.args.told.now.sets (c.in_ok-gathered.ensures.written p ws told) states.names states.sets
