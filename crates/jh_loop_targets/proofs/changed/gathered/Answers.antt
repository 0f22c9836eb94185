use Rattle.std.proofs.Common.{ap, ◌∙◌, ◌||◌}
use Rattle.jh_semantics.specs.typed_code.Statements.{code_in}
use Rattle.jh_guard.specs.Writes.{stmt_writes}
use Rattle.jh_loop_targets.specs.Gathering.{stmt_adds}
use Rattle.jh_loop_targets.specs.Noted.{names_in}
use Rattle.jh_loop_targets.proofs.changed.gathered.Goals as goal

pub returns-clause-written : goal.returns-clause-written
returns-clause-written c = λ p ws told x. (c.in_ok-gather_one.ensures.written p ws told).is x ∙ ap (λ b. b || stmt_writes ws (code_in p c.args.body.now) x) (c.none-written.ensures x)

pub returns-clause-locals : goal.returns-clause-locals
returns-clause-locals c = λ p. c.in_ok-gather_one.ensures.locals p ∙ ap (stmt_adds (names_in c.args.scope.now) (code_in p c.args.body.now)) c.none-locals.ensures
