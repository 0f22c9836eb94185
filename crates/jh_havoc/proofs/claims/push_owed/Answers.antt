use Rattle.std.proofs.Common.{List, subst}
use Rattle.jh_semantics.specs.Code.{Claim}
use Rattle.jh_command_statements.specs.jh_guard.Steps.{assume_claims}
use Rattle.jh_state_facts.specs.changes.Added.{AddsCommands}
use Rattle.jh_state_facts.proofs.changes.AddedSteps.{on-ok}
use Rattle.jh_havoc.proofs.StopSteps.{owed-are}
use Rattle.jh_havoc.proofs.claims.push_owed.Goals as goal

pub returns-clause-commands : goal.returns-clause-commands
returns-clause-commands c =
    on-ok c.assume_claims.result
    (λ h p g is all. subst (λ (cs : List Claim). AddsCommands c.assume_claims.new.table c.args.commands.now.items c.assume_claims.new.commands.items (assume_claims cs)) (owed-are p g c.args.method.now c.args.invariants.now c.owed.result.now all c.owed.ensures) (h p is))
    c.assume_claims.ensures.commands
