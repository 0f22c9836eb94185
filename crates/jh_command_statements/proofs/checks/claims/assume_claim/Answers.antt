use Rattle.jh_vars.specs.Resolved.{as_truth}
use Rattle.jh_semantics.specs.typed_code.Statements.{value_of, claim_in}
use Rattle.jh_guard.specs.Steps.{claim_fact}
use Rattle.jh_command_statements.proofs.checks.StepSteps.{on-ok}
use Rattle.jh_command_statements.proofs.checks.claims.assume_claim.Goals as goal

pub returns-clause-commands : goal.returns-clause-commands
returns-clause-commands c =
    on-ok c.assume_fact.result
    (λ told p are. told (claim_fact (claim_in p c.args.claim.now)) (c.in_ok-fact-2.ensures.node (as_truth (value_of p c.args.claim.now.number)) (c.in_ok-fact.ensures.formula p are)))
    c.assume_fact.ensures
