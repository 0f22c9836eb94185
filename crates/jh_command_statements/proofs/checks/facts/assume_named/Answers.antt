use Rattle.jh_guard.specs.Steps.{named_fact}
use Rattle.jh_command_statements.proofs.checks.StepSteps.{on-ok}
use Rattle.jh_command_statements.proofs.checks.facts.assume_named.Goals as goal

pub returns-clause-commands : goal.returns-clause-commands
returns-clause-commands c =
    on-ok c.assume_fact.result
    (λ told f h. told (named_fact c.args.text.now c.args.place f) (c.in_ok-fact.ensures.node f h))
    c.assume_fact.ensures
