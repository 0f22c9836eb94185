use Rattle.jh_form.specs.Tree as tree
use Rattle.jh_semantics.specs.State.{named}
use Rattle.jh_command_statements.proofs.checks.StepSteps.{on-ok}
use Rattle.jh_command_statements.proofs.checks.puts.put_field.Goals as goal

pub returns-clause-commands : goal.returns-clause-commands
returns-clause-commands c =
    on-ok c.assign_name.result
    (λ told a v h k. told (tree.of_field (tree.update (tree.free_field (named c.args.field.now)) a v)) (c.in_ok-updated.ensures.node a v h k))
    c.assign_name.ensures
