use Rattle.std.proofs.Common.{◌∙◌, ap, Some}
use Rattle.jh_form.specs.Tree.{of_truth}
use Rattle.jh_form.specs.Tree as tree
use Rattle.jh_command_statements.proofs.checks.StepSteps.{adds-assert, truth-is}
use Rattle.jh_command_statements.proofs.checks.checks.assert_marked.Goals as goal

pub returns-clause-commands : goal.returns-clause-commands
returns-clause-commands c = λ f h.
    adds-assert c.labelled.new.table c.args.commands.now.items c.push.new.self.items c.in_ok-goal.goal (tree.mark c.args.mark.now f) c.in_ok-push.ensures.items
    (c.in_ok-goal.ensures.node ∙ ap (λ x. Some (of_truth (tree.mark c.args.mark.now x))) (truth-is c.args.table.now c.args.goal f h))
