use Rattle.std.proofs.Common.{◌∙◌, Some}
use Rattle.jh_form.specs.Tree.{of_truth}
use Rattle.jh_form.specs.Tree as tree
use Rattle.jh_command_statements.proofs.checks.StepSteps.{if-ok, truth-is}
use Rattle.jh_command_statements.proofs.checks.facts.named_fact.Goals as goal

pub returns-clause-node : goal.returns-clause-node
returns-clause-node c =
    if-ok c.labelled.result
    (λ made node f h. node ∙ (λ i. Some (of_truth (tree.mark (c.in_ok-mark.ensures i) (truth-is c.args.table.now c.args.fact f h i)))))
    c.labelled.ensures.node
