use Rattle.std.proofs.Common.{Some, ap, ◌∙◌, codes}
use Rattle.jh_form.specs.Tree.{of_truth}
use Rattle.jh_form.specs.Tree as tree
use Rattle.jh_guard.specs.Steps.{named_fact}
use Rattle.jh_method_commands.proofs.commands.SideSteps.{truth-there, truth-is, is-assume}
use Rattle.jh_method_commands.proofs.commands.sides.left.Goals as goal

pub named_fact-requires : goal.named_fact-requires
named_fact-requires c = truth-there c.negation.new.table c.in_ok-opposite.opposite _ c.in_ok-opposite.ensures.node

pub returns-clause-command : goal.returns-clause-command
returns-clause-command c = λ f e.
    is-assume c.named_fact.new.table c.in_ok-fact.fact (named_fact (codes "cond") c.args.place (tree.negation f))
    (c.in_ok-fact.ensures.node (tree.negation f) (c.in_ok-opposite.ensures.node ∙ ap (λ a. Some (of_truth (tree.negation a))) (truth-is c.args.table.now c.args.test f e)))
