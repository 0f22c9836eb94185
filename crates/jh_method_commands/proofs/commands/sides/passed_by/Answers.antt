use Rattle.std.proofs.Common.{Some, ap, ◌∙◌}
use Rattle.jh_form.specs.Tree.{of_truth}
use Rattle.jh_form.specs.Tree as tree
use Rattle.jh_method_commands.proofs.commands.SideSteps.{if-ok, truth-there, truth-is}
use Rattle.jh_method_commands.proofs.commands.sides.passed_by.Goals as goal

pub entered-requires : goal.entered-requires
entered-requires c = truth-there c.negation.new.table c.in_ok-opposite.opposite _ c.in_ok-opposite.ensures.node

pub returns-clause-commands : goal.returns-clause-commands
returns-clause-commands c =
    if-ok c.entered.result
    (λ made h f e. h (tree.negation f) (c.in_ok-opposite.ensures.node ∙ ap (λ a. Some (of_truth (tree.negation a))) (truth-is c.args.table.now c.args.test f e)))
    c.entered.ensures.commands
