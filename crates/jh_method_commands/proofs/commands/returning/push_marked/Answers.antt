use Rattle.std.proofs.Common.{Some, ap, ◌∙◌}
use Rattle.jh_form.specs.Tree.{of_truth}
use Rattle.jh_form.specs.Tree as tree
use Rattle.jh_state_facts.proofs.well_formedness.FactSteps.{adds-one}
use Rattle.jh_method_commands.proofs.commands.SideSteps.{truth-is}
use Rattle.jh_method_commands.proofs.commands.returning.push_marked.Goals as goal

pub returns-clause-facts : goal.returns-clause-facts
returns-clause-facts c = λ f e.
    adds-one c.labelled.new.table c.args.facts.now.items c.push.new.self.items c.in_ok-marked.marked (tree.mark c.args.mark.now f) c.in_ok-push.ensures.items (c.in_ok-marked.ensures.node ∙ ap (λ a. Some (of_truth (tree.mark c.args.mark.now a))) (truth-is c.args.table.now c.args.formula f e))
