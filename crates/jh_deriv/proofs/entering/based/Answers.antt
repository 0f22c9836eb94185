use Rattle.jh_form.specs.Tree.{of_truth}
use Rattle.jh_form.specs.Tree as t
use Rattle.jh_form.specs.Bare.{term_tree, field_tree}
use Rattle.jh_boxed_operations.specs.comparison.Unmarked.{unmarked_term, unmarked_field}
use Rattle.jh_arena.specs.table.Nodes.{nodes}
use Rattle.jh_arena.proofs.table.Listed.{node-stays}
use Rattle.jh_derivation_rules.specs.Steps.{bare_base, base_tree}
use Rattle.jh_deriv.proofs.Operands.{entered-based}
use Rattle.jh_deriv.proofs.entering.based.Goals as goal

pub returns-clause-step : goal.returns-clause-step
unfolding bare_base base_tree
returns-clause-step c = λ fs at.
    let b = c.args.base.now in
    entered-based (nodes c.bare_update.new.table) c.args.number c.args.list b.place c.in_ok-update.update fs (unmarked_field (field_tree b.field)) (unmarked_term (term_tree b.at)) (unmarked_term (term_tree b.value))
    (node-stays c.args.table.now c.bare_update.new.table c.args.list (of_truth (t.tree fs)) c.bare_update.ensures.grows at) c.in_ok-update.ensures.node
