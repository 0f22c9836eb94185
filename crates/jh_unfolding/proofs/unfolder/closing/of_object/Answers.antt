use Rattle.std.proofs.Common.{◌∙◌, ap, Some}
use Rattle.jh_form.specs.Tree.{of_truth}
use Rattle.jh_form.specs.Tree as t
use Rattle.jh_arena.specs.table.Entries.{is_truth, the_truth}
use Rattle.jh_arena.proofs.table.Listed.{node-stays}
use Rattle.jh_unfolding.proofs.unfolder.Addings.{if-ok}
use Rattle.jh_unfolding.proofs.unfolder.closing.of_object.Goals as goal

pub implication-requires-clause-a : goal.implication-requires-clause-a
unfolding is_truth
implication-requires-clause-a c = ap is_truth c.in_ok-member.ensures.node

pub implication-requires-clause-b : goal.implication-requires-clause-b
unfolding is_truth
implication-requires-clause-b c = ap is_truth (node-stays c.as_formula.new.table c.of_class.new.table c.in_ok-formula.formula _ c.in_ok-member.ensures.grows c.in_ok-formula.ensures.node)

pub returns-clause-node : goal.returns-clause-node
unfolding the_truth
returns-clause-node c =
    let a = c.in_ok-member.ensures.node in
    let b = node-stays c.as_formula.new.table c.of_class.new.table c.in_ok-formula.formula _ c.in_ok-member.ensures.grows c.in_ok-formula.ensures.node in
    if-ok c.implication.result (λ made q. q ∙ (λ i. Some (of_truth (t.implies (the_truth (a i)) (the_truth (b i)))))) c.implication.ensures.node
