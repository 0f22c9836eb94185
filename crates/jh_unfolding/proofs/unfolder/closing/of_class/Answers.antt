use Rattle.std.proofs.Common.{◌∙◌, ap, Some}
use Rattle.jh_form.specs.Tree.{of_truth, of_object, of_set}
use Rattle.jh_form.specs.Tree as t
use Rattle.jh_arena.specs.table.Entries.{is_object, is_set, the_object, the_set}
use Rattle.jh_arena.proofs.table.Listed.{node-stays}
use Rattle.jh_unfolding.proofs.unfolder.Addings.{if-ok}
use Rattle.jh_unfolding.proofs.unfolder.closing.of_class.Goals as goal

pub member-requires-clause-a : goal.member-requires-clause-a
unfolding is_object
member-requires-clause-a c = ap is_object c.in_ok-variable.ensures.node

pub member-requires-clause-b : goal.member-requires-clause-b
unfolding is_set
member-requires-clause-b c = ap is_set (node-stays c.class_set.new.table c.bound.new.table c.in_ok-set.set _ c.in_ok-variable.ensures.grows c.in_ok-set.ensures.node)

pub returns-clause-node : goal.returns-clause-node
unfolding the_object the_set
returns-clause-node c =
    let a = c.in_ok-variable.ensures.node in
    let b = node-stays c.class_set.new.table c.bound.new.table c.in_ok-set.set _ c.in_ok-variable.ensures.grows c.in_ok-set.ensures.node in
    if-ok c.member.result (λ made q. q ∙ (λ i. Some (of_truth (t.member (the_object (a i)) (the_set (b i)))))) c.member.ensures.node
