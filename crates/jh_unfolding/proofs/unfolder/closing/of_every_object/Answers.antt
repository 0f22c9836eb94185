use Rattle.std.proofs.Common.{◌∙◌, ap, Some}
use Rattle.jh_ast.specs.Bare.{class_part}
use Rattle.jh_form.specs.Tree.{of_truth}
use Rattle.jh_form.specs.Tree as t
use Rattle.jh_arena.specs.table.Entries.{is_truth, the_truth, the_value}
use Rattle.jh_arena.specs.table.Nodes.{nodes}
use Rattle.jh_vars.specs.Resolved.{as_truth, own}
use Rattle.std.proofs.Common.{slice_get}
use Rattle.jh_unfolding.proofs.unfolder.Addings.{if-ok}
use Rattle.jh_unfolding.proofs.unfolder.closing.of_every_object.Goals as goal

pub for_all-requires : goal.for_all-requires
unfolding is_truth
for_all-requires c = record { a = ap is_truth c.in_ok-inner.ensures.node }

pub returns-clause-node : goal.returns-clause-node
unfolding the_truth class_part
returns-clause-node c =
    let inner = c.in_ok-inner.ensures.node in
    let body = as_truth (the_value (slice_get (nodes c.args.table.now) c.args.body)) in
    if-ok c.for_all.result (λ made q p. q ∙ (λ i. Some (of_truth (t.all (the_truth (inner i))))) ∙ (λ i. Some (of_truth (t.all (t.implies (t.member (t.bound 0) (t.free_set (own (c.text.ensures i) 0))) body))))) c.for_all.ensures.node
