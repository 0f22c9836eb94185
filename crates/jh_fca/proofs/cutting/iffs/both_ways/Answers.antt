use Rattle.std.proofs.Common.{◌≡◌, ◌∙◌, Some, slice_get}
use Rattle.std.proofs.lemmas.Result.{IfOk-weaker}
use Rattle.jh_form.specs.Tree.{of_truth}
use Rattle.jh_form.specs.Tree as t
use Rattle.jh_arena.specs.table.Entries.{the_truth}
use Rattle.jh_arena.specs.table.Nodes.{nodes}
use Rattle.jh_fca.proofs.cutting.Standing.{truth-there, truth-at, truth-stays}
use Rattle.jh_fca.proofs.cutting.iffs.both_ways.Goals as goal

pub implication-requires-2-clause-a : goal.implication-requires-2-clause-a
implication-requires-2-clause-a c = truth-there (slice_get (nodes c.implication.new.table) c.args.b) _ (truth-stays c.args.table.now c.implication.new.table c.args.b c.implication.ensures.grows c.requires.b)

pub implication-requires-2-clause-b : goal.implication-requires-2-clause-b
implication-requires-2-clause-b c = truth-there (slice_get (nodes c.implication.new.table) c.args.a) _ (truth-stays c.args.table.now c.implication.new.table c.args.a c.implication.ensures.grows c.requires.a)

pub conjunction-requires-clause-a : goal.conjunction-requires-clause-a
conjunction-requires-clause-a c = truth-there (slice_get (nodes c.implication-2.new.table) c.in_ok-there.there) _ (c.implication-2.ensures.grows.nodes.keeps c.in_ok-there.there _ c.in_ok-there.ensures.node)

pub conjunction-requires-clause-b : goal.conjunction-requires-clause-b
conjunction-requires-clause-b c = truth-there (slice_get (nodes c.implication-2.new.table) c.in_ok-back.back) _ c.in_ok-back.ensures.node

pub returns-clause-node : goal.returns-clause-node
returns-clause-node c =
    let v = c.args.table.now in
    let mid = c.implication.new.table in
    let us = nodes c.implication-2.new.table in
    let p = the_truth (slice_get (nodes v) c.args.a) in
    let q = the_truth (slice_get (nodes v) c.args.b) in
    let there : the_truth (slice_get us c.in_ok-there.there) ≡ t.implies p q = truth-at (slice_get us c.in_ok-there.there) (t.implies p q) (c.implication-2.ensures.grows.nodes.keeps c.in_ok-there.there _ c.in_ok-there.ensures.node) in
    let first : the_truth (slice_get (nodes mid) c.args.a) ≡ p = truth-at (slice_get (nodes mid) c.args.a) p (truth-stays v mid c.args.a c.implication.ensures.grows c.requires.a) in
    let second : the_truth (slice_get (nodes mid) c.args.b) ≡ q = truth-at (slice_get (nodes mid) c.args.b) q (truth-stays v mid c.args.b c.implication.ensures.grows c.requires.b) in
    let back : the_truth (slice_get us c.in_ok-back.back) ≡ t.implies q p = truth-at (slice_get us c.in_ok-back.back) _ c.in_ok-back.ensures.node ∙ (λ i. t.implies (second i) (first i)) in
    IfOk-weaker
    c.conjunction.result
    (λ made. slice_get (nodes c.conjunction.new.table) made ≡ Some (of_truth (t.and (the_truth (slice_get us c.in_ok-there.there)) (the_truth (slice_get us c.in_ok-back.back)))))
    (λ made. slice_get (nodes c.conjunction.new.table) made ≡ Some (of_truth (t.and (t.implies p q) (t.implies q p))))
    (λ made at. at ∙ (λ i. Some (of_truth (t.and (there i) (back i)))))
    c.conjunction.ensures.node
