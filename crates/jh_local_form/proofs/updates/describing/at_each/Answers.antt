use Rattle.std.proofs.Common.{◌≡◌, ap, ◌∙◌, Some, slice_get}
use Rattle.std.proofs.lemmas.Result.{IfOk-weaker}
use Rattle.jh_form.specs.Tree.{TermTree, FormulaTree, of_object, of_truth}
use Rattle.jh_form.specs.Tree as t
use Rattle.jh_arena.specs.table.Entries.{the_object, the_truth}
use Rattle.jh_arena.specs.table.Nodes.{nodes}
use Rattle.jh_arena.proofs.table.Listed.{extends-trans}
use Rattle.jh_approx.specs.jh_derivation_rules.Rules.{at_each}
use Rattle.jh_reach.proofs.NodeSteps.{object-there, truth-there}
use Rattle.jh_local_form.proofs.updates.Described.{object-is, truth-is}
use Rattle.jh_local_form.proofs.updates.describing.at_each.Goals as goal

pub same_object-requires-clause-a : goal.same_object-requires-clause-a
same_object-requires-clause-a c = object-there (slice_get (nodes c.bound.new.table) c.in_ok-object.object) _ c.in_ok-object.ensures.node

pub same_object-requires-clause-b : goal.same_object-requires-clause-b
same_object-requires-clause-b c = object-there (slice_get (nodes c.bound.new.table) c.args.at) _ (c.bound.ensures.grows.nodes.keeps c.args.at _ c.requires.at)

pub implication-requires-clause-a : goal.implication-requires-clause-a
implication-requires-clause-a c = truth-there (slice_get (nodes c.same_object.new.table) c.in_ok-here.here) _ c.in_ok-here.ensures.node

pub implication-requires-clause-b : goal.implication-requires-clause-b
implication-requires-clause-b c =
    truth-there (slice_get (nodes c.same_object.new.table) c.args.this) _ (c.same_object.ensures.grows.nodes.keeps c.args.this _ (c.bound.ensures.grows.nodes.keeps c.args.this _ c.requires.this))

pub negation-requires : goal.negation-requires
negation-requires c = record { a = truth-there (slice_get (nodes c.implication.new.table) c.in_ok-here.here) _ (c.implication.ensures.grows.nodes.keeps c.in_ok-here.here _ c.in_ok-here.ensures.node) }

pub implication-requires-2-clause-a : goal.implication-requires-2-clause-a
implication-requires-2-clause-a c = truth-there (slice_get (nodes c.negation.new.table) c.in_ok-elsewhere.elsewhere) _ c.in_ok-elsewhere.ensures.node

pub implication-requires-2-clause-b : goal.implication-requires-2-clause-b
implication-requires-2-clause-b c =
    truth-there (slice_get (nodes c.negation.new.table) c.args.that) _
    (c.negation.ensures.grows.nodes.keeps c.args.that _ (c.implication.ensures.grows.nodes.keeps c.args.that _ (c.same_object.ensures.grows.nodes.keeps c.args.that _ (c.bound.ensures.grows.nodes.keeps c.args.that _ c.requires.that))))

pub conjunction-requires-clause-a : goal.conjunction-requires-clause-a
conjunction-requires-clause-a c =
    truth-there (slice_get (nodes c.implication-2.new.table) c.in_ok-left.left) _ (c.implication-2.ensures.grows.nodes.keeps c.in_ok-left.left _ (c.negation.ensures.grows.nodes.keeps c.in_ok-left.left _ c.in_ok-left.ensures.node))

pub conjunction-requires-clause-b : goal.conjunction-requires-clause-b
conjunction-requires-clause-b c = truth-there (slice_get (nodes c.implication-2.new.table) c.in_ok-right.right) _ c.in_ok-right.ensures.node

pub for_all-requires : goal.for_all-requires
for_all-requires c = record { a = truth-there (slice_get (nodes c.conjunction.new.table) c.in_ok-body.body) _ c.in_ok-body.ensures.node }

pub returns-clause-node : goal.returns-clause-node
returns-clause-node c =
    let t0 = nodes c.args.table.now in
    let t1 = nodes c.bound.new.table in
    let t2 = nodes c.same_object.new.table in
    let t3 = nodes c.implication.new.table in
    let t4 = nodes c.negation.new.table in
    let t5 = nodes c.implication-2.new.table in
    let t6 = nodes c.conjunction.new.table in
    let t7 = nodes c.for_all.new.table in
    IfOk-weaker
    c.for_all.result
    (λ made. slice_get t7 made ≡ Some (of_truth (t.all (the_truth (slice_get t6 c.in_ok-body.body)))))
    (λ made. (a : TermTree) (p q : FormulaTree) → slice_get t0 c.args.at ≡ Some (of_object a) → slice_get t0 c.args.this ≡ Some (of_truth p) → slice_get t0 c.args.that ≡ Some (of_truth q) → slice_get t7 made ≡ Some (of_truth (at_each a p q)))
    (λ made e a p q ha hp hq.
    let object : the_object (slice_get t1 c.in_ok-object.object) ≡ t.bound 0 = object-is (slice_get t1 c.in_ok-object.object) (t.bound 0) c.in_ok-object.ensures.node in
    let at : the_object (slice_get t1 c.args.at) ≡ a = object-is (slice_get t1 c.args.at) a (c.bound.ensures.grows.nodes.keeps c.args.at _ ha) in
    let here : slice_get t2 c.in_ok-here.here ≡ Some (of_truth (t.eq_object (t.bound 0) a)) = c.in_ok-here.ensures.node ∙ (λ i. Some (of_truth (t.eq_object (object i) (at i)))) in
    let here2 : the_truth (slice_get t2 c.in_ok-here.here) ≡ t.eq_object (t.bound 0) a = truth-is (slice_get t2 c.in_ok-here.here) _ here in
    let this2 : the_truth (slice_get t2 c.args.this) ≡ p = truth-is (slice_get t2 c.args.this) p (c.same_object.ensures.grows.nodes.keeps c.args.this _ (c.bound.ensures.grows.nodes.keeps c.args.this _ hp)) in
    let left : slice_get t3 c.in_ok-left.left ≡ Some (of_truth (t.implies (t.eq_object (t.bound 0) a) p)) = c.in_ok-left.ensures.node ∙ (λ i. Some (of_truth (t.implies (here2 i) (this2 i)))) in
    let here3 : the_truth (slice_get t3 c.in_ok-here.here) ≡ t.eq_object (t.bound 0) a = truth-is (slice_get t3 c.in_ok-here.here) _ (c.implication.ensures.grows.nodes.keeps c.in_ok-here.here _ here) in
    let away : the_truth (slice_get t4 c.in_ok-elsewhere.elsewhere) ≡ t.negation (t.eq_object (t.bound 0) a) = truth-is (slice_get t4 c.in_ok-elsewhere.elsewhere) _ (c.in_ok-elsewhere.ensures.node ∙ ap (λ f. Some (of_truth (t.negation f))) here3) in
    let that4 : the_truth (slice_get t4 c.args.that) ≡ q =
    truth-is (slice_get t4 c.args.that) q
    (c.negation.ensures.grows.nodes.keeps c.args.that _ (c.implication.ensures.grows.nodes.keeps c.args.that _ (c.same_object.ensures.grows.nodes.keeps c.args.that _ (c.bound.ensures.grows.nodes.keeps c.args.that _ hq)))) in
    let right5 : the_truth (slice_get t5 c.in_ok-right.right) ≡ t.implies (t.negation (t.eq_object (t.bound 0) a)) q = truth-is (slice_get t5 c.in_ok-right.right) _ (c.in_ok-right.ensures.node ∙ (λ i. Some (of_truth (t.implies (away i) (that4 i))))) in
    let left5 : the_truth (slice_get t5 c.in_ok-left.left) ≡ t.implies (t.eq_object (t.bound 0) a) p = truth-is (slice_get t5 c.in_ok-left.left) _ (c.implication-2.ensures.grows.nodes.keeps c.in_ok-left.left _ (c.negation.ensures.grows.nodes.keeps c.in_ok-left.left _ left)) in
    let body : the_truth (slice_get t6 c.in_ok-body.body) ≡ t.and (t.implies (t.eq_object (t.bound 0) a) p) (t.implies (t.negation (t.eq_object (t.bound 0) a)) q) = truth-is (slice_get t6 c.in_ok-body.body) _ (c.in_ok-body.ensures.node ∙ (λ i. Some (of_truth (t.and (left5 i) (right5 i))))) in
    e ∙ ap (λ f. Some (of_truth (t.all f))) body)
    c.for_all.ensures.node

pub returns-clause-grows : goal.returns-clause-grows
returns-clause-grows c =
    extends-trans c.args.table.now c.conjunction.new.table c.for_all.new.table
    (extends-trans c.args.table.now c.implication-2.new.table c.conjunction.new.table
    (extends-trans c.args.table.now c.negation.new.table c.implication-2.new.table
    (extends-trans c.args.table.now c.implication.new.table c.negation.new.table
    (extends-trans c.args.table.now c.same_object.new.table c.implication.new.table (extends-trans c.args.table.now c.bound.new.table c.same_object.new.table c.bound.ensures.grows c.same_object.ensures.grows) c.implication.ensures.grows)
    c.negation.ensures.grows)
    c.implication-2.ensures.grows)
    c.conjunction.ensures.grows)
    c.for_all.ensures.grows

pub returns-in_err-body-clause-grows : goal.returns-in_err-body-clause-grows
returns-in_err-body-clause-grows c =
    extends-trans c.args.table.now c.implication-2.new.table c.conjunction.new.table
    (extends-trans c.args.table.now c.negation.new.table c.implication-2.new.table
    (extends-trans c.args.table.now c.implication.new.table c.negation.new.table
    (extends-trans c.args.table.now c.same_object.new.table c.implication.new.table (extends-trans c.args.table.now c.bound.new.table c.same_object.new.table c.bound.ensures.grows c.same_object.ensures.grows) c.implication.ensures.grows)
    c.negation.ensures.grows)
    c.implication-2.ensures.grows)
    c.conjunction.ensures.grows
