use Rattle.std.proofs.Common.{◌≡◌, refl, ap, sym, ◌∙◌, ◌<◌, ◌||◌, not, true, Some, slice_get, arith}
use Rattle.std.proofs.lemmas.Result.{IfOk-weaker}
use Rattle.jh_form.specs.Tree.{of_truth}
use Rattle.jh_form.specs.Tree as t
use Rattle.jh_arena.specs.table.Entries.{the_truth, the_mark}
use Rattle.jh_arena.specs.table.Growth.{Extends}
use Rattle.jh_arena.specs.table.Nodes.{nodes, fits_in, tree_in, shape_tree}
use Rattle.jh_arena.specs.table.Parts.{own_parts, list_parts}
use Rattle.jh_arena.specs.declared.table.shapes.Shape.TheVariants as s
use Rattle.jh_arena.proofs.table.Listed.{extends-trans}
use Rattle.jh_arena.proofs.table.NodeSteps.{fits-Mark, tree-Mark}
use Rattle.jh_arena.proofs.table.PartSteps.{part-Mark-m}
use Rattle.jh_fca.specs.elimination.Constraints.{Constraint}
use Rattle.jh_fca.specs.elimination.Reads.{holds_read}
use Rattle.jh_fca.specs.elimination.Exchanged.{atom_exchanged, eliminated}
use Rattle.jh_field_constraints.specs.Standing.{IsConstraint}
use Rattle.jh_field_constraints.specs.Reading.{is_atom}
use Rattle.jh_field_constraints.specs.Walking.{IsEliminated, both_ways, joined, quantified_by}
use Rattle.jh_field_constraints.specs.Memos.{found}
use Rattle.jh_field_constraints.proofs.Standings.{truth-inside, truth-there, truth-at, truth-stays}
use Rattle.jh_field_constraints.proofs.Shapes.{is-atom}
use Rattle.jh_field_constraints.proofs.Exchanges.{atom-eliminated}
use Rattle.jh_field_constraints.proofs.Arms.{local-stays, constraint-grows, constraint-back, holds-stay, holds-note, answered, eliminated-at, on-ok, mark-stays, part-below, and-left, and-right, or-left, or-right, implies-left, implies-right, iff-left, iff-right, negation-part, all-part, ex-part, mark-part, negation-arm, and-arm, or-arm, implies-arm, iff-arm, all-arm, ex-arm, mark-arm, opened-iff, closed-iff}
use Rattle.jh_field_constraints.proofs.formulas.+walked.Goals as goal

pub both-walked-requires-2 : goal.both-walked-requires-2
both-walked-requires-2 τ c = (
  omega (arith, c.decreases, c.requires.below.1),
  (
    (c.requires.of.0, constraint-grows c.args.table.now c.walked.new.table c.args.of c.requires.of.0 c.walked.ensures.grows c.requires.of.1),
    (
      local-stays (nodes c.args.table.now) (nodes c.walked.new.table) c.args.b c.walked.ensures.grows.nodes c.requires.b,
      λ d k. c.in_ok-left.ensures.memo d (constraint-back c.args.table.now c.walked.new.table c.args.of c.requires.of.0 d c.walked.ensures.grows c.requires.of.1 k),
    ),
  ),
)

pub both-join-requires-clause-a : goal.both-join-requires-clause-a
both-join-requires-clause-a τ c =
    truth-there (slice_get (nodes c.walked-2.new.table) c.in_ok-left.left) _ (c.walked-2.ensures.grows.nodes.keeps c.in_ok-left.left _ (c.in_ok-left.ensures.node c.requires.of.0 c.requires.of.1).is)

pub both-join-requires-clause-b : goal.both-join-requires-clause-b
both-join-requires-clause-b τ c =
    truth-there (slice_get (nodes c.walked-2.new.table) c.in_ok-right.right) _ (c.in_ok-right.ensures.node c.requires.of.0 (constraint-grows c.args.table.now c.walked.new.table c.args.of c.requires.of.0 c.walked.ensures.grows c.requires.of.1)).is

pub both-returns-clause-node : goal.both-returns-clause-node
both-returns-clause-node τ c =
    let t0 = c.args.table.now in
    let t1 = c.walked.new.table in
    let t2 = c.walked-2.new.table in
    let l = c.in_ok-left.left in
    let r = c.in_ok-right.right in
    let grows : Extends t0 t2 = extends-trans t0 t1 t2 c.walked.ensures.grows c.walked-2.ensures.grows in
    let left : (d : Constraint) → IsConstraint t0 c.args.of d → the_truth (slice_get (nodes t2) l) ≡ eliminated d (the_truth (slice_get (nodes t0) c.args.a)) c.args.first =
    λ d k. truth-at (slice_get (nodes t2) l) _ (c.walked-2.ensures.grows.nodes.keeps l _ (eliminated-at d t0 t1 c.args.a l c.args.first c.walked.ensures.grows c.requires.a.there (c.in_ok-left.ensures.node d k))) in
    let right : (d : Constraint) → IsConstraint t0 c.args.of d → the_truth (slice_get (nodes t2) r) ≡ eliminated d (the_truth (slice_get (nodes t0) c.args.b)) c.args.second =
    λ d k. truth-at (slice_get (nodes t2) r) _ (eliminated-at d t0 t2 c.args.b r c.args.second grows c.requires.b.there (c.in_ok-right.ensures.node d (constraint-grows t0 t1 c.args.of d c.walked.ensures.grows k))) in
    IfOk-weaker
    c.join.result
    (λ made. slice_get (nodes c.join.new.table) made ≡ Some (of_truth (joined c.args.connective (the_truth (slice_get (nodes t2) l)) (the_truth (slice_get (nodes t2) r)))))
    (λ made. (d : Constraint) → IsConstraint t0 c.args.of d → slice_get (nodes c.join.new.table) made ≡ Some (of_truth (joined c.args.connective (eliminated d (the_truth (slice_get (nodes t0) c.args.a)) c.args.first) (eliminated d (the_truth (slice_get (nodes t0) c.args.b)) c.args.second))))
    (λ made at d k. at ∙ (λ i. Some (of_truth (joined c.args.connective (left d k i) (right d k i)))))
    c.join.ensures.node

pub both-returns-clause-memo : goal.both-returns-clause-memo
both-returns-clause-memo τ c =
    on-ok c.join.result
    (λ d k. holds-stay d (nodes c.walked-2.new.table) (nodes c.join.new.table) (found c.walked-2.new.memo.answers) c.join.ensures.grows.nodes (c.in_ok-right.ensures.memo d (constraint-grows c.args.table.now c.walked.new.table c.args.of d c.walked.ensures.grows k)))

pub bound-quantify-requires : goal.bound-quantify-requires
bound-quantify-requires τ c = record { a = truth-there (slice_get (nodes c.walked.new.table) c.in_ok-body.body) _ (c.in_ok-body.ensures.node c.requires.of.0 c.requires.of.1).is }

pub bound-returns-clause-node : goal.bound-returns-clause-node
bound-returns-clause-node τ c =
    let t0 = c.args.table.now in
    let t1 = c.walked.new.table in
    let body : (d : Constraint) → IsConstraint t0 c.args.of d → the_truth (slice_get (nodes t1) c.in_ok-body.body) ≡ eliminated d (the_truth (slice_get (nodes t0) c.args.a)) c.args.positive =
    λ d k. truth-at (slice_get (nodes t1) c.in_ok-body.body) _ (eliminated-at d t0 t1 c.args.a c.in_ok-body.body c.args.positive c.walked.ensures.grows c.requires.a.there (c.in_ok-body.ensures.node d k)) in
    IfOk-weaker
    c.quantify.result
    (λ made. slice_get (nodes c.quantify.new.table) made ≡ Some (of_truth (quantified_by c.args.universal (the_truth (slice_get (nodes t1) c.in_ok-body.body)))))
    (λ made. (d : Constraint) → IsConstraint t0 c.args.of d → slice_get (nodes c.quantify.new.table) made ≡ Some (of_truth (quantified_by c.args.universal (eliminated d (the_truth (slice_get (nodes t0) c.args.a)) c.args.positive))))
    (λ made at d k. at ∙ (λ i. Some (of_truth (quantified_by c.args.universal (body d k i)))))
    c.quantify.ensures.node

pub bound-returns-clause-memo : goal.bound-returns-clause-memo
bound-returns-clause-memo τ c = on-ok c.quantify.result (λ d k. holds-stay d (nodes c.walked.new.table) (nodes c.quantify.new.table) (found c.walked.new.memo.answers) c.quantify.ensures.grows.nodes (c.in_ok-body.ensures.memo d k))

pub negated-negation-requires : goal.negated-negation-requires
negated-negation-requires τ c = record { a = truth-there (slice_get (nodes c.walked.new.table) c.in_ok-inner.inner) _ (c.in_ok-inner.ensures.node c.requires.of.0 c.requires.of.1).is }

pub negated-returns-clause-node : goal.negated-returns-clause-node
negated-returns-clause-node τ c =
    let t0 = c.args.table.now in
    let t1 = c.walked.new.table in
    let body : (d : Constraint) → IsConstraint t0 c.args.of d → the_truth (slice_get (nodes t1) c.in_ok-inner.inner) ≡ eliminated d (the_truth (slice_get (nodes t0) c.args.a)) (not c.args.positive) =
    λ d k. truth-at (slice_get (nodes t1) c.in_ok-inner.inner) _ (eliminated-at d t0 t1 c.args.a c.in_ok-inner.inner (not c.args.positive) c.walked.ensures.grows c.requires.a.there (c.in_ok-inner.ensures.node d k)) in
    IfOk-weaker
    c.negation.result
    (λ made. slice_get (nodes c.negation.new.table) made ≡ Some (of_truth (t.negation (the_truth (slice_get (nodes t1) c.in_ok-inner.inner)))))
    (λ made. (d : Constraint) → IsConstraint t0 c.args.of d → slice_get (nodes c.negation.new.table) made ≡ Some (of_truth (t.negation (eliminated d (the_truth (slice_get (nodes t0) c.args.a)) (not c.args.positive)))))
    (λ made at d k. at ∙ (λ i. Some (of_truth (t.negation (body d k i)))))
    c.negation.ensures.node

pub negated-returns-clause-memo : goal.negated-returns-clause-memo
negated-returns-clause-memo τ c = on-ok c.negation.result (λ d k. holds-stay d (nodes c.walked.new.table) (nodes c.negation.new.table) (found c.walked.new.memo.answers) c.negation.ensures.grows.nodes (c.in_ok-inner.ensures.memo d k))

pub labelled-make-requires : goal.labelled-make-requires
labelled-make-requires τ c =
    fits-Mark c.walked.new.table.pools (nodes c.walked.new.table) c.args.label c.in_ok-body.body _ _ (mark-stays c.args.table.now c.walked.new.table c.args.label c.walked.ensures.grows c.requires.label) (c.in_ok-body.ensures.node c.requires.of.0 c.requires.of.1).is

pub labelled-returns-clause-node : goal.labelled-returns-clause-node
labelled-returns-clause-node τ c =
    let t0 = c.args.table.now in
    let t1 = c.walked.new.table in
    let w = λ (d : Constraint). t.mark (the_mark (slice_get t0.pools.marks c.args.label)) (eliminated d (the_truth (slice_get (nodes t0) c.args.a)) c.args.positive) in
    IfOk-weaker
    c.make.result
    (λ made. slice_get (nodes c.make.new.self) made ≡ Some (tree_in t1 (s.Mark c.args.label c.in_ok-body.body)))
    (λ made. (d : Constraint) → IsConstraint t0 c.args.of d → slice_get (nodes c.make.new.self) made ≡ Some (of_truth (w d)))
    (λ made at d k. at
    ∙ ap (λ v. Some v) (tree-Mark t1.pools (nodes t1) c.args.label c.in_ok-body.body (the_mark (slice_get t0.pools.marks c.args.label)) (eliminated d (the_truth (slice_get (nodes t0) c.args.a)) c.args.positive)
    (mark-stays t0 t1 c.args.label c.walked.ensures.grows c.requires.label)
    (eliminated-at d t0 t1 c.args.a c.in_ok-body.body c.args.positive c.walked.ensures.grows c.requires.a.there (c.in_ok-body.ensures.node d k))))
    c.make.ensures.node

pub labelled-returns-clause-memo : goal.labelled-returns-clause-memo
labelled-returns-clause-memo τ c = on-ok c.make.result (λ d k. holds-stay d (nodes c.walked.new.table) (nodes c.make.new.self) (found c.walked.new.memo.answers) c.make.ensures.grows.nodes (c.in_ok-body.ensures.memo d k))

pub walked-returns-in-Some-clause-node : goal.walked-returns-in-Some-clause-node
walked-returns-in-Some-clause-node τ c = λ d k. (c.requires.memo d k).at c.args.formula c.in-Some.answer (sym c.known.ensures ∙ c.in-Some.is)

pub walked-shape-shape-requires : goal.walked-shape-shape-requires
walked-shape-shape-requires τ c = truth-inside (nodes c.args.table.now) c.args.formula.node c.requires.formula.there

pub walked-returns-in_ok-note-in-None-clause-memo : goal.walked-returns-in_ok-note-in-None-clause-memo
walked-returns-in_ok-note-in-None-clause-memo τ c = λ d k.
    holds-note d (nodes c.walked_shape.new.table) (found c.walked_shape.new.memo.answers) (found c.note.new.self.answers) c.args.formula c.in_ok-answer-in-None.answer (c.in_ok-answer-in-None.ensures.memo d k) (c.in_ok-answer-in-None.ensures.node d k) c.in_ok-note-in-None.ensures.others

pub walked_shape-both-requires : goal.walked_shape-both-requires
unfolding own_parts list_parts
walked_shape-both-requires τ c =
    let first : c.in-And.a < c.args.formula.node = part-below c.args.formula.node c.args.table.now.pools.lists c.args.shape (s.And c.in-And.a c.in-And.b) 0 c.in-And.a c.requires.below c.in-And.is refl in
    let second : c.in-And.b < c.args.formula.node = part-below c.args.formula.node c.args.table.now.pools.lists c.args.shape (s.And c.in-And.a c.in-And.b) 1 c.in-And.b c.requires.below c.in-And.is refl in
    let left = and-left c.args.table.now c.args.formula.node c.args.shape c.requires.there c.requires.formula c.requires.fits c.in-And.a c.in-And.b c.in-And.is in
    let right = and-right c.args.table.now c.args.formula.node c.args.shape c.requires.there c.requires.formula c.requires.fits c.in-And.a c.in-And.b c.in-And.is in
    (omega (arith, c.decreases, first, second), (c.requires.of, (left, (right, ((first, second), c.requires.memo)))))

pub walked_shape-both-requires-in-Or : goal.walked_shape-both-requires-in-Or
unfolding own_parts list_parts
walked_shape-both-requires-in-Or τ c =
    let first : c.in-Or.a < c.args.formula.node = part-below c.args.formula.node c.args.table.now.pools.lists c.args.shape (s.Or c.in-Or.a c.in-Or.b) 0 c.in-Or.a c.requires.below c.in-Or.is refl in
    let second : c.in-Or.b < c.args.formula.node = part-below c.args.formula.node c.args.table.now.pools.lists c.args.shape (s.Or c.in-Or.a c.in-Or.b) 1 c.in-Or.b c.requires.below c.in-Or.is refl in
    let left = or-left c.args.table.now c.args.formula.node c.args.shape c.requires.there c.requires.formula c.requires.fits c.in-Or.a c.in-Or.b c.in-Or.is in
    let right = or-right c.args.table.now c.args.formula.node c.args.shape c.requires.there c.requires.formula c.requires.fits c.in-Or.a c.in-Or.b c.in-Or.is in
    (omega (arith, c.decreases, first, second), (c.requires.of, (left, (right, ((first, second), c.requires.memo)))))

pub walked_shape-both-requires-in-Implies : goal.walked_shape-both-requires-in-Implies
unfolding own_parts list_parts
walked_shape-both-requires-in-Implies τ c =
    let first : c.in-Implies.a < c.args.formula.node = part-below c.args.formula.node c.args.table.now.pools.lists c.args.shape (s.Implies c.in-Implies.a c.in-Implies.b) 0 c.in-Implies.a c.requires.below c.in-Implies.is refl in
    let second : c.in-Implies.b < c.args.formula.node = part-below c.args.formula.node c.args.table.now.pools.lists c.args.shape (s.Implies c.in-Implies.a c.in-Implies.b) 1 c.in-Implies.b c.requires.below c.in-Implies.is refl in
    let left = implies-left c.args.table.now c.args.formula.node c.args.shape c.requires.there c.requires.formula c.requires.fits c.in-Implies.a c.in-Implies.b c.in-Implies.is in
    let right = implies-right c.args.table.now c.args.formula.node c.args.shape c.requires.there c.requires.formula c.requires.fits c.in-Implies.a c.in-Implies.b c.in-Implies.is in
    (omega (arith, c.decreases, first, second), (c.requires.of, (left, (right, ((first, second), c.requires.memo)))))

pub walked_shape-equivalent-requires : goal.walked_shape-equivalent-requires
unfolding own_parts list_parts shape_tree
walked_shape-equivalent-requires τ c =
    let first : c.in-Iff.a < c.args.formula.node = part-below c.args.formula.node c.args.table.now.pools.lists c.args.shape (s.Iff c.in-Iff.a c.in-Iff.b) 0 c.in-Iff.a c.requires.below c.in-Iff.is refl in
    let second : c.in-Iff.b < c.args.formula.node = part-below c.args.formula.node c.args.table.now.pools.lists c.args.shape (s.Iff c.in-Iff.a c.in-Iff.b) 1 c.in-Iff.b c.requires.below c.in-Iff.is refl in
    let left = iff-left c.args.table.now c.args.formula.node c.args.shape c.requires.there c.requires.formula c.requires.fits c.in-Iff.a c.in-Iff.b c.in-Iff.is in
    let right = iff-right c.args.table.now c.args.formula.node c.args.shape c.requires.there c.requires.formula c.requires.fits c.in-Iff.a c.in-Iff.b c.in-Iff.is in
    (omega (arith, c.decreases, first, second), (c.requires.of, (c.requires.there ∙ ap (λ x. Some (tree_in c.args.table.now x)) c.in-Iff.is, (left, (right, ((first, second), c.requires.memo))))))

pub walked_shape-negated-requires : goal.walked_shape-negated-requires
unfolding own_parts list_parts
walked_shape-negated-requires τ c =
    let first : c.in-Negation.a < c.args.formula.node = part-below c.args.formula.node c.args.table.now.pools.lists c.args.shape (s.Negation c.in-Negation.a) 0 c.in-Negation.a c.requires.below c.in-Negation.is refl in
    let part = negation-part c.args.table.now c.args.formula.node c.args.shape c.requires.there c.requires.formula c.requires.fits c.in-Negation.a c.in-Negation.is in
    (omega (arith, c.decreases, first), (c.requires.of, (part, (first, c.requires.memo))))

pub walked_shape-bound-requires : goal.walked_shape-bound-requires
unfolding own_parts list_parts
walked_shape-bound-requires τ c =
    let first : c.in-All.a < c.args.formula.node = part-below c.args.formula.node c.args.table.now.pools.lists c.args.shape (s.All c.in-All.a) 0 c.in-All.a c.requires.below c.in-All.is refl in
    let part = all-part c.args.table.now c.args.formula.node c.args.shape c.requires.there c.requires.formula c.requires.fits c.in-All.a c.in-All.is in
    (omega (arith, c.decreases, first), (c.requires.of, (part, (first, c.requires.memo))))

pub walked_shape-bound-requires-in-Ex : goal.walked_shape-bound-requires-in-Ex
unfolding own_parts list_parts
walked_shape-bound-requires-in-Ex τ c =
    let first : c.in-Ex.a < c.args.formula.node = part-below c.args.formula.node c.args.table.now.pools.lists c.args.shape (s.Ex c.in-Ex.a) 0 c.in-Ex.a c.requires.below c.in-Ex.is refl in
    let part = ex-part c.args.table.now c.args.formula.node c.args.shape c.requires.there c.requires.formula c.requires.fits c.in-Ex.a c.in-Ex.is in
    (omega (arith, c.decreases, first), (c.requires.of, (part, (first, c.requires.memo))))

pub walked_shape-labelled-requires : goal.walked_shape-labelled-requires
unfolding own_parts list_parts
walked_shape-labelled-requires τ c =
    let fits : fits_in c.args.table.now (s.Mark c.in-Mark.label c.in-Mark.a) ≡ true = ap (fits_in c.args.table.now) (sym c.in-Mark.is) ∙ c.requires.fits in
    let marked = part-Mark-m c.args.table.now.pools (nodes c.args.table.now) c.in-Mark.label c.in-Mark.a fits in
    let first : c.in-Mark.a < c.args.formula.node = part-below c.args.formula.node c.args.table.now.pools.lists c.args.shape (s.Mark c.in-Mark.label c.in-Mark.a) 0 c.in-Mark.a c.requires.below c.in-Mark.is refl in
    let part = mark-part c.args.table.now c.args.formula.node c.args.shape c.requires.there c.requires.formula c.requires.fits c.in-Mark.a c.in-Mark.label c.in-Mark.is in
    (omega (arith, c.decreases, first), (c.requires.of, (marked, (part, (first, c.requires.memo)))))

pub walked_shape-returns-in-And-clause-node : goal.walked_shape-returns-in-And-clause-node
walked_shape-returns-in-And-clause-node τ c =
    IfOk-weaker
    c.both.result
    (λ made. (d : Constraint) → IsConstraint c.args.table.now c.args.of d → slice_get (nodes c.both.new.table) made ≡ Some (of_truth (t.and (eliminated d (the_truth (slice_get (nodes c.args.table.now) c.in-And.a)) c.args.formula.positive) (eliminated d (the_truth (slice_get (nodes c.args.table.now) c.in-And.b)) c.args.formula.positive))))
    (λ made. (d : Constraint) → IsConstraint c.args.table.now c.args.of d → IsEliminated d (nodes c.both.new.table) c.args.formula.node c.args.formula.positive made)
    (λ made at d k. answered d c.args.table.now c.both.new.table c.args.formula.node made c.args.formula.positive c.args.shape (t.and (eliminated d (the_truth (slice_get (nodes c.args.table.now) c.in-And.a)) c.args.formula.positive) (eliminated d (the_truth (slice_get (nodes c.args.table.now) c.in-And.b)) c.args.formula.positive)) c.both.ensures.grows c.requires.there c.requires.formula
    (and-arm d c.args.table.now.pools (nodes c.args.table.now) c.args.shape c.in-And.a c.in-And.b c.args.formula.positive c.in-And.is) (at d k))
    c.both.ensures.node

pub walked_shape-returns-in-Or-clause-node : goal.walked_shape-returns-in-Or-clause-node
walked_shape-returns-in-Or-clause-node τ c =
    IfOk-weaker
    c.both-in-Or.result
    (λ made. (d : Constraint) → IsConstraint c.args.table.now c.args.of d → slice_get (nodes c.both-in-Or.new.table) made ≡ Some (of_truth (t.or (eliminated d (the_truth (slice_get (nodes c.args.table.now) c.in-Or.a)) c.args.formula.positive) (eliminated d (the_truth (slice_get (nodes c.args.table.now) c.in-Or.b)) c.args.formula.positive))))
    (λ made. (d : Constraint) → IsConstraint c.args.table.now c.args.of d → IsEliminated d (nodes c.both-in-Or.new.table) c.args.formula.node c.args.formula.positive made)
    (λ made at d k. answered d c.args.table.now c.both-in-Or.new.table c.args.formula.node made c.args.formula.positive c.args.shape (t.or (eliminated d (the_truth (slice_get (nodes c.args.table.now) c.in-Or.a)) c.args.formula.positive) (eliminated d (the_truth (slice_get (nodes c.args.table.now) c.in-Or.b)) c.args.formula.positive)) c.both-in-Or.ensures.grows c.requires.there c.requires.formula
    (or-arm d c.args.table.now.pools (nodes c.args.table.now) c.args.shape c.in-Or.a c.in-Or.b c.args.formula.positive c.in-Or.is) (at d k))
    c.both-in-Or.ensures.node

pub walked_shape-returns-in-Implies-clause-node : goal.walked_shape-returns-in-Implies-clause-node
walked_shape-returns-in-Implies-clause-node τ c =
    IfOk-weaker
    c.both-in-Implies.result
    (λ made. (d : Constraint) → IsConstraint c.args.table.now c.args.of d → slice_get (nodes c.both-in-Implies.new.table) made ≡ Some (of_truth (t.implies (eliminated d (the_truth (slice_get (nodes c.args.table.now) c.in-Implies.a)) (not c.args.formula.positive)) (eliminated d (the_truth (slice_get (nodes c.args.table.now) c.in-Implies.b)) c.args.formula.positive))))
    (λ made. (d : Constraint) → IsConstraint c.args.table.now c.args.of d → IsEliminated d (nodes c.both-in-Implies.new.table) c.args.formula.node c.args.formula.positive made)
    (λ made at d k. answered d c.args.table.now c.both-in-Implies.new.table c.args.formula.node made c.args.formula.positive c.args.shape (t.implies (eliminated d (the_truth (slice_get (nodes c.args.table.now) c.in-Implies.a)) (not c.args.formula.positive)) (eliminated d (the_truth (slice_get (nodes c.args.table.now) c.in-Implies.b)) c.args.formula.positive)) c.both-in-Implies.ensures.grows c.requires.there c.requires.formula
    (implies-arm d c.args.table.now.pools (nodes c.args.table.now) c.args.shape c.in-Implies.a c.in-Implies.b c.args.formula.positive c.in-Implies.is) (at d k))
    c.both-in-Implies.ensures.node

pub walked_shape-returns-in-Iff-clause-node : goal.walked_shape-returns-in-Iff-clause-node
walked_shape-returns-in-Iff-clause-node τ c =
    IfOk-weaker
    c.equivalent.result
    (λ made. (d : Constraint) → IsConstraint c.args.table.now c.args.of d → slice_get (nodes c.equivalent.new.table) made ≡ Some (of_truth (eliminated d (t.iff (the_truth (slice_get (nodes c.args.table.now) c.in-Iff.a)) (the_truth (slice_get (nodes c.args.table.now) c.in-Iff.b))) c.args.formula.positive)))
    (λ made. (d : Constraint) → IsConstraint c.args.table.now c.args.of d → IsEliminated d (nodes c.equivalent.new.table) c.args.formula.node c.args.formula.positive made)
    (λ made at d k. answered d c.args.table.now c.equivalent.new.table c.args.formula.node made c.args.formula.positive c.args.shape (eliminated d (t.iff (the_truth (slice_get (nodes c.args.table.now) c.in-Iff.a)) (the_truth (slice_get (nodes c.args.table.now) c.in-Iff.b))) c.args.formula.positive) c.equivalent.ensures.grows c.requires.there c.requires.formula
    (iff-arm d c.args.table.now.pools (nodes c.args.table.now) c.args.shape c.in-Iff.a c.in-Iff.b c.args.formula.positive c.in-Iff.is) (at d k))
    c.equivalent.ensures.node

pub walked_shape-returns-in-All-clause-node : goal.walked_shape-returns-in-All-clause-node
walked_shape-returns-in-All-clause-node τ c =
    IfOk-weaker
    c.bound.result
    (λ made. (d : Constraint) → IsConstraint c.args.table.now c.args.of d → slice_get (nodes c.bound.new.table) made ≡ Some (of_truth (t.all (eliminated d (the_truth (slice_get (nodes c.args.table.now) c.in-All.a)) c.args.formula.positive))))
    (λ made. (d : Constraint) → IsConstraint c.args.table.now c.args.of d → IsEliminated d (nodes c.bound.new.table) c.args.formula.node c.args.formula.positive made)
    (λ made at d k. answered d c.args.table.now c.bound.new.table c.args.formula.node made c.args.formula.positive c.args.shape (t.all (eliminated d (the_truth (slice_get (nodes c.args.table.now) c.in-All.a)) c.args.formula.positive)) c.bound.ensures.grows c.requires.there c.requires.formula
    (all-arm d c.args.table.now.pools (nodes c.args.table.now) c.args.shape c.in-All.a c.args.formula.positive c.in-All.is) (at d k))
    c.bound.ensures.node

pub walked_shape-returns-in-Ex-clause-node : goal.walked_shape-returns-in-Ex-clause-node
walked_shape-returns-in-Ex-clause-node τ c =
    IfOk-weaker
    c.bound-in-Ex.result
    (λ made. (d : Constraint) → IsConstraint c.args.table.now c.args.of d → slice_get (nodes c.bound-in-Ex.new.table) made ≡ Some (of_truth (t.ex (eliminated d (the_truth (slice_get (nodes c.args.table.now) c.in-Ex.a)) c.args.formula.positive))))
    (λ made. (d : Constraint) → IsConstraint c.args.table.now c.args.of d → IsEliminated d (nodes c.bound-in-Ex.new.table) c.args.formula.node c.args.formula.positive made)
    (λ made at d k. answered d c.args.table.now c.bound-in-Ex.new.table c.args.formula.node made c.args.formula.positive c.args.shape (t.ex (eliminated d (the_truth (slice_get (nodes c.args.table.now) c.in-Ex.a)) c.args.formula.positive)) c.bound-in-Ex.ensures.grows c.requires.there c.requires.formula
    (ex-arm d c.args.table.now.pools (nodes c.args.table.now) c.args.shape c.in-Ex.a c.args.formula.positive c.in-Ex.is) (at d k))
    c.bound-in-Ex.ensures.node

pub walked_shape-returns-in-Negation-clause-node : goal.walked_shape-returns-in-Negation-clause-node
walked_shape-returns-in-Negation-clause-node τ c =
    IfOk-weaker
    c.negated.result
    (λ made. (d : Constraint) → IsConstraint c.args.table.now c.args.of d → slice_get (nodes c.negated.new.table) made ≡ Some (of_truth (t.negation (eliminated d (the_truth (slice_get (nodes c.args.table.now) c.in-Negation.a)) (not c.args.formula.positive)))))
    (λ made. (d : Constraint) → IsConstraint c.args.table.now c.args.of d → IsEliminated d (nodes c.negated.new.table) c.args.formula.node c.args.formula.positive made)
    (λ made at d k. answered d c.args.table.now c.negated.new.table c.args.formula.node made c.args.formula.positive c.args.shape (t.negation (eliminated d (the_truth (slice_get (nodes c.args.table.now) c.in-Negation.a)) (not c.args.formula.positive))) c.negated.ensures.grows c.requires.there c.requires.formula
    (negation-arm d c.args.table.now.pools (nodes c.args.table.now) c.args.shape c.in-Negation.a c.args.formula.positive c.in-Negation.is) (at d k))
    c.negated.ensures.node

pub walked_shape-returns-in-Mark-clause-node : goal.walked_shape-returns-in-Mark-clause-node
walked_shape-returns-in-Mark-clause-node τ c =
    IfOk-weaker
    c.labelled.result
    (λ made. (d : Constraint) → IsConstraint c.args.table.now c.args.of d → slice_get (nodes c.labelled.new.table) made ≡ Some (of_truth (t.mark (the_mark (slice_get c.args.table.now.pools.marks c.in-Mark.label)) (eliminated d (the_truth (slice_get (nodes c.args.table.now) c.in-Mark.a)) c.args.formula.positive))))
    (λ made. (d : Constraint) → IsConstraint c.args.table.now c.args.of d → IsEliminated d (nodes c.labelled.new.table) c.args.formula.node c.args.formula.positive made)
    (λ made at d k. answered d c.args.table.now c.labelled.new.table c.args.formula.node made c.args.formula.positive c.args.shape (t.mark (the_mark (slice_get c.args.table.now.pools.marks c.in-Mark.label)) (eliminated d (the_truth (slice_get (nodes c.args.table.now) c.in-Mark.a)) c.args.formula.positive)) c.labelled.ensures.grows c.requires.there c.requires.formula
    (mark-arm d c.args.table.now.pools (nodes c.args.table.now) c.args.shape c.in-Mark.label c.in-Mark.a c.args.formula.positive c.in-Mark.is) (at d k))
    c.labelled.ensures.node

pub walked_shape-atom_exchanged-requires : goal.walked_shape-atom_exchanged-requires
walked_shape-atom_exchanged-requires τ c = record {
  of = c.requires.of;
  atom = record {
    local = c.requires.formula;
    atom = ap (λ o. is_atom (the_truth o)) c.requires.there ∙ is-atom c.args.table.now.pools (nodes c.args.table.now) c.args.shape c.in_default.not-Negation c.in_default.not-And c.in_default.not-Or c.in_default.not-Implies c.in_default.not-Iff c.in_default.not-All c.in_default.not-Ex c.in_default.not-Mark;
  };
}

pub walked_shape-returns-in_default : goal.walked_shape-returns-in_default
walked_shape-returns-in_default τ c =
    let t0 = c.args.table.now in
    let t1 = c.atom_exchanged.new.table in
    let p = the_truth (slice_get (nodes t0) c.args.formula.node) in
    let atom : is_atom p ≡ true = ap (λ o. is_atom (the_truth o)) c.requires.there ∙ is-atom t0.pools (nodes t0) c.args.shape c.in_default.not-Negation c.in_default.not-And c.in_default.not-Or c.in_default.not-Implies c.in_default.not-Iff c.in_default.not-All c.in_default.not-Ex c.in_default.not-Mark in
    record {
      node = IfOk-weaker
          c.atom_exchanged.result
          (λ made. (d : Constraint) → IsConstraint t0 c.args.of d → slice_get (nodes t1) made ≡ Some (of_truth (atom_exchanged d p c.args.formula.positive)))
          (λ made. (d : Constraint) → IsConstraint t0 c.args.of d → IsEliminated d (nodes t1) c.args.formula.node c.args.formula.positive made)
          (λ made at d k. answered d t0 t1 c.args.formula.node made c.args.formula.positive c.args.shape (atom_exchanged d p c.args.formula.positive) c.atom_exchanged.ensures.grows c.requires.there c.requires.formula
          (atom-eliminated d p c.args.formula.positive atom ∙ ap (λ o. eliminated d (the_truth o) c.args.formula.positive) c.requires.there) (at d k))
          c.atom_exchanged.ensures.node;
      grows = c.atom_exchanged.ensures.grows;
      memo = on-ok c.atom_exchanged.result (λ d k. holds-stay d (nodes t0) (nodes t1) (found c.args.memo.now.answers) c.atom_exchanged.ensures.grows.nodes (c.requires.memo d k));
    }

pub opened-both-requires-2 : goal.opened-both-requires-2
opened-both-requires-2 τ c = (
  omega (arith, c.decreases),
  (
    (c.requires.of.0, constraint-grows c.args.table.now c.both.new.table c.args.of c.requires.of.0 c.both.ensures.grows c.requires.of.1),
    (
      local-stays (nodes c.args.table.now) (nodes c.both.new.table) c.args.b c.both.ensures.grows.nodes c.requires.b,
      (
        local-stays (nodes c.args.table.now) (nodes c.both.new.table) c.args.a c.both.ensures.grows.nodes c.requires.a,
        (
          (c.requires.below.1, c.requires.below.0),
          λ d k. c.in_ok-there.ensures.memo d (constraint-back c.args.table.now c.both.new.table c.args.of c.requires.of.0 d c.both.ensures.grows c.requires.of.1 k),
        ),
      ),
    ),
  ),
)

pub opened-conjunction-requires-clause-a : goal.opened-conjunction-requires-clause-a
opened-conjunction-requires-clause-a τ c =
    truth-there (slice_get (nodes c.both-2.new.table) c.in_ok-there.there) _ (c.both-2.ensures.grows.nodes.keeps c.in_ok-there.there _ (c.in_ok-there.ensures.node c.requires.of.0 c.requires.of.1))

pub opened-conjunction-requires-clause-b : goal.opened-conjunction-requires-clause-b
opened-conjunction-requires-clause-b τ c =
    truth-there (slice_get (nodes c.both-2.new.table) c.in_ok-back.back) _ (c.in_ok-back.ensures.node c.requires.of.0 (constraint-grows c.args.table.now c.both.new.table c.args.of c.requires.of.0 c.both.ensures.grows c.requires.of.1))

pub opened-returns-clause-node : goal.opened-returns-clause-node
opened-returns-clause-node τ c =
    let t0 = c.args.table.now in
    let t1 = c.both.new.table in
    let t2 = c.both-2.new.table in
    let a = the_truth (slice_get (nodes t0) c.args.a) in
    let b = the_truth (slice_get (nodes t0) c.args.b) in
    let first : the_truth (slice_get (nodes t1) c.args.a) ≡ a = truth-at (slice_get (nodes t1) c.args.a) a (truth-stays t0 t1 c.args.a c.both.ensures.grows c.requires.a.there) in
    let second : the_truth (slice_get (nodes t1) c.args.b) ≡ b = truth-at (slice_get (nodes t1) c.args.b) b (truth-stays t0 t1 c.args.b c.both.ensures.grows c.requires.b.there) in
    let left : (d : Constraint) → IsConstraint t0 c.args.of d → the_truth (slice_get (nodes t2) c.in_ok-there.there) ≡ t.implies (eliminated d a (not c.args.positive)) (eliminated d b c.args.positive) =
    λ d k. truth-at (slice_get (nodes t2) c.in_ok-there.there) _ (c.both-2.ensures.grows.nodes.keeps c.in_ok-there.there _ (c.in_ok-there.ensures.node d k)) in
    let right : (d : Constraint) → IsConstraint t0 c.args.of d → the_truth (slice_get (nodes t2) c.in_ok-back.back) ≡ t.implies (eliminated d b (not c.args.positive)) (eliminated d a c.args.positive) =
    λ d k. truth-at (slice_get (nodes t2) c.in_ok-back.back) _ (c.in_ok-back.ensures.node d (constraint-grows t0 t1 c.args.of d c.both.ensures.grows k))
    ∙ (λ i. t.implies (eliminated d (second i) (not c.args.positive)) (eliminated d (first i) c.args.positive)) in
    IfOk-weaker
    c.conjunction.result
    (λ made. slice_get (nodes c.conjunction.new.table) made ≡ Some (of_truth (t.and (the_truth (slice_get (nodes t2) c.in_ok-there.there)) (the_truth (slice_get (nodes t2) c.in_ok-back.back)))))
    (λ made. (d : Constraint) → IsConstraint t0 c.args.of d → slice_get (nodes c.conjunction.new.table) made ≡ Some (of_truth (both_ways d a b c.args.positive)))
    (λ made at d k. at ∙ (λ i. Some (of_truth (t.and (left d k i) (right d k i)))))
    c.conjunction.ensures.node

pub opened-returns-clause-memo : goal.opened-returns-clause-memo
opened-returns-clause-memo τ c =
    on-ok c.conjunction.result
    (λ d k. holds-stay d (nodes c.both-2.new.table) (nodes c.conjunction.new.table) (found c.both-2.new.memo.answers) c.conjunction.ensures.grows.nodes (c.in_ok-back.ensures.memo d (constraint-grows c.args.table.now c.both.new.table c.args.of d c.both.ensures.grows k)))

pub equivalent-name_of-requires : goal.equivalent-name_of-requires
equivalent-name_of-requires τ c = record { field = (c.requires.of.0.field, c.requires.of.1.field) }

pub equivalent-either_reads-requires : goal.equivalent-either_reads-requires
equivalent-either_reads-requires τ c = record { a = c.requires.a.there; b = c.requires.b.there }

pub equivalent-opened-requires : goal.equivalent-opened-requires
equivalent-opened-requires τ c = (omega (arith, c.decreases), (c.requires.of, (c.requires.a, (c.requires.b, (c.requires.below, c.requires.memo)))))

pub equivalent-returns-then-reads-clause-node : goal.equivalent-returns-then-reads-clause-node
equivalent-returns-then-reads-clause-node τ c =
    let a = the_truth (slice_get (nodes c.args.table.now) c.args.a) in
    let b = the_truth (slice_get (nodes c.args.table.now) c.args.b) in
    IfOk-weaker
    c.opened.result
    (λ made. (d : Constraint) → IsConstraint c.args.table.now c.args.of d → slice_get (nodes c.opened.new.table) made ≡ Some (of_truth (both_ways d a b c.args.positive)))
    (λ made. (d : Constraint) → IsConstraint c.args.table.now c.args.of d → slice_get (nodes c.opened.new.table) made ≡ Some (of_truth (eliminated d (t.iff a b) c.args.positive)))
    (λ made h d k. h d k ∙ ap (λ q. Some (of_truth q)) (opened-iff d a b c.args.positive (ap (λ f. holds_read f a || holds_read f b) (sym (c.name_of.ensures d.field k.field)) ∙ sym c.in_ok-reads.ensures ∙ c.if-reads.true)))
    c.opened.ensures.node

pub equivalent-returns-else-reads-clause-node : goal.equivalent-returns-else-reads-clause-node
equivalent-returns-else-reads-clause-node τ c = λ d k.
    let a = the_truth (slice_get (nodes c.args.table.now) c.args.a) in
    let b = the_truth (slice_get (nodes c.args.table.now) c.args.b) in
    c.requires.there ∙ ap (λ q. Some (of_truth q)) (closed-iff d a b c.args.positive (ap (λ f. holds_read f a || holds_read f b) (sym (c.name_of.ensures d.field k.field)) ∙ sym c.in_ok-reads.ensures ∙ c.if-reads.false))
