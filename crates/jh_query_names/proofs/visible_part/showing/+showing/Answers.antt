use Rattle.std.proofs.Common.{◌≡◌, refl, ap, sym, ◌∙◌, ◌<◌, ◌&&◌, not, true, Some, slice_get, rules, arith}
use Rattle.std.proofs.lemmas.Result.{IfOk-weaker}
use Rattle.jh_form.specs.Tree.{of_truth}
use Rattle.jh_form.specs.Tree as t
use Rattle.jh_arena.specs.table.Entries.{is_truth, the_truth}
use Rattle.jh_arena.specs.table.Nodes.{nodes, fits_in, tree_in, shape_tree}
use Rattle.jh_arena.specs.table.Parts.{own_parts, list_parts}
use Rattle.jh_arena.specs.declared.table.shapes.Shape.TheVariants as s
use Rattle.jh_arena.proofs.table.PartSteps.{part-Negation-a, part-And-a, part-And-b, part-Or-a, part-Or-b, part-Implies-a, part-Implies-b, part-Iff-a, part-Iff-b, part-Mark-a}
use Rattle.jh_approx.specs.definition.Shown.{shown, is_sayable, negation_of, and_of, or_of, implies_of}
use Rattle.jh_query_names.specs.visible_part.Memos.{found}
use Rattle.jh_query_names.specs.visible_part.Showing.{IsMade, IsShownAt, is_replaced, leaf, turned}
use Rattle.jh_query_names.proofs.visible_part.Arms.{IsLeaf, leaf-shown, leaf-sayable}
use Rattle.jh_query_names.proofs.visible_part.Joins.{both-made, negated-made, whole-made, opened-made, turned-made}
use Rattle.jh_query_names.proofs.visible_part.Standing.{still-truth, truth-inside, truth-there, part-below, holds-stay, holds-note, on-ok, shown-before, answered}
use Rattle.jh_query_names.proofs.visible_part.showing.+showing.Goals as goal

pub shown_of-shape-shape-requires : goal.shown_of-shape-shape-requires
shown_of-shape-shape-requires τ c = truth-inside (nodes c.args.table.now) c.args.formula.node c.requires.formula

pub shown_of-returns-in_ok-note-in-None-clause-memo : goal.shown_of-returns-in_ok-note-in-None-clause-memo
shown_of-returns-in_ok-note-in-None-clause-memo τ c =
    holds-note (nodes c.shown_shape.new.table) (found c.shown_shape.new.memo.answers) (found c.note.new.self.answers) c.args.formula c.in_ok-answer-in-None.answer c.in_ok-answer-in-None.ensures.memo c.in_ok-answer-in-None.ensures.shown c.in_ok-note-in-None.ensures.others

pub shown_shape-negated_part-requires : goal.shown_shape-negated_part-requires
unfolding own_parts list_parts
shown_shape-negated_part-requires τ c =
    let fits : fits_in c.args.table.now (s.Negation c.in-Negation.a) ≡ true = ap (fits_in c.args.table.now) (sym c.in-Negation.is) ∙ c.requires.fits in
    let truth_a = part-Negation-a c.args.table.now.pools (nodes c.args.table.now) c.in-Negation.a fits in
    let below_a : c.in-Negation.a < c.args.formula.node = part-below c.args.formula.node c.args.table.now.pools.lists c.args.shape (s.Negation c.in-Negation.a) 0 c.in-Negation.a c.requires.below c.in-Negation.is refl in
    search (rules, arith)

pub shown_shape-both-requires : goal.shown_shape-both-requires
unfolding own_parts list_parts
shown_shape-both-requires τ c =
    let fits : fits_in c.args.table.now (s.And c.in-And.a c.in-And.b) ≡ true = ap (fits_in c.args.table.now) (sym c.in-And.is) ∙ c.requires.fits in
    let truth_a = part-And-a c.args.table.now.pools (nodes c.args.table.now) c.in-And.a c.in-And.b fits in
    let below_a : c.in-And.a < c.args.formula.node = part-below c.args.formula.node c.args.table.now.pools.lists c.args.shape (s.And c.in-And.a c.in-And.b) 0 c.in-And.a c.requires.below c.in-And.is refl in
    let truth_b = part-And-b c.args.table.now.pools (nodes c.args.table.now) c.in-And.a c.in-And.b fits in
    let below_b : c.in-And.b < c.args.formula.node = part-below c.args.formula.node c.args.table.now.pools.lists c.args.shape (s.And c.in-And.a c.in-And.b) 1 c.in-And.b c.requires.below c.in-And.is refl in
    search (rules, arith)

pub shown_shape-both-requires-in-Or : goal.shown_shape-both-requires-in-Or
unfolding own_parts list_parts
shown_shape-both-requires-in-Or τ c =
    let fits : fits_in c.args.table.now (s.Or c.in-Or.a c.in-Or.b) ≡ true = ap (fits_in c.args.table.now) (sym c.in-Or.is) ∙ c.requires.fits in
    let truth_a = part-Or-a c.args.table.now.pools (nodes c.args.table.now) c.in-Or.a c.in-Or.b fits in
    let below_a : c.in-Or.a < c.args.formula.node = part-below c.args.formula.node c.args.table.now.pools.lists c.args.shape (s.Or c.in-Or.a c.in-Or.b) 0 c.in-Or.a c.requires.below c.in-Or.is refl in
    let truth_b = part-Or-b c.args.table.now.pools (nodes c.args.table.now) c.in-Or.a c.in-Or.b fits in
    let below_b : c.in-Or.b < c.args.formula.node = part-below c.args.formula.node c.args.table.now.pools.lists c.args.shape (s.Or c.in-Or.a c.in-Or.b) 1 c.in-Or.b c.requires.below c.in-Or.is refl in
    search (rules, arith)

pub shown_shape-both-requires-in-Implies : goal.shown_shape-both-requires-in-Implies
unfolding own_parts list_parts
shown_shape-both-requires-in-Implies τ c =
    let fits : fits_in c.args.table.now (s.Implies c.in-Implies.a c.in-Implies.b) ≡ true = ap (fits_in c.args.table.now) (sym c.in-Implies.is) ∙ c.requires.fits in
    let truth_a = part-Implies-a c.args.table.now.pools (nodes c.args.table.now) c.in-Implies.a c.in-Implies.b fits in
    let below_a : c.in-Implies.a < c.args.formula.node = part-below c.args.formula.node c.args.table.now.pools.lists c.args.shape (s.Implies c.in-Implies.a c.in-Implies.b) 0 c.in-Implies.a c.requires.below c.in-Implies.is refl in
    let truth_b = part-Implies-b c.args.table.now.pools (nodes c.args.table.now) c.in-Implies.a c.in-Implies.b fits in
    let below_b : c.in-Implies.b < c.args.formula.node = part-below c.args.formula.node c.args.table.now.pools.lists c.args.shape (s.Implies c.in-Implies.a c.in-Implies.b) 1 c.in-Implies.b c.requires.below c.in-Implies.is refl in
    search (rules, arith)

pub shown_shape-equivalence-requires : goal.shown_shape-equivalence-requires
unfolding own_parts list_parts
shown_shape-equivalence-requires τ c =
    let fits : fits_in c.args.table.now (s.Iff c.in-Iff.a c.in-Iff.b) ≡ true = ap (fits_in c.args.table.now) (sym c.in-Iff.is) ∙ c.requires.fits in
    let truth_a = part-Iff-a c.args.table.now.pools (nodes c.args.table.now) c.in-Iff.a c.in-Iff.b fits in
    let below_a : c.in-Iff.a < c.args.formula.node = part-below c.args.formula.node c.args.table.now.pools.lists c.args.shape (s.Iff c.in-Iff.a c.in-Iff.b) 0 c.in-Iff.a c.requires.below c.in-Iff.is refl in
    let truth_b = part-Iff-b c.args.table.now.pools (nodes c.args.table.now) c.in-Iff.a c.in-Iff.b fits in
    let below_b : c.in-Iff.b < c.args.formula.node = part-below c.args.formula.node c.args.table.now.pools.lists c.args.shape (s.Iff c.in-Iff.a c.in-Iff.b) 1 c.in-Iff.b c.requires.below c.in-Iff.is refl in
    search (rules, arith)

pub shown_shape-shown_of-requires : goal.shown_shape-shown_of-requires
unfolding own_parts list_parts
shown_shape-shown_of-requires τ c =
    let fits : fits_in c.args.table.now (s.Mark c.in-Mark.field-0 c.in-Mark.a) ≡ true = ap (fits_in c.args.table.now) (sym c.in-Mark.is) ∙ c.requires.fits in
    let truth_a = part-Mark-a c.args.table.now.pools (nodes c.args.table.now) c.in-Mark.field-0 c.in-Mark.a fits in
    let below_a : c.in-Mark.a < c.args.formula.node = part-below c.args.formula.node c.args.table.now.pools.lists c.args.shape (s.Mark c.in-Mark.field-0 c.in-Mark.a) 0 c.in-Mark.a c.requires.below c.in-Mark.is refl in
    search (rules, arith)

pub shown_shape-returns-in-Negation-clause-shown : goal.shown_shape-returns-in-Negation-clause-shown
unfolding shape_tree the_truth shown is_sayable
shown_shape-returns-in-Negation-clause-shown τ c =
    let a = the_truth (slice_get (nodes c.args.table.now) c.in-Negation.a) in
    let w = negation_of (shown a (not c.args.formula.positive)) in
    IfOk-weaker
    c.negated_part.result
    (λ made. IsMade (nodes c.negated_part.new.table) made w (is_sayable a))
    (λ made. IsShownAt (nodes c.negated_part.new.table) c.args.formula made)
    (λ made m. answered c.args.table.now c.negated_part.new.table c.args.formula c.args.shape (s.Negation c.in-Negation.a) w (is_sayable a) made c.negated_part.ensures.grows c.requires.there c.requires.formula c.in-Negation.is refl refl m)
    c.negated_part.ensures.made

pub shown_shape-returns-in-And-clause-shown : goal.shown_shape-returns-in-And-clause-shown
unfolding shape_tree the_truth shown is_sayable
shown_shape-returns-in-And-clause-shown τ c =
    let a = the_truth (slice_get (nodes c.args.table.now) c.in-And.a) in
    let b = the_truth (slice_get (nodes c.args.table.now) c.in-And.b) in
    let w = and_of (shown a c.args.formula.positive) (shown b c.args.formula.positive) in
    IfOk-weaker
    c.both.result
    (λ made. IsMade (nodes c.both.new.table) made w (is_sayable a && is_sayable b))
    (λ made. IsShownAt (nodes c.both.new.table) c.args.formula made)
    (λ made m. answered c.args.table.now c.both.new.table c.args.formula c.args.shape (s.And c.in-And.a c.in-And.b) w (is_sayable a && is_sayable b) made c.both.ensures.grows c.requires.there c.requires.formula c.in-And.is refl refl m)
    c.both.ensures.made

pub shown_shape-returns-in-Or-clause-shown : goal.shown_shape-returns-in-Or-clause-shown
unfolding shape_tree the_truth shown is_sayable
shown_shape-returns-in-Or-clause-shown τ c =
    let a = the_truth (slice_get (nodes c.args.table.now) c.in-Or.a) in
    let b = the_truth (slice_get (nodes c.args.table.now) c.in-Or.b) in
    let w = or_of (shown a c.args.formula.positive) (shown b c.args.formula.positive) in
    IfOk-weaker
    c.both-in-Or.result
    (λ made. IsMade (nodes c.both-in-Or.new.table) made w (is_sayable a && is_sayable b))
    (λ made. IsShownAt (nodes c.both-in-Or.new.table) c.args.formula made)
    (λ made m. answered c.args.table.now c.both-in-Or.new.table c.args.formula c.args.shape (s.Or c.in-Or.a c.in-Or.b) w (is_sayable a && is_sayable b) made c.both-in-Or.ensures.grows c.requires.there c.requires.formula c.in-Or.is refl refl m)
    c.both-in-Or.ensures.made

pub shown_shape-returns-in-Implies-clause-shown : goal.shown_shape-returns-in-Implies-clause-shown
unfolding shape_tree the_truth shown is_sayable
shown_shape-returns-in-Implies-clause-shown τ c =
    let a = the_truth (slice_get (nodes c.args.table.now) c.in-Implies.a) in
    let b = the_truth (slice_get (nodes c.args.table.now) c.in-Implies.b) in
    let w = implies_of (shown a (not c.args.formula.positive)) (shown b c.args.formula.positive) in
    IfOk-weaker
    c.both-in-Implies.result
    (λ made. IsMade (nodes c.both-in-Implies.new.table) made w (is_sayable a && is_sayable b))
    (λ made. IsShownAt (nodes c.both-in-Implies.new.table) c.args.formula made)
    (λ made m. answered c.args.table.now c.both-in-Implies.new.table c.args.formula c.args.shape (s.Implies c.in-Implies.a c.in-Implies.b) w (is_sayable a && is_sayable b) made c.both-in-Implies.ensures.grows c.requires.there c.requires.formula c.in-Implies.is refl refl m)
    c.both-in-Implies.ensures.made

pub shown_shape-returns-in-Iff-clause-shown : goal.shown_shape-returns-in-Iff-clause-shown
unfolding shape_tree the_truth shown is_sayable
shown_shape-returns-in-Iff-clause-shown τ c =
    let a = the_truth (slice_get (nodes c.args.table.now) c.in-Iff.a) in
    let b = the_truth (slice_get (nodes c.args.table.now) c.in-Iff.b) in
    let w = shown (t.iff a b) c.args.formula.positive in
    IfOk-weaker
    c.equivalence.result
    (λ made. IsMade (nodes c.equivalence.new.table) made w (is_sayable a && is_sayable b))
    (λ made. IsShownAt (nodes c.equivalence.new.table) c.args.formula made)
    (λ made m. answered c.args.table.now c.equivalence.new.table c.args.formula c.args.shape (s.Iff c.in-Iff.a c.in-Iff.b) w (is_sayable a && is_sayable b) made c.equivalence.ensures.grows c.requires.there c.requires.formula c.in-Iff.is refl refl m)
    c.equivalence.ensures.made

pub shown_shape-returns-in-Mark-clause-shown : goal.shown_shape-returns-in-Mark-clause-shown
unfolding shape_tree the_truth shown is_sayable
shown_shape-returns-in-Mark-clause-shown τ c =
    let fits : fits_in c.args.table.now (s.Mark c.in-Mark.field-0 c.in-Mark.a) ≡ true = ap (fits_in c.args.table.now) (sym c.in-Mark.is) ∙ c.requires.fits in
    let a = the_truth (slice_get (nodes c.args.table.now) c.in-Mark.a) in
    IfOk-weaker
    c.shown_of.result
    (λ made. IsShownAt (nodes c.shown_of.new.table) (record { node = c.in-Mark.a; positive = c.args.formula.positive }) made)
    (λ made. IsShownAt (nodes c.shown_of.new.table) c.args.formula made)
    (λ made m. answered c.args.table.now c.shown_of.new.table c.args.formula c.args.shape (s.Mark c.in-Mark.field-0 c.in-Mark.a) (shown a c.args.formula.positive) (is_sayable a) made c.shown_of.ensures.grows c.requires.there c.requires.formula c.in-Mark.is refl refl
    (shown-before c.args.table.now c.shown_of.new.table (record { node = c.in-Mark.a; positive = c.args.formula.positive }) made c.shown_of.ensures.grows (part-Mark-a c.args.table.now.pools (nodes c.args.table.now) c.in-Mark.field-0 c.in-Mark.a fits) m))
    c.shown_of.ensures.shown

pub shown_shape-returns-in_default : goal.shown_shape-returns-in_default
shown_shape-returns-in_default τ c =
    let ts = nodes c.args.table.now in
    let p = c.args.table.now.pools in
    let x = c.args.shape in
    let is_leaf : IsLeaf p ts x = (c.in_default.not-Negation, c.in_default.not-And, c.in_default.not-Or, c.in_default.not-Implies, c.in_default.not-Iff, c.in_default.not-Mark) in
    let truth = ap is_truth (sym c.requires.there) ∙ c.requires.formula in
    let same : leaf (the_truth (slice_get ts c.args.formula.node)) c.args.formula.positive (is_replaced x) ≡ shown (the_truth (Some (tree_in c.args.table.now x))) c.args.formula.positive =
    ap (λ o. leaf (the_truth o) c.args.formula.positive (is_replaced x)) c.requires.there ∙ leaf-shown p ts x c.args.formula.positive is_leaf truth in
    record {
      shown = IfOk-weaker
          c.leaf.result
          (λ made. IsMade (nodes c.leaf.new.table) made (leaf (the_truth (slice_get ts c.args.formula.node)) c.args.formula.positive c.is_replaced.result) (not c.is_replaced.result))
          (λ made. IsShownAt (nodes c.leaf.new.table) c.args.formula made)
          (λ made m. answered c.args.table.now c.leaf.new.table c.args.formula x x (leaf (the_truth (slice_get ts c.args.formula.node)) c.args.formula.positive c.is_replaced.result) (not c.is_replaced.result) made c.leaf.ensures.grows c.requires.there c.requires.formula refl
          (ap (λ b. leaf (the_truth (slice_get ts c.args.formula.node)) c.args.formula.positive b) c.is_replaced.ensures ∙ same)
          (ap not c.is_replaced.ensures ∙ leaf-sayable p ts x is_leaf truth) m)
          c.leaf.ensures.made;
      grows = c.leaf.ensures.grows;
      memo = on-ok c.leaf.result (holds-stay ts (nodes c.leaf.new.table) (found c.args.memo.now.answers) c.leaf.ensures.grows.nodes c.requires.memo);
    }

pub negated_part-negated-requires : goal.negated_part-negated-requires
negated_part-negated-requires τ c = record {
  a = truth-there (slice_get (nodes c.shown_of.new.table) c.in_ok-part.part.node) _ c.in_ok-part.ensures.shown.is.node;
}

pub negated_part-returns-clause-made : goal.negated_part-returns-clause-made
negated_part-returns-clause-made τ c =
    negated-made c.args.table.now c.shown_of.new.table c.negated.new.table c.args.a c.args.positive c.in_ok-part.part c.in_ok-made.made c.shown_of.ensures.grows c.requires.a c.in_ok-part.ensures.shown c.in_ok-made.ensures.node

pub negated_part-returns-clause-memo : goal.negated_part-returns-clause-memo
negated_part-returns-clause-memo τ c =
    holds-stay (nodes c.shown_of.new.table) (nodes c.negated.new.table) (found c.shown_of.new.memo.answers) c.negated.ensures.grows.nodes c.in_ok-part.ensures.memo

pub both-shown_of-requires-2 : goal.both-shown_of-requires-2
both-shown_of-requires-2 τ c =
    let formula = still-truth c.args.table.now c.shown_of.new.table c.args.b c.shown_of.ensures.grows c.requires.b in
    let less = c.requires.below.1 in
    search (rules, arith)

pub both-join-requires-clause-a : goal.both-join-requires-clause-a
both-join-requires-clause-a τ c =
    truth-there (slice_get (nodes c.shown_of-2.new.table) c.in_ok-left.left.node) _ (c.shown_of-2.ensures.grows.nodes.keeps c.in_ok-left.left.node _ c.in_ok-left.ensures.shown.is.node)

pub both-join-requires-clause-b : goal.both-join-requires-clause-b
both-join-requires-clause-b τ c = truth-there (slice_get (nodes c.shown_of-2.new.table) c.in_ok-right.right.node) _ c.in_ok-right.ensures.shown.is.node

pub both-returns-clause-made : goal.both-returns-clause-made
both-returns-clause-made τ c =
    both-made c.args.table.now c.shown_of.new.table c.shown_of-2.new.table c.join.new.table c.args.connective c.args.a c.args.b c.args.first c.args.second c.in_ok-left.left c.in_ok-right.right c.in_ok-made.made c.both_sayable.result
    c.shown_of.ensures.grows c.shown_of-2.ensures.grows c.requires.a c.requires.b c.in_ok-left.ensures.shown c.in_ok-right.ensures.shown c.in_ok-made.ensures.node c.both_sayable.ensures

pub both-returns-clause-memo : goal.both-returns-clause-memo
both-returns-clause-memo τ c =
    holds-stay (nodes c.shown_of-2.new.table) (nodes c.join.new.table) (found c.shown_of-2.new.memo.answers) c.join.ensures.grows.nodes c.in_ok-right.ensures.memo

pub equivalence-turned-requires : goal.equivalence-turned-requires
equivalence-turned-requires τ c =
    let first = still-truth c.args.table.now c.both.new.table c.args.a c.both.ensures.grows c.requires.a in
    let second = still-truth c.args.table.now c.both.new.table c.args.b c.both.ensures.grows c.requires.b in
    search (rules, arith)

pub equivalence-returns-then-whole-clause-made : goal.equivalence-returns-then-whole-clause-made
equivalence-returns-then-whole-clause-made τ c =
    whole-made c.both.new.table (the_truth (slice_get (nodes c.args.table.now) c.args.a)) (the_truth (slice_get (nodes c.args.table.now) c.args.b)) c.args.positive c.in_ok-joined.joined c.in_ok-joined.ensures.made c.if-whole.true

pub equivalence-returns-else-whole-clause-made : goal.equivalence-returns-else-whole-clause-made
equivalence-returns-else-whole-clause-made τ c =
    let t0 = c.args.table.now in
    let u = c.both.new.table in
    let a0 = the_truth (slice_get (nodes t0) c.args.a) in
    let b0 = the_truth (slice_get (nodes t0) c.args.b) in
    let a1 = the_truth (slice_get (nodes u) c.args.a) in
    let b1 = the_truth (slice_get (nodes u) c.args.b) in
    IfOk-weaker
    c.turned.result
    (λ made. IsMade (nodes c.turned.new.table) made (turned a1 b1 c.args.positive) (is_sayable a1 && is_sayable b1))
    (λ made. IsMade (nodes c.turned.new.table) made (shown (t.iff a0 b0) c.args.positive) (is_sayable a0 && is_sayable b0))
    (λ made m. opened-made t0 u c.turned.new.table c.args.a c.args.b c.args.positive c.in_ok-joined.joined made c.both.ensures.grows c.requires.a c.requires.b c.in_ok-joined.ensures.made.flag c.if-whole.false m)
    c.turned.ensures.made

pub turned-both-requires-2 : goal.turned-both-requires-2
turned-both-requires-2 τ c =
    let first = still-truth c.args.table.now c.both.new.table c.args.a c.both.ensures.grows c.requires.a in
    let second = still-truth c.args.table.now c.both.new.table c.args.b c.both.ensures.grows c.requires.b in
    search (rules, arith)

pub turned-join-requires-clause-a : goal.turned-join-requires-clause-a
turned-join-requires-clause-a τ c =
    truth-there (slice_get (nodes c.both-2.new.table) c.in_ok-left.left.node) _ (c.both-2.ensures.grows.nodes.keeps c.in_ok-left.left.node _ c.in_ok-left.ensures.made.node)

pub turned-join-requires-clause-b : goal.turned-join-requires-clause-b
turned-join-requires-clause-b τ c = truth-there (slice_get (nodes c.both-2.new.table) c.in_ok-right.right.node) _ c.in_ok-right.ensures.made.node

pub turned-returns-clause-made : goal.turned-returns-clause-made
turned-returns-clause-made τ c =
    turned-made c.args.table.now c.both.new.table c.both-2.new.table c.join.new.table c.args.a c.args.b c.args.positive c.in_ok-left.left c.in_ok-right.right c.in_ok-made.made
    c.both.ensures.grows c.both-2.ensures.grows c.requires.a c.requires.b c.in_ok-left.ensures.made c.in_ok-right.ensures.made c.in_ok-made.ensures.node

pub turned-returns-clause-memo : goal.turned-returns-clause-memo
turned-returns-clause-memo τ c =
    holds-stay (nodes c.both-2.new.table) (nodes c.join.new.table) (found c.both-2.new.memo.answers) c.join.ensures.grows.nodes c.in_ok-right.ensures.memo
