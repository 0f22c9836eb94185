-- Connectives of which True and False are folded away, by what their parts are at sight.
use Rattle.std.proofs.Common.{◌≡◌, refl, sym, ap, ◌∙◌, Bool, true, false, List, Option, Some, None}
use Rattle.std.proofs.lemmas.Bool.{true≢false}
use Rattle.jh_form.specs.Tree.{FormulaTree, ValueTree}
use Rattle.jh_form.specs.Tree as t
use Rattle.jh_arena.specs.table.Entries.{Pools, is_truth, the_truth}
use Rattle.jh_arena.specs.table.Nodes.{shape_tree}
use Rattle.jh_arena.specs.declared.table.shapes.Shape.{Shape}
use Rattle.jh_arena.specs.declared.table.shapes.Shape.TheVariants as s
use Rattle.jh_approx.specs.definition.Shown.{negation_of, and_before, and_of, or_before, or_of, implies_before, implies_of, iff_before, iff_of}
use Rattle.jh_fca.specs.cutting.Cut.{all_of, ex_of, mark_of}
use Rattle.jh_fca.specs.cutting.Folding.{constant}
use Rattle.jh_form.specs.declared.mark.Mark.{Mark}

-- the answers differ
none-some : (b : Bool) → None ≡ Some b → ⊥
none-some b e = true≢false (sym (ap is_there e)) where
  is_there : Option Bool → Bool
  is_there None = false
  is_there (Some c) = true

some-none : (b : Bool) → Some b ≡ None → ⊥
some-none b e = none-some b (sym e)

true-false : Some true ≡ Some false → ⊥
true-false e = true≢false (ap value e) where
  value : Option Bool → Bool
  value None = false
  value (Some b) = b

-- a formula is True at sight exactly where it is that formula
pub is-true : (a : FormulaTree) → constant a ≡ Some true → a ≡ t.true_formula
unfolding constant
is-true t.true_formula h = refl
is-true t.false_formula h = absurd (true-false (sym h))
is-true a h = absurd (none-some true h)

pub is-false : (a : FormulaTree) → constant a ≡ Some false → a ≡ t.false_formula
unfolding constant
is-false t.true_formula h = absurd (true-false h)
is-false t.false_formula h = refl
is-false a h = absurd (none-some false h)

pub negation-neither : (a : FormulaTree) → constant a ≡ None → t.negation a ≡ negation_of a
unfolding constant negation_of
negation-neither t.true_formula h = absurd (some-none true h)
negation-neither t.false_formula h = absurd (some-none false h)
negation-neither a h = refl

pub and-neither : (a b : FormulaTree) → constant a ≡ None → and_before a b ≡ and_of a b
unfolding constant and_of
and-neither t.true_formula b h = absurd (some-none true h)
and-neither t.false_formula b h = absurd (some-none false h)
and-neither a b h = refl

pub and-both : (a b : FormulaTree) → constant b ≡ None → t.and a b ≡ and_before a b
unfolding constant and_before
and-both a t.true_formula h = absurd (some-none true h)
and-both a t.false_formula h = absurd (some-none false h)
and-both a b h = refl

pub or-neither : (a b : FormulaTree) → constant a ≡ None → or_before a b ≡ or_of a b
unfolding constant or_of
or-neither t.true_formula b h = absurd (some-none true h)
or-neither t.false_formula b h = absurd (some-none false h)
or-neither a b h = refl

pub or-both : (a b : FormulaTree) → constant b ≡ None → t.or a b ≡ or_before a b
unfolding constant or_before
or-both a t.true_formula h = absurd (some-none true h)
or-both a t.false_formula h = absurd (some-none false h)
or-both a b h = refl

pub implies-neither : (a b : FormulaTree) → constant a ≡ None → implies_before a b ≡ implies_of a b
unfolding constant implies_of
implies-neither t.true_formula b h = absurd (some-none true h)
implies-neither t.false_formula b h = absurd (some-none false h)
implies-neither a b h = refl

pub implies-both : (a b : FormulaTree) → constant b ≡ None → t.implies a b ≡ implies_before a b
unfolding constant implies_before
implies-both a t.true_formula h = absurd (some-none true h)
implies-both a t.false_formula h = absurd (some-none false h)
implies-both a b h = refl

pub iff-neither : (a b : FormulaTree) → constant a ≡ None → iff_before a b ≡ iff_of a b
unfolding constant iff_of
iff-neither t.true_formula b h = absurd (some-none true h)
iff-neither t.false_formula b h = absurd (some-none false h)
iff-neither a b h = refl

pub iff-both : (a b : FormulaTree) → constant b ≡ None → t.iff a b ≡ iff_before a b
unfolding constant iff_before
iff-both a t.true_formula h = absurd (some-none true h)
iff-both a t.false_formula h = absurd (some-none false h)
iff-both a b h = refl

pub all-neither : (a : FormulaTree) → constant a ≡ None → t.all a ≡ all_of a
unfolding constant all_of
all-neither t.true_formula h = absurd (some-none true h)
all-neither t.false_formula h = absurd (some-none false h)
all-neither a h = refl

pub all-constant : (a : FormulaTree) (b : Bool) → constant a ≡ Some b → a ≡ all_of a
unfolding constant all_of
all-constant t.true_formula b h = refl
all-constant t.false_formula b h = refl
all-constant a b h = absurd (none-some b h)

pub ex-neither : (a : FormulaTree) → constant a ≡ None → t.ex a ≡ ex_of a
unfolding constant ex_of
ex-neither t.true_formula h = absurd (some-none true h)
ex-neither t.false_formula h = absurd (some-none false h)
ex-neither a h = refl

pub ex-constant : (a : FormulaTree) (b : Bool) → constant a ≡ Some b → a ≡ ex_of a
unfolding constant ex_of
ex-constant t.true_formula b h = refl
ex-constant t.false_formula b h = refl
ex-constant a b h = absurd (none-some b h)

pub mark-neither : (m : Mark) (a : FormulaTree) → constant a ≡ None → t.mark m a ≡ mark_of m a
unfolding constant mark_of
mark-neither m t.true_formula h = absurd (some-none true h)
mark-neither m t.false_formula h = absurd (some-none false h)
mark-neither m a h = refl

pub mark-constant : (m : Mark) (a : FormulaTree) (b : Bool) → constant a ≡ Some b → a ≡ mark_of m a
unfolding constant mark_of
mark-constant m t.true_formula b h = refl
mark-constant m t.false_formula b h = refl
mark-constant m a b h = absurd (none-some b h)

-- ---- shapes

pub constant-of : (p : Pools) (ts : List ValueTree) (o : Option ValueTree) (x y : Shape) (r : Option Bool) → o ≡ Some (shape_tree p ts x) → x ≡ y → r ≡ constant (the_truth (Some (shape_tree p ts y))) → r ≡ constant (the_truth o)
constant-of p ts o x y r at e h = h ∙ ap (λ z. constant (the_truth (Some (shape_tree p ts z)))) (sym e) ∙ ap (λ z. constant (the_truth z)) (sym at)

pub not-constant : (p : Pools) (ts : List ValueTree) (x : Shape) → is_truth (Some (shape_tree p ts x)) ≡ true → (x ≡ s.True → ⊥) → (x ≡ s.False → ⊥) → None ≡ constant (the_truth (Some (shape_tree p ts x)))
unfolding shape_tree is_truth the_truth constant
not-constant p ts s.True h u v = absurd (u refl)
not-constant p ts s.False h u v = absurd (v refl)
not-constant p ts (s.FreeTruth n) h u v = refl
not-constant p ts (s.ReadTruth a b) h u v = refl
not-constant p ts (s.Negation a) h u v = refl
not-constant p ts (s.And a b) h u v = refl
not-constant p ts (s.Or a b) h u v = refl
not-constant p ts (s.Implies a b) h u v = refl
not-constant p ts (s.Iff a b) h u v = refl
not-constant p ts (s.All a) h u v = refl
not-constant p ts (s.Ex a) h u v = refl
not-constant p ts (s.EqObject a b) h u v = refl
not-constant p ts (s.EqNumber a b) h u v = refl
not-constant p ts (s.EqSet a b) h u v = refl
not-constant p ts (s.Less a b) h u v = refl
not-constant p ts (s.LessEqual a b) h u v = refl
not-constant p ts (s.Divides z a) h u v = refl
not-constant p ts (s.Member a b) h u v = refl
not-constant p ts (s.Subset a b) h u v = refl
not-constant p ts (s.Reach l a b) h u v = refl
not-constant p ts (s.Tree l) h u v = refl
not-constant p ts (s.Mark m a) h u v = refl
not-constant p ts _ h u v = absurd (true≢false (sym h))
