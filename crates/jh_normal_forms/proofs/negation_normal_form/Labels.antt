-- Written by tools/normal.py.
-- The walk from below by the rule that takes labels off gives the tree without labels.
use Rattle.std.proofs.Common.{◌≡◌, refl, sym, ap, ◌∙◌, ℕ, List, slice_get, Some, true}
use Rattle.jh_form.specs.Tree.{TermTree, IntTree, SetTree, FieldTree, ValueTree, FormulaTree, FieldTrees, of_truth}
use Rattle.jh_form.specs.Tree as t
use Rattle.jh_substitution.specs.jh_boxed_operations.comparison.Unmarked.{unmarked_term, unmarked_int, unmarked_set, unmarked_field, unmarked_value, unmarked_formula, unmarked_fields}
use Rattle.jh_arena.specs.table.Entries.{Pools}
use Rattle.jh_arena.specs.table.Nodes.{fits, shape_tree}
use Rattle.jh_arena.specs.declared.table.shapes.Shape.{Shape}
use Rattle.jh_arena.specs.declared.table.shapes.Shape.TheVariants as s
use Rattle.jh_arena.proofs.table.Children.{it-is-truth}
use Rattle.jh_arena.proofs.table.PartSteps.{part-Mark-a}
use Rattle.jh_normal_forms.specs.declared.rebuilding.polarity.Polarity.{Polarity}
use Rattle.jh_normal_forms.specs.declared.rebuilding.polarity.Polarity.TheVariants as pol
use Rattle.jh_normal_forms.specs.rebuilding.Built.{turned, built_term, built_int, built_set, built_field, built_value, built_formula, built_fields}
use Rattle.jh_normal_forms.specs.rebuilding.Walking.{built_at, applied}
use Rattle.jh_normal_forms.specs.negation_normal_form.Unlabelling.{bare, unlabelling}

mutual
  unfolding built_term built_int built_set built_field built_value built_formula built_fields unmarked_term unmarked_int unmarked_set unmarked_field unmarked_value unmarked_formula unmarked_fields bare

  term-bare : (a : TermTree) → built_term a unlabelling ≡ unmarked_term a
  term-bare (t.bound k) = refl
  term-bare (t.free_object x) = refl
  term-bare t.null = refl
  term-bare (t.read_object a b) = λ i. t.read_object (field-bare a i) (term-bare b i)

  int-bare : (a : IntTree) → built_int a unlabelling ≡ unmarked_int a
  int-bare (t.const z) = refl
  int-bare (t.free_number x) = refl
  int-bare (t.read_number a b) = λ i. t.read_number (field-bare a i) (term-bare b i)
  int-bare (t.add a b) = λ i. t.add (int-bare a i) (int-bare b i)
  int-bare (t.sub a b) = λ i. t.sub (int-bare a i) (int-bare b i)
  int-bare (t.neg a) = λ i. t.neg (int-bare a i)
  int-bare (t.scale z a) = λ i. t.scale z (int-bare a i)
  int-bare (t.card a) = λ i. t.card (set-bare a i)

  set-bare : (a : SetTree) → built_set a unlabelling ≡ unmarked_set a
  set-bare (t.free_set x) = refl
  set-bare (t.read_set a b) = λ i. t.read_set (field-bare a i) (term-bare b i)
  set-bare t.empty = refl
  set-bare t.univ = refl
  set-bare (t.single a) = λ i. t.single (term-bare a i)
  set-bare (t.union a b) = λ i. t.union (set-bare a i) (set-bare b i)
  set-bare (t.inter a b) = λ i. t.inter (set-bare a i) (set-bare b i)
  set-bare (t.diff a b) = λ i. t.diff (set-bare a i) (set-bare b i)
  set-bare (t.compl a) = λ i. t.compl (set-bare a i)
  set-bare (t.compr a) = λ i. t.compr (formula-bare a pol.Both i)

  field-bare : (a : FieldTree) → built_field a unlabelling ≡ unmarked_field a
  field-bare (t.free_field x) = refl
  field-bare (t.update a b c) = λ i. t.update (field-bare a i) (term-bare b i) (value-bare c i)

  value-bare : (a : ValueTree) → built_value a unlabelling ≡ unmarked_value a
  value-bare (t.of_object a) = λ i. t.of_object (term-bare a i)
  value-bare (t.of_number a) = λ i. t.of_number (int-bare a i)
  value-bare (t.of_truth a) = λ i. t.of_truth (formula-bare a pol.Both i)
  value-bare (t.of_set a) = λ i. t.of_set (set-bare a i)
  value-bare (t.of_field a) = λ i. t.of_field (field-bare a i)

  formula-bare : (a : FormulaTree) (s : Polarity) → built_formula a unlabelling s ≡ unmarked_formula a
  formula-bare t.true_formula s = refl
  formula-bare t.false_formula s = refl
  formula-bare (t.free_truth x) s = refl
  formula-bare (t.read_truth a b) s = λ i. t.read_truth (field-bare a i) (term-bare b i)
  formula-bare (t.negation a) s = λ i. t.negation (formula-bare a (turned s) i)
  formula-bare (t.and a b) s = λ i. t.and (formula-bare a s i) (formula-bare b s i)
  formula-bare (t.or a b) s = λ i. t.or (formula-bare a s i) (formula-bare b s i)
  formula-bare (t.implies a b) s = λ i. t.implies (formula-bare a (turned s) i) (formula-bare b s i)
  formula-bare (t.iff a b) s = λ i. t.iff (formula-bare a pol.Both i) (formula-bare b pol.Both i)
  formula-bare (t.all a) s = λ i. t.all (formula-bare a s i)
  formula-bare (t.ex a) s = λ i. t.ex (formula-bare a s i)
  formula-bare (t.eq_object a b) s = λ i. t.eq_object (term-bare a i) (term-bare b i)
  formula-bare (t.eq_number a b) s = λ i. t.eq_number (int-bare a i) (int-bare b i)
  formula-bare (t.eq_set a b) s = λ i. t.eq_set (set-bare a i) (set-bare b i)
  formula-bare (t.less a b) s = λ i. t.less (int-bare a i) (int-bare b i)
  formula-bare (t.less_equal a b) s = λ i. t.less_equal (int-bare a i) (int-bare b i)
  formula-bare (t.divides z a) s = λ i. t.divides z (int-bare a i)
  formula-bare (t.member a b) s = λ i. t.member (term-bare a i) (set-bare b i)
  formula-bare (t.subset a b) s = λ i. t.subset (set-bare a i) (set-bare b i)
  formula-bare (t.reach fs a b) s = λ i. t.reach (fields-bare fs i) (term-bare a i) (term-bare b i)
  formula-bare (t.tree fs) s = λ i. t.tree (fields-bare fs i)
  formula-bare (t.mark k a) s = formula-bare a s

  fields-bare : (a : FieldTrees) → built_fields a unlabelling ≡ unmarked_fields a
  fields-bare t.none = refl
  fields-bare (t.more f fs) = λ i. t.more (field-bare f i) (fields-bare fs i)

pub value-at : (v : ValueTree) → built_at v unlabelling pol.Both ≡ unmarked_value v
unfolding built_at unmarked_value
value-at (t.of_object a) = λ i. t.of_object (term-bare a i)
value-at (t.of_number a) = λ i. t.of_number (int-bare a i)
value-at (t.of_truth a) = λ i. t.of_truth (formula-bare a pol.Both i)
value-at (t.of_set a) = λ i. t.of_set (set-bare a i)
value-at (t.of_field a) = λ i. t.of_field (field-bare a i)

module _ (p : Pools) (ts : List ValueTree) where
  -- the label goes
  pub mark-made : (x : Shape) (m a : ℕ) (d : Polarity) → x ≡ s.Mark m a → fits p ts x ≡ true → slice_get ts a ≡ Some (applied (shape_tree p ts x) unlabelling d)
  unfolding shape_tree applied bare
  mark-made x m a d e h =
      it-is-truth (slice_get ts a) (part-Mark-a p ts m a (ap (fits p ts) (sym e) ∙ h)) ∙ ap (λ y. Some (applied (shape_tree p ts y) unlabelling d)) (sym e)

  -- all else stays
  pub other-made : (x : Shape) (d : Polarity) → ((m a : ℕ) → x ≡ s.Mark m a → ⊥) → applied (shape_tree p ts x) unlabelling d ≡ shape_tree p ts x
  unfolding shape_tree applied bare
  other-made (s.Mark m a) d h = absurd (h m a refl)
  other-made _ d h = refl
