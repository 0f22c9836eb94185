-- Mapping with the leaves that change nothing gives the same tree.
use Rattle.std.proofs.Common.{◌≡◌, refl, ℕ, ◌+◌}
use Rattle.jh_form.specs.Tree.{TermTree, IntTree, SetTree, FieldTree, ValueTree, FormulaTree, FieldTrees}
use Rattle.jh_form.specs.Tree as t
use Rattle.jh_boxed.specs.Mapped.{unchanged, mapped_term, mapped_int, mapped_set, mapped_field, mapped_value, mapped_formula, mapped_fields}

mutual
  unfolding mapped_term mapped_int mapped_set mapped_field mapped_value mapped_formula mapped_fields

  pub mapped_term-unchanged : (a : TermTree) (d : ℕ) → mapped_term a unchanged d ≡ a
  mapped_term-unchanged (t.bound k) d = refl
  mapped_term-unchanged (t.free_object x) d = refl
  mapped_term-unchanged t.null d = refl
  mapped_term-unchanged (t.read_object a b) d = λ i. t.read_object (mapped_field-unchanged a d i) (mapped_term-unchanged b d i)

  pub mapped_int-unchanged : (a : IntTree) (d : ℕ) → mapped_int a unchanged d ≡ a
  mapped_int-unchanged (t.const z) d = refl
  mapped_int-unchanged (t.free_number x) d = refl
  mapped_int-unchanged (t.read_number a b) d = λ i. t.read_number (mapped_field-unchanged a d i) (mapped_term-unchanged b d i)
  mapped_int-unchanged (t.add a b) d = λ i. t.add (mapped_int-unchanged a d i) (mapped_int-unchanged b d i)
  mapped_int-unchanged (t.sub a b) d = λ i. t.sub (mapped_int-unchanged a d i) (mapped_int-unchanged b d i)
  mapped_int-unchanged (t.neg a) d = λ i. t.neg (mapped_int-unchanged a d i)
  mapped_int-unchanged (t.scale z a) d = λ i. t.scale z (mapped_int-unchanged a d i)
  mapped_int-unchanged (t.card a) d = λ i. t.card (mapped_set-unchanged a d i)

  pub mapped_set-unchanged : (a : SetTree) (d : ℕ) → mapped_set a unchanged d ≡ a
  mapped_set-unchanged (t.free_set x) d = refl
  mapped_set-unchanged (t.read_set a b) d = λ i. t.read_set (mapped_field-unchanged a d i) (mapped_term-unchanged b d i)
  mapped_set-unchanged t.empty d = refl
  mapped_set-unchanged t.univ d = refl
  mapped_set-unchanged (t.single a) d = λ i. t.single (mapped_term-unchanged a d i)
  mapped_set-unchanged (t.union a b) d = λ i. t.union (mapped_set-unchanged a d i) (mapped_set-unchanged b d i)
  mapped_set-unchanged (t.inter a b) d = λ i. t.inter (mapped_set-unchanged a d i) (mapped_set-unchanged b d i)
  mapped_set-unchanged (t.diff a b) d = λ i. t.diff (mapped_set-unchanged a d i) (mapped_set-unchanged b d i)
  mapped_set-unchanged (t.compl a) d = λ i. t.compl (mapped_set-unchanged a d i)
  mapped_set-unchanged (t.compr a) d = λ i. t.compr (mapped_formula-unchanged a (d + 1) i)

  pub mapped_field-unchanged : (a : FieldTree) (d : ℕ) → mapped_field a unchanged d ≡ a
  mapped_field-unchanged (t.free_field x) d = refl
  mapped_field-unchanged (t.update a b c) d = λ i. t.update (mapped_field-unchanged a d i) (mapped_term-unchanged b d i) (mapped_value-unchanged c d i)

  pub mapped_value-unchanged : (a : ValueTree) (d : ℕ) → mapped_value a unchanged d ≡ a
  mapped_value-unchanged (t.of_object a) d = λ i. t.of_object (mapped_term-unchanged a d i)
  mapped_value-unchanged (t.of_number a) d = λ i. t.of_number (mapped_int-unchanged a d i)
  mapped_value-unchanged (t.of_truth a) d = λ i. t.of_truth (mapped_formula-unchanged a d i)
  mapped_value-unchanged (t.of_set a) d = λ i. t.of_set (mapped_set-unchanged a d i)
  mapped_value-unchanged (t.of_field a) d = λ i. t.of_field (mapped_field-unchanged a d i)

  pub mapped_formula-unchanged : (a : FormulaTree) (d : ℕ) → mapped_formula a unchanged d ≡ a
  mapped_formula-unchanged t.true_formula d = refl
  mapped_formula-unchanged t.false_formula d = refl
  mapped_formula-unchanged (t.free_truth x) d = refl
  mapped_formula-unchanged (t.read_truth a b) d = λ i. t.read_truth (mapped_field-unchanged a d i) (mapped_term-unchanged b d i)
  mapped_formula-unchanged (t.negation a) d = λ i. t.negation (mapped_formula-unchanged a d i)
  mapped_formula-unchanged (t.and a b) d = λ i. t.and (mapped_formula-unchanged a d i) (mapped_formula-unchanged b d i)
  mapped_formula-unchanged (t.or a b) d = λ i. t.or (mapped_formula-unchanged a d i) (mapped_formula-unchanged b d i)
  mapped_formula-unchanged (t.implies a b) d = λ i. t.implies (mapped_formula-unchanged a d i) (mapped_formula-unchanged b d i)
  mapped_formula-unchanged (t.iff a b) d = λ i. t.iff (mapped_formula-unchanged a d i) (mapped_formula-unchanged b d i)
  mapped_formula-unchanged (t.all a) d = λ i. t.all (mapped_formula-unchanged a (d + 1) i)
  mapped_formula-unchanged (t.ex a) d = λ i. t.ex (mapped_formula-unchanged a (d + 1) i)
  mapped_formula-unchanged (t.eq_object a b) d = λ i. t.eq_object (mapped_term-unchanged a d i) (mapped_term-unchanged b d i)
  mapped_formula-unchanged (t.eq_number a b) d = λ i. t.eq_number (mapped_int-unchanged a d i) (mapped_int-unchanged b d i)
  mapped_formula-unchanged (t.eq_set a b) d = λ i. t.eq_set (mapped_set-unchanged a d i) (mapped_set-unchanged b d i)
  mapped_formula-unchanged (t.less a b) d = λ i. t.less (mapped_int-unchanged a d i) (mapped_int-unchanged b d i)
  mapped_formula-unchanged (t.less_equal a b) d = λ i. t.less_equal (mapped_int-unchanged a d i) (mapped_int-unchanged b d i)
  mapped_formula-unchanged (t.divides z a) d = λ i. t.divides z (mapped_int-unchanged a d i)
  mapped_formula-unchanged (t.member a b) d = λ i. t.member (mapped_term-unchanged a d i) (mapped_set-unchanged b d i)
  mapped_formula-unchanged (t.subset a b) d = λ i. t.subset (mapped_set-unchanged a d i) (mapped_set-unchanged b d i)
  mapped_formula-unchanged (t.reach fs a b) d = λ i. t.reach (mapped_fields-unchanged fs d i) (mapped_term-unchanged a d i) (mapped_term-unchanged b d i)
  mapped_formula-unchanged (t.tree fs) d = λ i. t.tree (mapped_fields-unchanged fs d i)
  mapped_formula-unchanged (t.mark k a) d = λ i. t.mark k (mapped_formula-unchanged a d i)

  pub mapped_fields-unchanged : (fs : FieldTrees) (d : ℕ) → mapped_fields fs unchanged d ≡ fs
  mapped_fields-unchanged t.none d = refl
  mapped_fields-unchanged (t.more f fs) d = λ i. t.more (mapped_field-unchanged f d i) (mapped_fields-unchanged fs d i)

pub ruleset identity_steps = (mapped_term-unchanged, mapped_int-unchanged, mapped_set-unchanged, mapped_field-unchanged, mapped_value-unchanged, mapped_formula-unchanged, mapped_fields-unchanged)
