-- The parts of a part of a tree are parts of the tree.
use Rattle.std.proofs.Common.{◌≡◌, refl, sym, subst, List, [], ◌∷◌, ◌++◌, inl, inr}
use Rattle.jh_form.specs.Tree.{TermTree, IntTree, SetTree, FieldTree, ValueTree, FormulaTree, FieldTrees}
use Rattle.jh_form.specs.Tree as t
use Rattle.jh_normal_forms.specs.declared.parts.order.Order.TheVariants as order
use Rattle.jh_normal_forms.specs.parts.Standing.{term_parts, int_parts, set_parts, field_parts, value_parts, formula_parts, fields_parts}
use Rattle.jh_fca.proofs.local_form.Among.{Among, among-left, among-right, among-either}

-- the second list has all parts of each value of the first
abbrev pub HasParts : List ValueTree → List ValueTree → Type 0
HasParts xs ys = (w : ValueTree) → Among w xs → (v : ValueTree) → Among v (value_parts w order.InnerFirst) → Among v ys

pub parts-both : (xs ys : List ValueTree) → HasParts xs xs → HasParts ys ys → HasParts (xs ++ ys) (xs ++ ys)
parts-both xs ys h k w m v n = elim (among-either w xs ys m) [ inl l ↦ among-left v xs ys (h w l v n) | inr r ↦ among-right v xs ys (k w r v n) ]

-- one value behind its parts
parts-last : (u : ValueTree) (xs : List ValueTree) → value_parts u order.InnerFirst ≡ xs ++ (u ∷ []) → HasParts xs xs → HasParts (xs ++ (u ∷ [])) (xs ++ (u ∷ []))
parts-last u xs e h w m v n = elim (among-either w xs (u ∷ []) m) [
  | inl l ↦ among-left v xs (u ∷ []) (h w l v n)
  | inr r ↦ elim r [ inl same ↦ subst (λ vs. Among v vs) e (subst (λ x. Among v (value_parts x order.InnerFirst)) (sym same) n) | inr none ↦ absurd none ]
]

mutual
  unfolding term_parts int_parts set_parts field_parts value_parts formula_parts fields_parts

  pub term-within : (a : TermTree) → HasParts (term_parts a order.InnerFirst) (term_parts a order.InnerFirst)
  term-within (t.bound k) = parts-last (t.of_object (t.bound k)) [] refl (λ u m v n. absurd m)
  term-within (t.free_object x) = parts-last (t.of_object (t.free_object x)) [] refl (λ u m v n. absurd m)
  term-within t.null = parts-last (t.of_object t.null) [] refl (λ u m v n. absurd m)
  term-within (t.read_object a b) = parts-last (t.of_object (t.read_object a b)) (field_parts a order.InnerFirst ++ term_parts b order.InnerFirst) refl (parts-both (field_parts a order.InnerFirst) (term_parts b order.InnerFirst) (field-within a) (term-within b))

  pub int-within : (a : IntTree) → HasParts (int_parts a order.InnerFirst) (int_parts a order.InnerFirst)
  int-within (t.const z) = parts-last (t.of_number (t.const z)) [] refl (λ u m v n. absurd m)
  int-within (t.free_number x) = parts-last (t.of_number (t.free_number x)) [] refl (λ u m v n. absurd m)
  int-within (t.read_number a b) = parts-last (t.of_number (t.read_number a b)) (field_parts a order.InnerFirst ++ term_parts b order.InnerFirst) refl (parts-both (field_parts a order.InnerFirst) (term_parts b order.InnerFirst) (field-within a) (term-within b))
  int-within (t.add a b) = parts-last (t.of_number (t.add a b)) (int_parts a order.InnerFirst ++ int_parts b order.InnerFirst) refl (parts-both (int_parts a order.InnerFirst) (int_parts b order.InnerFirst) (int-within a) (int-within b))
  int-within (t.sub a b) = parts-last (t.of_number (t.sub a b)) (int_parts a order.InnerFirst ++ int_parts b order.InnerFirst) refl (parts-both (int_parts a order.InnerFirst) (int_parts b order.InnerFirst) (int-within a) (int-within b))
  int-within (t.neg a) = parts-last (t.of_number (t.neg a)) (int_parts a order.InnerFirst) refl (int-within a)
  int-within (t.scale z a) = parts-last (t.of_number (t.scale z a)) (int_parts a order.InnerFirst) refl (int-within a)
  int-within (t.card a) = parts-last (t.of_number (t.card a)) (set_parts a order.InnerFirst) refl (set-within a)

  pub set-within : (a : SetTree) → HasParts (set_parts a order.InnerFirst) (set_parts a order.InnerFirst)
  set-within (t.free_set x) = parts-last (t.of_set (t.free_set x)) [] refl (λ u m v n. absurd m)
  set-within (t.read_set a b) = parts-last (t.of_set (t.read_set a b)) (field_parts a order.InnerFirst ++ term_parts b order.InnerFirst) refl (parts-both (field_parts a order.InnerFirst) (term_parts b order.InnerFirst) (field-within a) (term-within b))
  set-within t.empty = parts-last (t.of_set t.empty) [] refl (λ u m v n. absurd m)
  set-within t.univ = parts-last (t.of_set t.univ) [] refl (λ u m v n. absurd m)
  set-within (t.single a) = parts-last (t.of_set (t.single a)) (term_parts a order.InnerFirst) refl (term-within a)
  set-within (t.union a b) = parts-last (t.of_set (t.union a b)) (set_parts a order.InnerFirst ++ set_parts b order.InnerFirst) refl (parts-both (set_parts a order.InnerFirst) (set_parts b order.InnerFirst) (set-within a) (set-within b))
  set-within (t.inter a b) = parts-last (t.of_set (t.inter a b)) (set_parts a order.InnerFirst ++ set_parts b order.InnerFirst) refl (parts-both (set_parts a order.InnerFirst) (set_parts b order.InnerFirst) (set-within a) (set-within b))
  set-within (t.diff a b) = parts-last (t.of_set (t.diff a b)) (set_parts a order.InnerFirst ++ set_parts b order.InnerFirst) refl (parts-both (set_parts a order.InnerFirst) (set_parts b order.InnerFirst) (set-within a) (set-within b))
  set-within (t.compl a) = parts-last (t.of_set (t.compl a)) (set_parts a order.InnerFirst) refl (set-within a)
  set-within (t.compr a) = parts-last (t.of_set (t.compr a)) (formula_parts a order.InnerFirst) refl (formula-within a)

  pub field-within : (a : FieldTree) → HasParts (field_parts a order.InnerFirst) (field_parts a order.InnerFirst)
  field-within (t.free_field x) = parts-last (t.of_field (t.free_field x)) [] refl (λ u m v n. absurd m)
  field-within (t.update a b c) = parts-last (t.of_field (t.update a b c)) (field_parts a order.InnerFirst ++ (term_parts b order.InnerFirst ++ value_parts c order.InnerFirst)) refl (parts-both (field_parts a order.InnerFirst) (term_parts b order.InnerFirst ++ value_parts c order.InnerFirst) (field-within a) (parts-both (term_parts b order.InnerFirst) (value_parts c order.InnerFirst) (term-within b) (value-within c)))

  pub value-within : (a : ValueTree) → HasParts (value_parts a order.InnerFirst) (value_parts a order.InnerFirst)
  value-within (t.of_object a) = term-within a
  value-within (t.of_number a) = int-within a
  value-within (t.of_truth a) = formula-within a
  value-within (t.of_set a) = set-within a
  value-within (t.of_field a) = field-within a

  pub formula-within : (a : FormulaTree) → HasParts (formula_parts a order.InnerFirst) (formula_parts a order.InnerFirst)
  formula-within t.true_formula = parts-last (t.of_truth t.true_formula) [] refl (λ u m v n. absurd m)
  formula-within t.false_formula = parts-last (t.of_truth t.false_formula) [] refl (λ u m v n. absurd m)
  formula-within (t.free_truth x) = parts-last (t.of_truth (t.free_truth x)) [] refl (λ u m v n. absurd m)
  formula-within (t.read_truth a b) = parts-last (t.of_truth (t.read_truth a b)) (field_parts a order.InnerFirst ++ term_parts b order.InnerFirst) refl (parts-both (field_parts a order.InnerFirst) (term_parts b order.InnerFirst) (field-within a) (term-within b))
  formula-within (t.negation a) = parts-last (t.of_truth (t.negation a)) (formula_parts a order.InnerFirst) refl (formula-within a)
  formula-within (t.and a b) = parts-last (t.of_truth (t.and a b)) (formula_parts a order.InnerFirst ++ formula_parts b order.InnerFirst) refl (parts-both (formula_parts a order.InnerFirst) (formula_parts b order.InnerFirst) (formula-within a) (formula-within b))
  formula-within (t.or a b) = parts-last (t.of_truth (t.or a b)) (formula_parts a order.InnerFirst ++ formula_parts b order.InnerFirst) refl (parts-both (formula_parts a order.InnerFirst) (formula_parts b order.InnerFirst) (formula-within a) (formula-within b))
  formula-within (t.implies a b) = parts-last (t.of_truth (t.implies a b)) (formula_parts a order.InnerFirst ++ formula_parts b order.InnerFirst) refl (parts-both (formula_parts a order.InnerFirst) (formula_parts b order.InnerFirst) (formula-within a) (formula-within b))
  formula-within (t.iff a b) = parts-last (t.of_truth (t.iff a b)) (formula_parts a order.InnerFirst ++ formula_parts b order.InnerFirst) refl (parts-both (formula_parts a order.InnerFirst) (formula_parts b order.InnerFirst) (formula-within a) (formula-within b))
  formula-within (t.all a) = parts-last (t.of_truth (t.all a)) (formula_parts a order.InnerFirst) refl (formula-within a)
  formula-within (t.ex a) = parts-last (t.of_truth (t.ex a)) (formula_parts a order.InnerFirst) refl (formula-within a)
  formula-within (t.eq_object a b) = parts-last (t.of_truth (t.eq_object a b)) (term_parts a order.InnerFirst ++ term_parts b order.InnerFirst) refl (parts-both (term_parts a order.InnerFirst) (term_parts b order.InnerFirst) (term-within a) (term-within b))
  formula-within (t.eq_number a b) = parts-last (t.of_truth (t.eq_number a b)) (int_parts a order.InnerFirst ++ int_parts b order.InnerFirst) refl (parts-both (int_parts a order.InnerFirst) (int_parts b order.InnerFirst) (int-within a) (int-within b))
  formula-within (t.eq_set a b) = parts-last (t.of_truth (t.eq_set a b)) (set_parts a order.InnerFirst ++ set_parts b order.InnerFirst) refl (parts-both (set_parts a order.InnerFirst) (set_parts b order.InnerFirst) (set-within a) (set-within b))
  formula-within (t.less a b) = parts-last (t.of_truth (t.less a b)) (int_parts a order.InnerFirst ++ int_parts b order.InnerFirst) refl (parts-both (int_parts a order.InnerFirst) (int_parts b order.InnerFirst) (int-within a) (int-within b))
  formula-within (t.less_equal a b) = parts-last (t.of_truth (t.less_equal a b)) (int_parts a order.InnerFirst ++ int_parts b order.InnerFirst) refl (parts-both (int_parts a order.InnerFirst) (int_parts b order.InnerFirst) (int-within a) (int-within b))
  formula-within (t.divides z a) = parts-last (t.of_truth (t.divides z a)) (int_parts a order.InnerFirst) refl (int-within a)
  formula-within (t.member a b) = parts-last (t.of_truth (t.member a b)) (term_parts a order.InnerFirst ++ set_parts b order.InnerFirst) refl (parts-both (term_parts a order.InnerFirst) (set_parts b order.InnerFirst) (term-within a) (set-within b))
  formula-within (t.subset a b) = parts-last (t.of_truth (t.subset a b)) (set_parts a order.InnerFirst ++ set_parts b order.InnerFirst) refl (parts-both (set_parts a order.InnerFirst) (set_parts b order.InnerFirst) (set-within a) (set-within b))
  formula-within (t.reach fs a b) = parts-last (t.of_truth (t.reach fs a b)) (fields_parts fs order.InnerFirst ++ (term_parts a order.InnerFirst ++ term_parts b order.InnerFirst)) refl (parts-both (fields_parts fs order.InnerFirst) (term_parts a order.InnerFirst ++ term_parts b order.InnerFirst) (fields-within fs) (parts-both (term_parts a order.InnerFirst) (term_parts b order.InnerFirst) (term-within a) (term-within b)))
  formula-within (t.tree fs) = parts-last (t.of_truth (t.tree fs)) (fields_parts fs order.InnerFirst) refl (fields-within fs)
  formula-within (t.mark k a) = parts-last (t.of_truth (t.mark k a)) (formula_parts a order.InnerFirst) refl (formula-within a)

  fields-within : (fs : FieldTrees) → HasParts (fields_parts fs order.InnerFirst) (fields_parts fs order.InnerFirst)
  fields-within t.none = λ u m v n. absurd m
  fields-within (t.more f fs) = parts-both (field_parts f order.InnerFirst) (fields_parts fs order.InnerFirst) (field-within f) (fields-within fs)
