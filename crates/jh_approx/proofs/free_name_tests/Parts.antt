-- Each free name is a part.
use Rattle.std.proofs.Common.{◌≡◌, refl, sym, ap, ◌∙◌, Bool, true, false, ◌&&◌, if◌then◌else◌, List, [], ◌∷◌, ◌++◌, append-nil}
use Rattle.std.specs.Prelude.{filter}
use Rattle.std.specs.List.{list_all}
use Rattle.jh_name.specs.declared.naming.Name.{Name}
use Rattle.jh_name.specs.declared.place.Sort as place
use Rattle.jh_form.specs.Tree.{TermTree, IntTree, SetTree, FieldTree, ValueTree, FormulaTree, FieldTrees}
use Rattle.jh_form.specs.Tree as t
use Rattle.jh_form.specs.Passing.{term_passes, int_passes, set_passes, field_passes, value_passes, formula_passes, fields_passes}
use Rattle.jh_normal_forms.specs.parts.Asked.{is_free_name}
use Rattle.jh_normal_forms.specs.parts.Standing.{around, term_parts, int_parts, set_parts, field_parts, value_parts, formula_parts, fields_parts}
use Rattle.jh_normal_forms.specs.declared.parts.order.Order.{Order}
use Rattle.jh_normal_forms.specs.declared.parts.order.Order.TheVariants as order
use Rattle.jh_approx.specs.free_name_tests.Passing.{name_passes, FreeNamesDecide}

and-true : (b : Bool) → (b && true) ≡ b
and-true true = refl
and-true false = refl

module _ (p : Name → place.Sort → Bool) where
  -- all free names of a list pass
  abbrev all_pass : List ValueTree → Bool
  all_pass vs = list_all (name_passes p) (filter is_free_name vs)

  chosen : (b : Bool) (v : ValueTree) (vs : List ValueTree) (c : Bool) → list_all (name_passes p) vs ≡ c → list_all (name_passes p) (if b then v ∷ vs else vs) ≡ ((if b then name_passes p v else true) && c)
  chosen true v vs c e = ap (λ d. name_passes p v && d) e
  chosen false v vs c e = e

  grouped : (a b c : Bool) → (a && (b && c)) ≡ ((a && b) && c)
  grouped true b c = refl
  grouped false b c = refl

  append-passes : (xs ys : List ValueTree) → all_pass (xs ++ ys) ≡ (all_pass xs && all_pass ys)
  append-passes [] ys = refl
  append-passes (x ∷ xs) ys =
      chosen (is_free_name x) x (filter is_free_name (xs ++ ys)) (all_pass xs && all_pass ys) (append-passes xs ys)
      ∙ grouped (if is_free_name x then name_passes p x else true) (all_pass xs) (all_pass ys)
      ∙ ap (λ b. b && all_pass ys) (sym (chosen (is_free_name x) x (filter is_free_name xs) (all_pass xs) refl))

  -- what is no free name changes nothing
  passed-over : (v : ValueTree) (inside : List ValueTree) (o : Order) → is_free_name v ≡ false → all_pass (around o v inside) ≡ all_pass inside
  passed-over v inside order.OuterFirst e = ap (λ b. list_all (name_passes p) (if b then v ∷ filter is_free_name (inside ++ []) else filter is_free_name (inside ++ []))) e ∙ ap all_pass (append-nil inside)
  passed-over v inside order.InnerFirst e = append-passes inside (v ∷ []) ∙ ap (λ b. all_pass inside && list_all (name_passes p) (if b then v ∷ [] else [])) e ∙ and-true (all_pass inside)

  named : (v : ValueTree) (o : Order) → is_free_name v ≡ true → name_passes p v ≡ all_pass (around o v [])
  named v order.OuterFirst e = sym (ap (λ b. list_all (name_passes p) (if b then v ∷ [] else [])) e ∙ and-true (name_passes p v))
  named v order.InnerFirst e = sym (ap (λ b. list_all (name_passes p) (if b then v ∷ [] else [])) e ∙ and-true (name_passes p v))

  two : (a b : Bool) (xs ys : List ValueTree) → a ≡ all_pass xs → b ≡ all_pass ys → (a && b) ≡ all_pass (xs ++ ys)
  two a b xs ys e f = (λ i. e i && f i) ∙ sym (append-passes xs ys)

  three : (a b c : Bool) (xs ys zs : List ValueTree) → a ≡ all_pass xs → b ≡ all_pass ys → c ≡ all_pass zs → ((a && b) && c) ≡ all_pass (xs ++ (ys ++ zs))
  three a b c xs ys zs e f g = sym (grouped a b c) ∙ two a (b && c) xs (ys ++ zs) e (two b c ys zs f g)

  mutual
    unfolding term_passes term_parts is_free_name name_passes

    pub term-decides : (a : TermTree) (o : Order) → term_passes a p ≡ all_pass (term_parts a o)
    term-decides (t.bound k) o = sym (passed-over (t.of_object (t.bound k)) [] o refl)
    term-decides (t.free_object x) o = named (t.of_object (t.free_object x)) o refl
    term-decides t.null o = sym (passed-over (t.of_object t.null) [] o refl)
    term-decides (t.read_object a b) o = two (field_passes a p) (term_passes b p) (field_parts a o) (term_parts b o) (field-decides a o) (term-decides b o) ∙ sym (passed-over (t.of_object (t.read_object a b)) (field_parts a o ++ term_parts b o) o refl)

    pub int-decides : (a : IntTree) (o : Order) → int_passes a p ≡ all_pass (int_parts a o)
    int-decides (t.const z) o = sym (passed-over (t.of_number (t.const z)) [] o refl)
    int-decides (t.free_number x) o = named (t.of_number (t.free_number x)) o refl
    int-decides (t.read_number a b) o = two (field_passes a p) (term_passes b p) (field_parts a o) (term_parts b o) (field-decides a o) (term-decides b o) ∙ sym (passed-over (t.of_number (t.read_number a b)) (field_parts a o ++ term_parts b o) o refl)
    int-decides (t.add a b) o = two (int_passes a p) (int_passes b p) (int_parts a o) (int_parts b o) (int-decides a o) (int-decides b o) ∙ sym (passed-over (t.of_number (t.add a b)) (int_parts a o ++ int_parts b o) o refl)
    int-decides (t.sub a b) o = two (int_passes a p) (int_passes b p) (int_parts a o) (int_parts b o) (int-decides a o) (int-decides b o) ∙ sym (passed-over (t.of_number (t.sub a b)) (int_parts a o ++ int_parts b o) o refl)
    int-decides (t.neg a) o = int-decides a o ∙ sym (passed-over (t.of_number (t.neg a)) (int_parts a o) o refl)
    int-decides (t.scale z a) o = int-decides a o ∙ sym (passed-over (t.of_number (t.scale z a)) (int_parts a o) o refl)
    int-decides (t.card a) o = set-decides a o ∙ sym (passed-over (t.of_number (t.card a)) (set_parts a o) o refl)

    pub set-decides : (a : SetTree) (o : Order) → set_passes a p ≡ all_pass (set_parts a o)
    set-decides (t.free_set x) o = named (t.of_set (t.free_set x)) o refl
    set-decides (t.read_set a b) o = two (field_passes a p) (term_passes b p) (field_parts a o) (term_parts b o) (field-decides a o) (term-decides b o) ∙ sym (passed-over (t.of_set (t.read_set a b)) (field_parts a o ++ term_parts b o) o refl)
    set-decides t.empty o = sym (passed-over (t.of_set t.empty) [] o refl)
    set-decides t.univ o = sym (passed-over (t.of_set t.univ) [] o refl)
    set-decides (t.single a) o = term-decides a o ∙ sym (passed-over (t.of_set (t.single a)) (term_parts a o) o refl)
    set-decides (t.union a b) o = two (set_passes a p) (set_passes b p) (set_parts a o) (set_parts b o) (set-decides a o) (set-decides b o) ∙ sym (passed-over (t.of_set (t.union a b)) (set_parts a o ++ set_parts b o) o refl)
    set-decides (t.inter a b) o = two (set_passes a p) (set_passes b p) (set_parts a o) (set_parts b o) (set-decides a o) (set-decides b o) ∙ sym (passed-over (t.of_set (t.inter a b)) (set_parts a o ++ set_parts b o) o refl)
    set-decides (t.diff a b) o = two (set_passes a p) (set_passes b p) (set_parts a o) (set_parts b o) (set-decides a o) (set-decides b o) ∙ sym (passed-over (t.of_set (t.diff a b)) (set_parts a o ++ set_parts b o) o refl)
    set-decides (t.compl a) o = set-decides a o ∙ sym (passed-over (t.of_set (t.compl a)) (set_parts a o) o refl)
    set-decides (t.compr a) o = formula-decides a o ∙ sym (passed-over (t.of_set (t.compr a)) (formula_parts a o) o refl)

    pub field-decides : (a : FieldTree) (o : Order) → field_passes a p ≡ all_pass (field_parts a o)
    field-decides (t.free_field x) o = named (t.of_field (t.free_field x)) o refl
    field-decides (t.update a b c) o = three (field_passes a p) (term_passes b p) (value_passes c p) (field_parts a o) (term_parts b o) (value_parts c o) (field-decides a o) (term-decides b o) (value-decides c o) ∙ sym (passed-over (t.of_field (t.update a b c)) (field_parts a o ++ (term_parts b o ++ value_parts c o)) o refl)

    pub formula-decides : (a : FormulaTree) (o : Order) → formula_passes a p ≡ all_pass (formula_parts a o)
    formula-decides t.true_formula o = sym (passed-over (t.of_truth t.true_formula) [] o refl)
    formula-decides t.false_formula o = sym (passed-over (t.of_truth t.false_formula) [] o refl)
    formula-decides (t.free_truth x) o = named (t.of_truth (t.free_truth x)) o refl
    formula-decides (t.read_truth a b) o = two (field_passes a p) (term_passes b p) (field_parts a o) (term_parts b o) (field-decides a o) (term-decides b o) ∙ sym (passed-over (t.of_truth (t.read_truth a b)) (field_parts a o ++ term_parts b o) o refl)
    formula-decides (t.negation a) o = formula-decides a o ∙ sym (passed-over (t.of_truth (t.negation a)) (formula_parts a o) o refl)
    formula-decides (t.and a b) o = two (formula_passes a p) (formula_passes b p) (formula_parts a o) (formula_parts b o) (formula-decides a o) (formula-decides b o) ∙ sym (passed-over (t.of_truth (t.and a b)) (formula_parts a o ++ formula_parts b o) o refl)
    formula-decides (t.or a b) o = two (formula_passes a p) (formula_passes b p) (formula_parts a o) (formula_parts b o) (formula-decides a o) (formula-decides b o) ∙ sym (passed-over (t.of_truth (t.or a b)) (formula_parts a o ++ formula_parts b o) o refl)
    formula-decides (t.implies a b) o = two (formula_passes a p) (formula_passes b p) (formula_parts a o) (formula_parts b o) (formula-decides a o) (formula-decides b o) ∙ sym (passed-over (t.of_truth (t.implies a b)) (formula_parts a o ++ formula_parts b o) o refl)
    formula-decides (t.iff a b) o = two (formula_passes a p) (formula_passes b p) (formula_parts a o) (formula_parts b o) (formula-decides a o) (formula-decides b o) ∙ sym (passed-over (t.of_truth (t.iff a b)) (formula_parts a o ++ formula_parts b o) o refl)
    formula-decides (t.all a) o = formula-decides a o ∙ sym (passed-over (t.of_truth (t.all a)) (formula_parts a o) o refl)
    formula-decides (t.ex a) o = formula-decides a o ∙ sym (passed-over (t.of_truth (t.ex a)) (formula_parts a o) o refl)
    formula-decides (t.eq_object a b) o = two (term_passes a p) (term_passes b p) (term_parts a o) (term_parts b o) (term-decides a o) (term-decides b o) ∙ sym (passed-over (t.of_truth (t.eq_object a b)) (term_parts a o ++ term_parts b o) o refl)
    formula-decides (t.eq_number a b) o = two (int_passes a p) (int_passes b p) (int_parts a o) (int_parts b o) (int-decides a o) (int-decides b o) ∙ sym (passed-over (t.of_truth (t.eq_number a b)) (int_parts a o ++ int_parts b o) o refl)
    formula-decides (t.eq_set a b) o = two (set_passes a p) (set_passes b p) (set_parts a o) (set_parts b o) (set-decides a o) (set-decides b o) ∙ sym (passed-over (t.of_truth (t.eq_set a b)) (set_parts a o ++ set_parts b o) o refl)
    formula-decides (t.less a b) o = two (int_passes a p) (int_passes b p) (int_parts a o) (int_parts b o) (int-decides a o) (int-decides b o) ∙ sym (passed-over (t.of_truth (t.less a b)) (int_parts a o ++ int_parts b o) o refl)
    formula-decides (t.less_equal a b) o = two (int_passes a p) (int_passes b p) (int_parts a o) (int_parts b o) (int-decides a o) (int-decides b o) ∙ sym (passed-over (t.of_truth (t.less_equal a b)) (int_parts a o ++ int_parts b o) o refl)
    formula-decides (t.divides z a) o = int-decides a o ∙ sym (passed-over (t.of_truth (t.divides z a)) (int_parts a o) o refl)
    formula-decides (t.member a b) o = two (term_passes a p) (set_passes b p) (term_parts a o) (set_parts b o) (term-decides a o) (set-decides b o) ∙ sym (passed-over (t.of_truth (t.member a b)) (term_parts a o ++ set_parts b o) o refl)
    formula-decides (t.subset a b) o = two (set_passes a p) (set_passes b p) (set_parts a o) (set_parts b o) (set-decides a o) (set-decides b o) ∙ sym (passed-over (t.of_truth (t.subset a b)) (set_parts a o ++ set_parts b o) o refl)
    formula-decides (t.reach a b c) o = three (fields_passes a p) (term_passes b p) (term_passes c p) (fields_parts a o) (term_parts b o) (term_parts c o) (fields-decides a o) (term-decides b o) (term-decides c o) ∙ sym (passed-over (t.of_truth (t.reach a b c)) (fields_parts a o ++ (term_parts b o ++ term_parts c o)) o refl)
    formula-decides (t.tree a) o = fields-decides a o ∙ sym (passed-over (t.of_truth (t.tree a)) (fields_parts a o) o refl)
    formula-decides (t.mark k a) o = formula-decides a o ∙ sym (passed-over (t.of_truth (t.mark k a)) (formula_parts a o) o refl)

    pub value-decides : (a : ValueTree) (o : Order) → value_passes a p ≡ all_pass (value_parts a o)
    value-decides (t.of_object a) o = term-decides a o
    value-decides (t.of_number a) o = int-decides a o
    value-decides (t.of_truth a) o = formula-decides a o
    value-decides (t.of_set a) o = set-decides a o
    value-decides (t.of_field a) o = field-decides a o

    pub fields-decides : (a : FieldTrees) (o : Order) → fields_passes a p ≡ all_pass (fields_parts a o)
    fields-decides t.none o = refl
    fields-decides (t.more f fs) o = two (field_passes f p) (fields_passes fs p) (field_parts f o) (fields_parts fs o) (field-decides f o) (fields-decides fs o)

pub free-decide : FreeNamesDecide
free-decide p v o = value-decides p v o
