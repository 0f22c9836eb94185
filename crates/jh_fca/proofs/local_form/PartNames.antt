-- The parts of a tree, inner ones first: where the free names among them pass a test the tree passes, and where the tree
-- passes each of them does.
use Rattle.std.proofs.Common.{◌≡◌, refl, sym, ap, ◌∙◌, Bool, true, ◌&&◌, List, [], ◌∷◌, ◌++◌, inl, inr}
use Rattle.jh_name.specs.declared.naming.Name.{Name}
use Rattle.jh_name.specs.declared.place.Sort as place
use Rattle.jh_name.specs.declared.place.Sort.TheVariants as Sort
use Rattle.jh_form.specs.Tree.{TermTree, IntTree, SetTree, FieldTree, ValueTree, FormulaTree, FieldTrees}
use Rattle.jh_form.specs.Tree as t
use Rattle.jh_form.specs.Passing.{term_passes, int_passes, set_passes, field_passes, value_passes, formula_passes, fields_passes}
use Rattle.jh_form.proofs.ClosedLemmas.{both-left, both-right}
use Rattle.jh_normal_forms.specs.declared.parts.order.Order.TheVariants as order
use Rattle.jh_normal_forms.specs.parts.Standing.{term_parts, int_parts, set_parts, field_parts, value_parts, formula_parts, fields_parts}
use Rattle.jh_fca.proofs.local_form.Among.{Among, among-left, among-right, among-either}

-- whether a value is no free name, or passes as one
unfoldable pub own_passes : (Name → place.Sort → Bool) → ValueTree → Bool
own_passes p (t.of_object (t.free_object x)) = p x Sort.Obj
own_passes p (t.of_number (t.free_number x)) = p x Sort.Int
own_passes p (t.of_truth (t.free_truth x)) = p x Sort.Bool
own_passes p (t.of_set (t.free_set x)) = p x Sort.Set
own_passes p (t.of_field (t.free_field x)) = p x Sort.Field
own_passes p v = true

-- each of a list passes
abbrev pub EachOwn : (Name → place.Sort → Bool) → List ValueTree → Type 0
EachOwn p vs = (v : ValueTree) → Among v vs → own_passes p v ≡ true

abbrev pub EachPasses : (Name → place.Sort → Bool) → List ValueTree → Type 0
EachPasses p vs = (v : ValueTree) → Among v vs → value_passes v p ≡ true

own-left : (p : Name → place.Sort → Bool) (xs ys : List ValueTree) → EachOwn p (xs ++ ys) → EachOwn p xs
own-left p xs ys h v k = h v (among-left v xs ys k)

own-right : (p : Name → place.Sort → Bool) (xs ys : List ValueTree) → EachOwn p (xs ++ ys) → EachOwn p ys
own-right p xs ys h v k = h v (among-right v xs ys k)

pass-both : (p : Name → place.Sort → Bool) (xs ys : List ValueTree) → EachPasses p xs → EachPasses p ys → EachPasses p (xs ++ ys)
pass-both p xs ys h k v m = elim (among-either v xs ys m) [ inl l ↦ h v l | inr r ↦ k v r ]

-- one value behind others
pass-last : (p : Name → place.Sort → Bool) (w : ValueTree) (xs : List ValueTree) → EachPasses p xs → value_passes w p ≡ true → EachPasses p (xs ++ (w ∷ []))
pass-last p w xs h e = pass-both p xs (w ∷ []) h (λ v m. elim m [ inl same ↦ sym (ap (λ u. value_passes u p) same) ∙ e | inr none ↦ absurd none ])

two-true : (a b : Bool) → a ≡ true → b ≡ true → (a && b) ≡ true
two-true a b h k = λ i. h i && k i

module _ (p : Name → place.Sort → Bool) where
  -- where the names among the parts pass, the tree does
  mutual
    unfolding term_parts int_parts set_parts field_parts value_parts formula_parts fields_parts term_passes int_passes set_passes field_passes value_passes formula_passes fields_passes own_passes

    pub term-own : (a : TermTree) → EachOwn p (term_parts a order.InnerFirst) → term_passes a p ≡ true
    term-own (t.bound k) h = refl
    term-own (t.free_object x) h = h (t.of_object (t.free_object x)) (inl refl)
    term-own t.null h = refl
    term-own (t.read_object a b) h = two-true (field_passes a p) (term_passes b p) (field-own a (own-left p (field_parts a order.InnerFirst) (term_parts b order.InnerFirst) (own-left p (field_parts a order.InnerFirst ++ term_parts b order.InnerFirst) ((t.of_object (t.read_object a b)) ∷ []) h))) (term-own b (own-right p (field_parts a order.InnerFirst) (term_parts b order.InnerFirst) (own-left p (field_parts a order.InnerFirst ++ term_parts b order.InnerFirst) ((t.of_object (t.read_object a b)) ∷ []) h)))

    pub int-own : (a : IntTree) → EachOwn p (int_parts a order.InnerFirst) → int_passes a p ≡ true
    int-own (t.const z) h = refl
    int-own (t.free_number x) h = h (t.of_number (t.free_number x)) (inl refl)
    int-own (t.read_number a b) h = two-true (field_passes a p) (term_passes b p) (field-own a (own-left p (field_parts a order.InnerFirst) (term_parts b order.InnerFirst) (own-left p (field_parts a order.InnerFirst ++ term_parts b order.InnerFirst) ((t.of_number (t.read_number a b)) ∷ []) h))) (term-own b (own-right p (field_parts a order.InnerFirst) (term_parts b order.InnerFirst) (own-left p (field_parts a order.InnerFirst ++ term_parts b order.InnerFirst) ((t.of_number (t.read_number a b)) ∷ []) h)))
    int-own (t.add a b) h = two-true (int_passes a p) (int_passes b p) (int-own a (own-left p (int_parts a order.InnerFirst) (int_parts b order.InnerFirst) (own-left p (int_parts a order.InnerFirst ++ int_parts b order.InnerFirst) ((t.of_number (t.add a b)) ∷ []) h))) (int-own b (own-right p (int_parts a order.InnerFirst) (int_parts b order.InnerFirst) (own-left p (int_parts a order.InnerFirst ++ int_parts b order.InnerFirst) ((t.of_number (t.add a b)) ∷ []) h)))
    int-own (t.sub a b) h = two-true (int_passes a p) (int_passes b p) (int-own a (own-left p (int_parts a order.InnerFirst) (int_parts b order.InnerFirst) (own-left p (int_parts a order.InnerFirst ++ int_parts b order.InnerFirst) ((t.of_number (t.sub a b)) ∷ []) h))) (int-own b (own-right p (int_parts a order.InnerFirst) (int_parts b order.InnerFirst) (own-left p (int_parts a order.InnerFirst ++ int_parts b order.InnerFirst) ((t.of_number (t.sub a b)) ∷ []) h)))
    int-own (t.neg a) h = int-own a (own-left p (int_parts a order.InnerFirst) ((t.of_number (t.neg a)) ∷ []) h)
    int-own (t.scale z a) h = int-own a (own-left p (int_parts a order.InnerFirst) ((t.of_number (t.scale z a)) ∷ []) h)
    int-own (t.card a) h = set-own a (own-left p (set_parts a order.InnerFirst) ((t.of_number (t.card a)) ∷ []) h)

    pub set-own : (a : SetTree) → EachOwn p (set_parts a order.InnerFirst) → set_passes a p ≡ true
    set-own (t.free_set x) h = h (t.of_set (t.free_set x)) (inl refl)
    set-own (t.read_set a b) h = two-true (field_passes a p) (term_passes b p) (field-own a (own-left p (field_parts a order.InnerFirst) (term_parts b order.InnerFirst) (own-left p (field_parts a order.InnerFirst ++ term_parts b order.InnerFirst) ((t.of_set (t.read_set a b)) ∷ []) h))) (term-own b (own-right p (field_parts a order.InnerFirst) (term_parts b order.InnerFirst) (own-left p (field_parts a order.InnerFirst ++ term_parts b order.InnerFirst) ((t.of_set (t.read_set a b)) ∷ []) h)))
    set-own t.empty h = refl
    set-own t.univ h = refl
    set-own (t.single a) h = term-own a (own-left p (term_parts a order.InnerFirst) ((t.of_set (t.single a)) ∷ []) h)
    set-own (t.union a b) h = two-true (set_passes a p) (set_passes b p) (set-own a (own-left p (set_parts a order.InnerFirst) (set_parts b order.InnerFirst) (own-left p (set_parts a order.InnerFirst ++ set_parts b order.InnerFirst) ((t.of_set (t.union a b)) ∷ []) h))) (set-own b (own-right p (set_parts a order.InnerFirst) (set_parts b order.InnerFirst) (own-left p (set_parts a order.InnerFirst ++ set_parts b order.InnerFirst) ((t.of_set (t.union a b)) ∷ []) h)))
    set-own (t.inter a b) h = two-true (set_passes a p) (set_passes b p) (set-own a (own-left p (set_parts a order.InnerFirst) (set_parts b order.InnerFirst) (own-left p (set_parts a order.InnerFirst ++ set_parts b order.InnerFirst) ((t.of_set (t.inter a b)) ∷ []) h))) (set-own b (own-right p (set_parts a order.InnerFirst) (set_parts b order.InnerFirst) (own-left p (set_parts a order.InnerFirst ++ set_parts b order.InnerFirst) ((t.of_set (t.inter a b)) ∷ []) h)))
    set-own (t.diff a b) h = two-true (set_passes a p) (set_passes b p) (set-own a (own-left p (set_parts a order.InnerFirst) (set_parts b order.InnerFirst) (own-left p (set_parts a order.InnerFirst ++ set_parts b order.InnerFirst) ((t.of_set (t.diff a b)) ∷ []) h))) (set-own b (own-right p (set_parts a order.InnerFirst) (set_parts b order.InnerFirst) (own-left p (set_parts a order.InnerFirst ++ set_parts b order.InnerFirst) ((t.of_set (t.diff a b)) ∷ []) h)))
    set-own (t.compl a) h = set-own a (own-left p (set_parts a order.InnerFirst) ((t.of_set (t.compl a)) ∷ []) h)
    set-own (t.compr a) h = formula-own a (own-left p (formula_parts a order.InnerFirst) ((t.of_set (t.compr a)) ∷ []) h)

    pub field-own : (a : FieldTree) → EachOwn p (field_parts a order.InnerFirst) → field_passes a p ≡ true
    field-own (t.free_field x) h = h (t.of_field (t.free_field x)) (inl refl)
    field-own (t.update a b c) h = two-true (field_passes a p && term_passes b p) (value_passes c p) (two-true (field_passes a p) (term_passes b p) (field-own a (own-left p (field_parts a order.InnerFirst) (term_parts b order.InnerFirst ++ value_parts c order.InnerFirst) (own-left p (field_parts a order.InnerFirst ++ (term_parts b order.InnerFirst ++ value_parts c order.InnerFirst)) ((t.of_field (t.update a b c)) ∷ []) h))) (term-own b (own-left p (term_parts b order.InnerFirst) (value_parts c order.InnerFirst) (own-right p (field_parts a order.InnerFirst) (term_parts b order.InnerFirst ++ value_parts c order.InnerFirst) (own-left p (field_parts a order.InnerFirst ++ (term_parts b order.InnerFirst ++ value_parts c order.InnerFirst)) ((t.of_field (t.update a b c)) ∷ []) h))))) (value-own c (own-right p (term_parts b order.InnerFirst) (value_parts c order.InnerFirst) (own-right p (field_parts a order.InnerFirst) (term_parts b order.InnerFirst ++ value_parts c order.InnerFirst) (own-left p (field_parts a order.InnerFirst ++ (term_parts b order.InnerFirst ++ value_parts c order.InnerFirst)) ((t.of_field (t.update a b c)) ∷ []) h))))

    pub value-own : (a : ValueTree) → EachOwn p (value_parts a order.InnerFirst) → value_passes a p ≡ true
    value-own (t.of_object a) h = term-own a h
    value-own (t.of_number a) h = int-own a h
    value-own (t.of_truth a) h = formula-own a h
    value-own (t.of_set a) h = set-own a h
    value-own (t.of_field a) h = field-own a h

    pub formula-own : (a : FormulaTree) → EachOwn p (formula_parts a order.InnerFirst) → formula_passes a p ≡ true
    formula-own t.true_formula h = refl
    formula-own t.false_formula h = refl
    formula-own (t.free_truth x) h = h (t.of_truth (t.free_truth x)) (inl refl)
    formula-own (t.read_truth a b) h = two-true (field_passes a p) (term_passes b p) (field-own a (own-left p (field_parts a order.InnerFirst) (term_parts b order.InnerFirst) (own-left p (field_parts a order.InnerFirst ++ term_parts b order.InnerFirst) ((t.of_truth (t.read_truth a b)) ∷ []) h))) (term-own b (own-right p (field_parts a order.InnerFirst) (term_parts b order.InnerFirst) (own-left p (field_parts a order.InnerFirst ++ term_parts b order.InnerFirst) ((t.of_truth (t.read_truth a b)) ∷ []) h)))
    formula-own (t.negation a) h = formula-own a (own-left p (formula_parts a order.InnerFirst) ((t.of_truth (t.negation a)) ∷ []) h)
    formula-own (t.and a b) h = two-true (formula_passes a p) (formula_passes b p) (formula-own a (own-left p (formula_parts a order.InnerFirst) (formula_parts b order.InnerFirst) (own-left p (formula_parts a order.InnerFirst ++ formula_parts b order.InnerFirst) ((t.of_truth (t.and a b)) ∷ []) h))) (formula-own b (own-right p (formula_parts a order.InnerFirst) (formula_parts b order.InnerFirst) (own-left p (formula_parts a order.InnerFirst ++ formula_parts b order.InnerFirst) ((t.of_truth (t.and a b)) ∷ []) h)))
    formula-own (t.or a b) h = two-true (formula_passes a p) (formula_passes b p) (formula-own a (own-left p (formula_parts a order.InnerFirst) (formula_parts b order.InnerFirst) (own-left p (formula_parts a order.InnerFirst ++ formula_parts b order.InnerFirst) ((t.of_truth (t.or a b)) ∷ []) h))) (formula-own b (own-right p (formula_parts a order.InnerFirst) (formula_parts b order.InnerFirst) (own-left p (formula_parts a order.InnerFirst ++ formula_parts b order.InnerFirst) ((t.of_truth (t.or a b)) ∷ []) h)))
    formula-own (t.implies a b) h = two-true (formula_passes a p) (formula_passes b p) (formula-own a (own-left p (formula_parts a order.InnerFirst) (formula_parts b order.InnerFirst) (own-left p (formula_parts a order.InnerFirst ++ formula_parts b order.InnerFirst) ((t.of_truth (t.implies a b)) ∷ []) h))) (formula-own b (own-right p (formula_parts a order.InnerFirst) (formula_parts b order.InnerFirst) (own-left p (formula_parts a order.InnerFirst ++ formula_parts b order.InnerFirst) ((t.of_truth (t.implies a b)) ∷ []) h)))
    formula-own (t.iff a b) h = two-true (formula_passes a p) (formula_passes b p) (formula-own a (own-left p (formula_parts a order.InnerFirst) (formula_parts b order.InnerFirst) (own-left p (formula_parts a order.InnerFirst ++ formula_parts b order.InnerFirst) ((t.of_truth (t.iff a b)) ∷ []) h))) (formula-own b (own-right p (formula_parts a order.InnerFirst) (formula_parts b order.InnerFirst) (own-left p (formula_parts a order.InnerFirst ++ formula_parts b order.InnerFirst) ((t.of_truth (t.iff a b)) ∷ []) h)))
    formula-own (t.all a) h = formula-own a (own-left p (formula_parts a order.InnerFirst) ((t.of_truth (t.all a)) ∷ []) h)
    formula-own (t.ex a) h = formula-own a (own-left p (formula_parts a order.InnerFirst) ((t.of_truth (t.ex a)) ∷ []) h)
    formula-own (t.eq_object a b) h = two-true (term_passes a p) (term_passes b p) (term-own a (own-left p (term_parts a order.InnerFirst) (term_parts b order.InnerFirst) (own-left p (term_parts a order.InnerFirst ++ term_parts b order.InnerFirst) ((t.of_truth (t.eq_object a b)) ∷ []) h))) (term-own b (own-right p (term_parts a order.InnerFirst) (term_parts b order.InnerFirst) (own-left p (term_parts a order.InnerFirst ++ term_parts b order.InnerFirst) ((t.of_truth (t.eq_object a b)) ∷ []) h)))
    formula-own (t.eq_number a b) h = two-true (int_passes a p) (int_passes b p) (int-own a (own-left p (int_parts a order.InnerFirst) (int_parts b order.InnerFirst) (own-left p (int_parts a order.InnerFirst ++ int_parts b order.InnerFirst) ((t.of_truth (t.eq_number a b)) ∷ []) h))) (int-own b (own-right p (int_parts a order.InnerFirst) (int_parts b order.InnerFirst) (own-left p (int_parts a order.InnerFirst ++ int_parts b order.InnerFirst) ((t.of_truth (t.eq_number a b)) ∷ []) h)))
    formula-own (t.eq_set a b) h = two-true (set_passes a p) (set_passes b p) (set-own a (own-left p (set_parts a order.InnerFirst) (set_parts b order.InnerFirst) (own-left p (set_parts a order.InnerFirst ++ set_parts b order.InnerFirst) ((t.of_truth (t.eq_set a b)) ∷ []) h))) (set-own b (own-right p (set_parts a order.InnerFirst) (set_parts b order.InnerFirst) (own-left p (set_parts a order.InnerFirst ++ set_parts b order.InnerFirst) ((t.of_truth (t.eq_set a b)) ∷ []) h)))
    formula-own (t.less a b) h = two-true (int_passes a p) (int_passes b p) (int-own a (own-left p (int_parts a order.InnerFirst) (int_parts b order.InnerFirst) (own-left p (int_parts a order.InnerFirst ++ int_parts b order.InnerFirst) ((t.of_truth (t.less a b)) ∷ []) h))) (int-own b (own-right p (int_parts a order.InnerFirst) (int_parts b order.InnerFirst) (own-left p (int_parts a order.InnerFirst ++ int_parts b order.InnerFirst) ((t.of_truth (t.less a b)) ∷ []) h)))
    formula-own (t.less_equal a b) h = two-true (int_passes a p) (int_passes b p) (int-own a (own-left p (int_parts a order.InnerFirst) (int_parts b order.InnerFirst) (own-left p (int_parts a order.InnerFirst ++ int_parts b order.InnerFirst) ((t.of_truth (t.less_equal a b)) ∷ []) h))) (int-own b (own-right p (int_parts a order.InnerFirst) (int_parts b order.InnerFirst) (own-left p (int_parts a order.InnerFirst ++ int_parts b order.InnerFirst) ((t.of_truth (t.less_equal a b)) ∷ []) h)))
    formula-own (t.divides z a) h = int-own a (own-left p (int_parts a order.InnerFirst) ((t.of_truth (t.divides z a)) ∷ []) h)
    formula-own (t.member a b) h = two-true (term_passes a p) (set_passes b p) (term-own a (own-left p (term_parts a order.InnerFirst) (set_parts b order.InnerFirst) (own-left p (term_parts a order.InnerFirst ++ set_parts b order.InnerFirst) ((t.of_truth (t.member a b)) ∷ []) h))) (set-own b (own-right p (term_parts a order.InnerFirst) (set_parts b order.InnerFirst) (own-left p (term_parts a order.InnerFirst ++ set_parts b order.InnerFirst) ((t.of_truth (t.member a b)) ∷ []) h)))
    formula-own (t.subset a b) h = two-true (set_passes a p) (set_passes b p) (set-own a (own-left p (set_parts a order.InnerFirst) (set_parts b order.InnerFirst) (own-left p (set_parts a order.InnerFirst ++ set_parts b order.InnerFirst) ((t.of_truth (t.subset a b)) ∷ []) h))) (set-own b (own-right p (set_parts a order.InnerFirst) (set_parts b order.InnerFirst) (own-left p (set_parts a order.InnerFirst ++ set_parts b order.InnerFirst) ((t.of_truth (t.subset a b)) ∷ []) h)))
    formula-own (t.reach fs a b) h = two-true (fields_passes fs p && term_passes a p) (term_passes b p) (two-true (fields_passes fs p) (term_passes a p) (fields-own fs (own-left p (fields_parts fs order.InnerFirst) (term_parts a order.InnerFirst ++ term_parts b order.InnerFirst) (own-left p (fields_parts fs order.InnerFirst ++ (term_parts a order.InnerFirst ++ term_parts b order.InnerFirst)) ((t.of_truth (t.reach fs a b)) ∷ []) h))) (term-own a (own-left p (term_parts a order.InnerFirst) (term_parts b order.InnerFirst) (own-right p (fields_parts fs order.InnerFirst) (term_parts a order.InnerFirst ++ term_parts b order.InnerFirst) (own-left p (fields_parts fs order.InnerFirst ++ (term_parts a order.InnerFirst ++ term_parts b order.InnerFirst)) ((t.of_truth (t.reach fs a b)) ∷ []) h))))) (term-own b (own-right p (term_parts a order.InnerFirst) (term_parts b order.InnerFirst) (own-right p (fields_parts fs order.InnerFirst) (term_parts a order.InnerFirst ++ term_parts b order.InnerFirst) (own-left p (fields_parts fs order.InnerFirst ++ (term_parts a order.InnerFirst ++ term_parts b order.InnerFirst)) ((t.of_truth (t.reach fs a b)) ∷ []) h))))
    formula-own (t.tree fs) h = fields-own fs (own-left p (fields_parts fs order.InnerFirst) ((t.of_truth (t.tree fs)) ∷ []) h)
    formula-own (t.mark k a) h = formula-own a (own-left p (formula_parts a order.InnerFirst) ((t.of_truth (t.mark k a)) ∷ []) h)

    pub fields-own : (fs : FieldTrees) → EachOwn p (fields_parts fs order.InnerFirst) → fields_passes fs p ≡ true
    fields-own t.none h = refl
    fields-own (t.more f fs) h = two-true (field_passes f p) (fields_passes fs p) (field-own f (own-left p (field_parts f order.InnerFirst) (fields_parts fs order.InnerFirst) h)) (fields-own fs (own-right p (field_parts f order.InnerFirst) (fields_parts fs order.InnerFirst) h))

  -- where the tree passes, each of its parts does
  mutual
    unfolding term_parts int_parts set_parts field_parts value_parts formula_parts fields_parts term_passes int_passes set_passes field_passes value_passes formula_passes fields_passes own_passes

    pub term-pass : (a : TermTree) → term_passes a p ≡ true → EachPasses p (term_parts a order.InnerFirst)
    term-pass (t.bound k) h = pass-last p (t.of_object (t.bound k)) [] (λ v m. absurd m) h
    term-pass (t.free_object x) h = pass-last p (t.of_object (t.free_object x)) [] (λ v m. absurd m) h
    term-pass t.null h = pass-last p (t.of_object t.null) [] (λ v m. absurd m) h
    term-pass (t.read_object a b) h = pass-last p (t.of_object (t.read_object a b)) (field_parts a order.InnerFirst ++ term_parts b order.InnerFirst) (pass-both p (field_parts a order.InnerFirst) (term_parts b order.InnerFirst) (field-pass a (both-left (field_passes a p) (term_passes b p) h)) (term-pass b (both-right (field_passes a p) (term_passes b p) h))) h

    pub int-pass : (a : IntTree) → int_passes a p ≡ true → EachPasses p (int_parts a order.InnerFirst)
    int-pass (t.const z) h = pass-last p (t.of_number (t.const z)) [] (λ v m. absurd m) h
    int-pass (t.free_number x) h = pass-last p (t.of_number (t.free_number x)) [] (λ v m. absurd m) h
    int-pass (t.read_number a b) h = pass-last p (t.of_number (t.read_number a b)) (field_parts a order.InnerFirst ++ term_parts b order.InnerFirst) (pass-both p (field_parts a order.InnerFirst) (term_parts b order.InnerFirst) (field-pass a (both-left (field_passes a p) (term_passes b p) h)) (term-pass b (both-right (field_passes a p) (term_passes b p) h))) h
    int-pass (t.add a b) h = pass-last p (t.of_number (t.add a b)) (int_parts a order.InnerFirst ++ int_parts b order.InnerFirst) (pass-both p (int_parts a order.InnerFirst) (int_parts b order.InnerFirst) (int-pass a (both-left (int_passes a p) (int_passes b p) h)) (int-pass b (both-right (int_passes a p) (int_passes b p) h))) h
    int-pass (t.sub a b) h = pass-last p (t.of_number (t.sub a b)) (int_parts a order.InnerFirst ++ int_parts b order.InnerFirst) (pass-both p (int_parts a order.InnerFirst) (int_parts b order.InnerFirst) (int-pass a (both-left (int_passes a p) (int_passes b p) h)) (int-pass b (both-right (int_passes a p) (int_passes b p) h))) h
    int-pass (t.neg a) h = pass-last p (t.of_number (t.neg a)) (int_parts a order.InnerFirst) (int-pass a h) h
    int-pass (t.scale z a) h = pass-last p (t.of_number (t.scale z a)) (int_parts a order.InnerFirst) (int-pass a h) h
    int-pass (t.card a) h = pass-last p (t.of_number (t.card a)) (set_parts a order.InnerFirst) (set-pass a h) h

    pub set-pass : (a : SetTree) → set_passes a p ≡ true → EachPasses p (set_parts a order.InnerFirst)
    set-pass (t.free_set x) h = pass-last p (t.of_set (t.free_set x)) [] (λ v m. absurd m) h
    set-pass (t.read_set a b) h = pass-last p (t.of_set (t.read_set a b)) (field_parts a order.InnerFirst ++ term_parts b order.InnerFirst) (pass-both p (field_parts a order.InnerFirst) (term_parts b order.InnerFirst) (field-pass a (both-left (field_passes a p) (term_passes b p) h)) (term-pass b (both-right (field_passes a p) (term_passes b p) h))) h
    set-pass t.empty h = pass-last p (t.of_set t.empty) [] (λ v m. absurd m) h
    set-pass t.univ h = pass-last p (t.of_set t.univ) [] (λ v m. absurd m) h
    set-pass (t.single a) h = pass-last p (t.of_set (t.single a)) (term_parts a order.InnerFirst) (term-pass a h) h
    set-pass (t.union a b) h = pass-last p (t.of_set (t.union a b)) (set_parts a order.InnerFirst ++ set_parts b order.InnerFirst) (pass-both p (set_parts a order.InnerFirst) (set_parts b order.InnerFirst) (set-pass a (both-left (set_passes a p) (set_passes b p) h)) (set-pass b (both-right (set_passes a p) (set_passes b p) h))) h
    set-pass (t.inter a b) h = pass-last p (t.of_set (t.inter a b)) (set_parts a order.InnerFirst ++ set_parts b order.InnerFirst) (pass-both p (set_parts a order.InnerFirst) (set_parts b order.InnerFirst) (set-pass a (both-left (set_passes a p) (set_passes b p) h)) (set-pass b (both-right (set_passes a p) (set_passes b p) h))) h
    set-pass (t.diff a b) h = pass-last p (t.of_set (t.diff a b)) (set_parts a order.InnerFirst ++ set_parts b order.InnerFirst) (pass-both p (set_parts a order.InnerFirst) (set_parts b order.InnerFirst) (set-pass a (both-left (set_passes a p) (set_passes b p) h)) (set-pass b (both-right (set_passes a p) (set_passes b p) h))) h
    set-pass (t.compl a) h = pass-last p (t.of_set (t.compl a)) (set_parts a order.InnerFirst) (set-pass a h) h
    set-pass (t.compr a) h = pass-last p (t.of_set (t.compr a)) (formula_parts a order.InnerFirst) (formula-pass a h) h

    pub field-pass : (a : FieldTree) → field_passes a p ≡ true → EachPasses p (field_parts a order.InnerFirst)
    field-pass (t.free_field x) h = pass-last p (t.of_field (t.free_field x)) [] (λ v m. absurd m) h
    field-pass (t.update a b c) h = pass-last p (t.of_field (t.update a b c)) (field_parts a order.InnerFirst ++ (term_parts b order.InnerFirst ++ value_parts c order.InnerFirst)) (pass-both p (field_parts a order.InnerFirst) (term_parts b order.InnerFirst ++ value_parts c order.InnerFirst) (field-pass a (both-left (field_passes a p) (term_passes b p) (both-left (field_passes a p && term_passes b p) (value_passes c p) h))) (pass-both p (term_parts b order.InnerFirst) (value_parts c order.InnerFirst) (term-pass b (both-right (field_passes a p) (term_passes b p) (both-left (field_passes a p && term_passes b p) (value_passes c p) h))) (value-pass c (both-right (field_passes a p && term_passes b p) (value_passes c p) h)))) h

    pub value-pass : (a : ValueTree) → value_passes a p ≡ true → EachPasses p (value_parts a order.InnerFirst)
    value-pass (t.of_object a) h = term-pass a h
    value-pass (t.of_number a) h = int-pass a h
    value-pass (t.of_truth a) h = formula-pass a h
    value-pass (t.of_set a) h = set-pass a h
    value-pass (t.of_field a) h = field-pass a h

    pub formula-pass : (a : FormulaTree) → formula_passes a p ≡ true → EachPasses p (formula_parts a order.InnerFirst)
    formula-pass t.true_formula h = pass-last p (t.of_truth t.true_formula) [] (λ v m. absurd m) h
    formula-pass t.false_formula h = pass-last p (t.of_truth t.false_formula) [] (λ v m. absurd m) h
    formula-pass (t.free_truth x) h = pass-last p (t.of_truth (t.free_truth x)) [] (λ v m. absurd m) h
    formula-pass (t.read_truth a b) h = pass-last p (t.of_truth (t.read_truth a b)) (field_parts a order.InnerFirst ++ term_parts b order.InnerFirst) (pass-both p (field_parts a order.InnerFirst) (term_parts b order.InnerFirst) (field-pass a (both-left (field_passes a p) (term_passes b p) h)) (term-pass b (both-right (field_passes a p) (term_passes b p) h))) h
    formula-pass (t.negation a) h = pass-last p (t.of_truth (t.negation a)) (formula_parts a order.InnerFirst) (formula-pass a h) h
    formula-pass (t.and a b) h = pass-last p (t.of_truth (t.and a b)) (formula_parts a order.InnerFirst ++ formula_parts b order.InnerFirst) (pass-both p (formula_parts a order.InnerFirst) (formula_parts b order.InnerFirst) (formula-pass a (both-left (formula_passes a p) (formula_passes b p) h)) (formula-pass b (both-right (formula_passes a p) (formula_passes b p) h))) h
    formula-pass (t.or a b) h = pass-last p (t.of_truth (t.or a b)) (formula_parts a order.InnerFirst ++ formula_parts b order.InnerFirst) (pass-both p (formula_parts a order.InnerFirst) (formula_parts b order.InnerFirst) (formula-pass a (both-left (formula_passes a p) (formula_passes b p) h)) (formula-pass b (both-right (formula_passes a p) (formula_passes b p) h))) h
    formula-pass (t.implies a b) h = pass-last p (t.of_truth (t.implies a b)) (formula_parts a order.InnerFirst ++ formula_parts b order.InnerFirst) (pass-both p (formula_parts a order.InnerFirst) (formula_parts b order.InnerFirst) (formula-pass a (both-left (formula_passes a p) (formula_passes b p) h)) (formula-pass b (both-right (formula_passes a p) (formula_passes b p) h))) h
    formula-pass (t.iff a b) h = pass-last p (t.of_truth (t.iff a b)) (formula_parts a order.InnerFirst ++ formula_parts b order.InnerFirst) (pass-both p (formula_parts a order.InnerFirst) (formula_parts b order.InnerFirst) (formula-pass a (both-left (formula_passes a p) (formula_passes b p) h)) (formula-pass b (both-right (formula_passes a p) (formula_passes b p) h))) h
    formula-pass (t.all a) h = pass-last p (t.of_truth (t.all a)) (formula_parts a order.InnerFirst) (formula-pass a h) h
    formula-pass (t.ex a) h = pass-last p (t.of_truth (t.ex a)) (formula_parts a order.InnerFirst) (formula-pass a h) h
    formula-pass (t.eq_object a b) h = pass-last p (t.of_truth (t.eq_object a b)) (term_parts a order.InnerFirst ++ term_parts b order.InnerFirst) (pass-both p (term_parts a order.InnerFirst) (term_parts b order.InnerFirst) (term-pass a (both-left (term_passes a p) (term_passes b p) h)) (term-pass b (both-right (term_passes a p) (term_passes b p) h))) h
    formula-pass (t.eq_number a b) h = pass-last p (t.of_truth (t.eq_number a b)) (int_parts a order.InnerFirst ++ int_parts b order.InnerFirst) (pass-both p (int_parts a order.InnerFirst) (int_parts b order.InnerFirst) (int-pass a (both-left (int_passes a p) (int_passes b p) h)) (int-pass b (both-right (int_passes a p) (int_passes b p) h))) h
    formula-pass (t.eq_set a b) h = pass-last p (t.of_truth (t.eq_set a b)) (set_parts a order.InnerFirst ++ set_parts b order.InnerFirst) (pass-both p (set_parts a order.InnerFirst) (set_parts b order.InnerFirst) (set-pass a (both-left (set_passes a p) (set_passes b p) h)) (set-pass b (both-right (set_passes a p) (set_passes b p) h))) h
    formula-pass (t.less a b) h = pass-last p (t.of_truth (t.less a b)) (int_parts a order.InnerFirst ++ int_parts b order.InnerFirst) (pass-both p (int_parts a order.InnerFirst) (int_parts b order.InnerFirst) (int-pass a (both-left (int_passes a p) (int_passes b p) h)) (int-pass b (both-right (int_passes a p) (int_passes b p) h))) h
    formula-pass (t.less_equal a b) h = pass-last p (t.of_truth (t.less_equal a b)) (int_parts a order.InnerFirst ++ int_parts b order.InnerFirst) (pass-both p (int_parts a order.InnerFirst) (int_parts b order.InnerFirst) (int-pass a (both-left (int_passes a p) (int_passes b p) h)) (int-pass b (both-right (int_passes a p) (int_passes b p) h))) h
    formula-pass (t.divides z a) h = pass-last p (t.of_truth (t.divides z a)) (int_parts a order.InnerFirst) (int-pass a h) h
    formula-pass (t.member a b) h = pass-last p (t.of_truth (t.member a b)) (term_parts a order.InnerFirst ++ set_parts b order.InnerFirst) (pass-both p (term_parts a order.InnerFirst) (set_parts b order.InnerFirst) (term-pass a (both-left (term_passes a p) (set_passes b p) h)) (set-pass b (both-right (term_passes a p) (set_passes b p) h))) h
    formula-pass (t.subset a b) h = pass-last p (t.of_truth (t.subset a b)) (set_parts a order.InnerFirst ++ set_parts b order.InnerFirst) (pass-both p (set_parts a order.InnerFirst) (set_parts b order.InnerFirst) (set-pass a (both-left (set_passes a p) (set_passes b p) h)) (set-pass b (both-right (set_passes a p) (set_passes b p) h))) h
    formula-pass (t.reach fs a b) h = pass-last p (t.of_truth (t.reach fs a b)) (fields_parts fs order.InnerFirst ++ (term_parts a order.InnerFirst ++ term_parts b order.InnerFirst)) (pass-both p (fields_parts fs order.InnerFirst) (term_parts a order.InnerFirst ++ term_parts b order.InnerFirst) (fields-pass fs (both-left (fields_passes fs p) (term_passes a p) (both-left (fields_passes fs p && term_passes a p) (term_passes b p) h))) (pass-both p (term_parts a order.InnerFirst) (term_parts b order.InnerFirst) (term-pass a (both-right (fields_passes fs p) (term_passes a p) (both-left (fields_passes fs p && term_passes a p) (term_passes b p) h))) (term-pass b (both-right (fields_passes fs p && term_passes a p) (term_passes b p) h)))) h
    formula-pass (t.tree fs) h = pass-last p (t.of_truth (t.tree fs)) (fields_parts fs order.InnerFirst) (fields-pass fs h) h
    formula-pass (t.mark k a) h = pass-last p (t.of_truth (t.mark k a)) (formula_parts a order.InnerFirst) (formula-pass a h) h

    pub fields-pass : (fs : FieldTrees) → fields_passes fs p ≡ true → EachPasses p (fields_parts fs order.InnerFirst)
    fields-pass t.none h = λ v m. absurd m
    fields-pass (t.more f fs) h = pass-both p (field_parts f order.InnerFirst) (fields_parts fs order.InnerFirst) (field-pass f (both-left (field_passes f p) (fields_passes fs p) h)) (fields-pass fs (both-right (field_passes f p) (fields_passes fs p) h))
