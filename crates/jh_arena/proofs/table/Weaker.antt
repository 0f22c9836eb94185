-- What passes a test passes a weaker one.
use Rattle.std.proofs.Common.{◌≡◌, refl, Bool, true, ◌&&◌}
use Rattle.jh_boxed.specs.jh_name.declared.naming.Name.{Name}
use Rattle.jh_boxed.specs.jh_name.declared.place.Sort as place
use Rattle.jh_boxed.specs.jh_name.declared.place.Sort.TheVariants as Sort
use Rattle.jh_form.specs.Tree.{TermTree, IntTree, SetTree, FieldTree, ValueTree, FormulaTree, FieldTrees}
use Rattle.jh_form.specs.Tree as t
use Rattle.jh_form.specs.Passing.{term_passes, int_passes, set_passes, field_passes, value_passes, formula_passes, fields_passes}
use Rattle.jh_form.proofs.ClosedLemmas.{both-left, both-right}

module _ (p q : Name → place.Sort → Bool) (w : (x : Name) (s : place.Sort) → p x s ≡ true → q x s ≡ true) where
  mutual
    unfolding term_passes int_passes set_passes field_passes value_passes formula_passes fields_passes

    pub term-weaker : (a : TermTree) → term_passes a p ≡ true → term_passes a q ≡ true
    term-weaker (t.bound k) h = refl
    term-weaker (t.free_object x) h = w x Sort.Obj h
    term-weaker t.null h = refl
    term-weaker (t.read_object a b) h = λ i. field-weaker a (both-left (field_passes a p) (term_passes b p) h) i && term-weaker b (both-right (field_passes a p) (term_passes b p) h) i

    pub int-weaker : (a : IntTree) → int_passes a p ≡ true → int_passes a q ≡ true
    int-weaker (t.const z) h = refl
    int-weaker (t.free_number x) h = w x Sort.Int h
    int-weaker (t.read_number a b) h = λ i. field-weaker a (both-left (field_passes a p) (term_passes b p) h) i && term-weaker b (both-right (field_passes a p) (term_passes b p) h) i
    int-weaker (t.add a b) h = λ i. int-weaker a (both-left (int_passes a p) (int_passes b p) h) i && int-weaker b (both-right (int_passes a p) (int_passes b p) h) i
    int-weaker (t.sub a b) h = λ i. int-weaker a (both-left (int_passes a p) (int_passes b p) h) i && int-weaker b (both-right (int_passes a p) (int_passes b p) h) i
    int-weaker (t.neg a) h = int-weaker a h
    int-weaker (t.scale z a) h = int-weaker a h
    int-weaker (t.card a) h = set-weaker a h

    pub set-weaker : (a : SetTree) → set_passes a p ≡ true → set_passes a q ≡ true
    set-weaker (t.free_set x) h = w x Sort.Set h
    set-weaker (t.read_set a b) h = λ i. field-weaker a (both-left (field_passes a p) (term_passes b p) h) i && term-weaker b (both-right (field_passes a p) (term_passes b p) h) i
    set-weaker t.empty h = refl
    set-weaker t.univ h = refl
    set-weaker (t.single a) h = term-weaker a h
    set-weaker (t.union a b) h = λ i. set-weaker a (both-left (set_passes a p) (set_passes b p) h) i && set-weaker b (both-right (set_passes a p) (set_passes b p) h) i
    set-weaker (t.inter a b) h = λ i. set-weaker a (both-left (set_passes a p) (set_passes b p) h) i && set-weaker b (both-right (set_passes a p) (set_passes b p) h) i
    set-weaker (t.diff a b) h = λ i. set-weaker a (both-left (set_passes a p) (set_passes b p) h) i && set-weaker b (both-right (set_passes a p) (set_passes b p) h) i
    set-weaker (t.compl a) h = set-weaker a h
    set-weaker (t.compr a) h = formula-weaker a h

    pub field-weaker : (a : FieldTree) → field_passes a p ≡ true → field_passes a q ≡ true
    field-weaker (t.free_field x) h = w x Sort.Field h
    field-weaker (t.update a b c) h = λ i. field-weaker a (both-left (field_passes a p) (term_passes b p) (both-left (field_passes a p && term_passes b p) (value_passes c p) h)) i && term-weaker b (both-right (field_passes a p) (term_passes b p) (both-left (field_passes a p && term_passes b p) (value_passes c p) h)) i && value-weaker c (both-right (field_passes a p && term_passes b p) (value_passes c p) h) i

    pub value-weaker : (a : ValueTree) → value_passes a p ≡ true → value_passes a q ≡ true
    value-weaker (t.of_object a) h = term-weaker a h
    value-weaker (t.of_number a) h = int-weaker a h
    value-weaker (t.of_truth a) h = formula-weaker a h
    value-weaker (t.of_set a) h = set-weaker a h
    value-weaker (t.of_field a) h = field-weaker a h

    pub formula-weaker : (a : FormulaTree) → formula_passes a p ≡ true → formula_passes a q ≡ true
    formula-weaker t.true_formula h = refl
    formula-weaker t.false_formula h = refl
    formula-weaker (t.free_truth x) h = w x Sort.Bool h
    formula-weaker (t.read_truth a b) h = λ i. field-weaker a (both-left (field_passes a p) (term_passes b p) h) i && term-weaker b (both-right (field_passes a p) (term_passes b p) h) i
    formula-weaker (t.negation a) h = formula-weaker a h
    formula-weaker (t.and a b) h = λ i. formula-weaker a (both-left (formula_passes a p) (formula_passes b p) h) i && formula-weaker b (both-right (formula_passes a p) (formula_passes b p) h) i
    formula-weaker (t.or a b) h = λ i. formula-weaker a (both-left (formula_passes a p) (formula_passes b p) h) i && formula-weaker b (both-right (formula_passes a p) (formula_passes b p) h) i
    formula-weaker (t.implies a b) h = λ i. formula-weaker a (both-left (formula_passes a p) (formula_passes b p) h) i && formula-weaker b (both-right (formula_passes a p) (formula_passes b p) h) i
    formula-weaker (t.iff a b) h = λ i. formula-weaker a (both-left (formula_passes a p) (formula_passes b p) h) i && formula-weaker b (both-right (formula_passes a p) (formula_passes b p) h) i
    formula-weaker (t.all a) h = formula-weaker a h
    formula-weaker (t.ex a) h = formula-weaker a h
    formula-weaker (t.eq_object a b) h = λ i. term-weaker a (both-left (term_passes a p) (term_passes b p) h) i && term-weaker b (both-right (term_passes a p) (term_passes b p) h) i
    formula-weaker (t.eq_number a b) h = λ i. int-weaker a (both-left (int_passes a p) (int_passes b p) h) i && int-weaker b (both-right (int_passes a p) (int_passes b p) h) i
    formula-weaker (t.eq_set a b) h = λ i. set-weaker a (both-left (set_passes a p) (set_passes b p) h) i && set-weaker b (both-right (set_passes a p) (set_passes b p) h) i
    formula-weaker (t.less a b) h = λ i. int-weaker a (both-left (int_passes a p) (int_passes b p) h) i && int-weaker b (both-right (int_passes a p) (int_passes b p) h) i
    formula-weaker (t.less_equal a b) h = λ i. int-weaker a (both-left (int_passes a p) (int_passes b p) h) i && int-weaker b (both-right (int_passes a p) (int_passes b p) h) i
    formula-weaker (t.divides z a) h = int-weaker a h
    formula-weaker (t.member a b) h = λ i. term-weaker a (both-left (term_passes a p) (set_passes b p) h) i && set-weaker b (both-right (term_passes a p) (set_passes b p) h) i
    formula-weaker (t.subset a b) h = λ i. set-weaker a (both-left (set_passes a p) (set_passes b p) h) i && set-weaker b (both-right (set_passes a p) (set_passes b p) h) i
    formula-weaker (t.reach fs a b) h = λ i. fields-weaker fs (both-left (fields_passes fs p) (term_passes a p) (both-left (fields_passes fs p && term_passes a p) (term_passes b p) h)) i && term-weaker a (both-right (fields_passes fs p) (term_passes a p) (both-left (fields_passes fs p && term_passes a p) (term_passes b p) h)) i && term-weaker b (both-right (fields_passes fs p && term_passes a p) (term_passes b p) h) i
    formula-weaker (t.tree fs) h = fields-weaker fs h
    formula-weaker (t.mark k a) h = formula-weaker a h

    pub fields-weaker : (a : FieldTrees) → fields_passes a p ≡ true → fields_passes a q ≡ true
    fields-weaker t.none h = refl
    fields-weaker (t.more a fs) h = λ i. field-weaker a (both-left (field_passes a p) (fields_passes fs p) h) i && fields-weaker fs (both-right (field_passes a p) (fields_passes fs p) h) i
