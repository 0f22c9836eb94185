-- Written by tools/several.py: what passes two tests passes both at once.
use Rattle.std.proofs.Common.{◌≡◌, refl, Bool, true, ◌&&◌}
use Rattle.jh_name.specs.declared.naming.Name.{Name}
use Rattle.jh_name.specs.declared.place.Sort as place
use Rattle.jh_form.specs.Tree.{TermTree, IntTree, SetTree, FieldTree, ValueTree, FormulaTree, FieldTrees}
use Rattle.jh_form.specs.Tree as t
use Rattle.jh_form.specs.Passing.{term_passes, int_passes, set_passes, field_passes, value_passes, formula_passes, fields_passes}
use Rattle.jh_form.proofs.ClosedLemmas.{both-left, both-right}

module _ (p q : Name → place.Sort → Bool) where
  mutual
    unfolding term_passes int_passes set_passes field_passes value_passes formula_passes fields_passes

    pub term-both : (a : TermTree) → term_passes a p ≡ true → term_passes a q ≡ true → term_passes a (λ x s. p x s && q x s) ≡ true
    term-both (t.bound k) h g = refl
    term-both (t.free_object x) h g = λ i. h i && g i
    term-both t.null h g = refl
    term-both (t.read_object a b) h g = λ i. field-both a (both-left (field_passes a p) (term_passes b p) h) (both-left (field_passes a q) (term_passes b q) g) i && term-both b (both-right (field_passes a p) (term_passes b p) h) (both-right (field_passes a q) (term_passes b q) g) i

    pub int-both : (a : IntTree) → int_passes a p ≡ true → int_passes a q ≡ true → int_passes a (λ x s. p x s && q x s) ≡ true
    int-both (t.const z) h g = refl
    int-both (t.free_number x) h g = λ i. h i && g i
    int-both (t.read_number a b) h g = λ i. field-both a (both-left (field_passes a p) (term_passes b p) h) (both-left (field_passes a q) (term_passes b q) g) i && term-both b (both-right (field_passes a p) (term_passes b p) h) (both-right (field_passes a q) (term_passes b q) g) i
    int-both (t.add a b) h g = λ i. int-both a (both-left (int_passes a p) (int_passes b p) h) (both-left (int_passes a q) (int_passes b q) g) i && int-both b (both-right (int_passes a p) (int_passes b p) h) (both-right (int_passes a q) (int_passes b q) g) i
    int-both (t.sub a b) h g = λ i. int-both a (both-left (int_passes a p) (int_passes b p) h) (both-left (int_passes a q) (int_passes b q) g) i && int-both b (both-right (int_passes a p) (int_passes b p) h) (both-right (int_passes a q) (int_passes b q) g) i
    int-both (t.neg a) h g = int-both a h g
    int-both (t.scale z a) h g = int-both a h g
    int-both (t.card a) h g = set-both a h g

    pub set-both : (a : SetTree) → set_passes a p ≡ true → set_passes a q ≡ true → set_passes a (λ x s. p x s && q x s) ≡ true
    set-both (t.free_set x) h g = λ i. h i && g i
    set-both (t.read_set a b) h g = λ i. field-both a (both-left (field_passes a p) (term_passes b p) h) (both-left (field_passes a q) (term_passes b q) g) i && term-both b (both-right (field_passes a p) (term_passes b p) h) (both-right (field_passes a q) (term_passes b q) g) i
    set-both t.empty h g = refl
    set-both t.univ h g = refl
    set-both (t.single a) h g = term-both a h g
    set-both (t.union a b) h g = λ i. set-both a (both-left (set_passes a p) (set_passes b p) h) (both-left (set_passes a q) (set_passes b q) g) i && set-both b (both-right (set_passes a p) (set_passes b p) h) (both-right (set_passes a q) (set_passes b q) g) i
    set-both (t.inter a b) h g = λ i. set-both a (both-left (set_passes a p) (set_passes b p) h) (both-left (set_passes a q) (set_passes b q) g) i && set-both b (both-right (set_passes a p) (set_passes b p) h) (both-right (set_passes a q) (set_passes b q) g) i
    set-both (t.diff a b) h g = λ i. set-both a (both-left (set_passes a p) (set_passes b p) h) (both-left (set_passes a q) (set_passes b q) g) i && set-both b (both-right (set_passes a p) (set_passes b p) h) (both-right (set_passes a q) (set_passes b q) g) i
    set-both (t.compl a) h g = set-both a h g
    set-both (t.compr a) h g = formula-both a h g

    pub field-both : (a : FieldTree) → field_passes a p ≡ true → field_passes a q ≡ true → field_passes a (λ x s. p x s && q x s) ≡ true
    field-both (t.free_field x) h g = λ i. h i && g i
    field-both (t.update a b c) h g = λ i. field-both a (both-left (field_passes a p) (term_passes b p) (both-left (field_passes a p && term_passes b p) (value_passes c p) h)) (both-left (field_passes a q) (term_passes b q) (both-left (field_passes a q && term_passes b q) (value_passes c q) g)) i && term-both b (both-right (field_passes a p) (term_passes b p) (both-left (field_passes a p && term_passes b p) (value_passes c p) h)) (both-right (field_passes a q) (term_passes b q) (both-left (field_passes a q && term_passes b q) (value_passes c q) g)) i && value-both c (both-right (field_passes a p && term_passes b p) (value_passes c p) h) (both-right (field_passes a q && term_passes b q) (value_passes c q) g) i

    pub value-both : (a : ValueTree) → value_passes a p ≡ true → value_passes a q ≡ true → value_passes a (λ x s. p x s && q x s) ≡ true
    value-both (t.of_object a) h g = term-both a h g
    value-both (t.of_number a) h g = int-both a h g
    value-both (t.of_truth a) h g = formula-both a h g
    value-both (t.of_set a) h g = set-both a h g
    value-both (t.of_field a) h g = field-both a h g

    pub formula-both : (a : FormulaTree) → formula_passes a p ≡ true → formula_passes a q ≡ true → formula_passes a (λ x s. p x s && q x s) ≡ true
    formula-both t.true_formula h g = refl
    formula-both t.false_formula h g = refl
    formula-both (t.free_truth x) h g = λ i. h i && g i
    formula-both (t.read_truth a b) h g = λ i. field-both a (both-left (field_passes a p) (term_passes b p) h) (both-left (field_passes a q) (term_passes b q) g) i && term-both b (both-right (field_passes a p) (term_passes b p) h) (both-right (field_passes a q) (term_passes b q) g) i
    formula-both (t.negation a) h g = formula-both a h g
    formula-both (t.and a b) h g = λ i. formula-both a (both-left (formula_passes a p) (formula_passes b p) h) (both-left (formula_passes a q) (formula_passes b q) g) i && formula-both b (both-right (formula_passes a p) (formula_passes b p) h) (both-right (formula_passes a q) (formula_passes b q) g) i
    formula-both (t.or a b) h g = λ i. formula-both a (both-left (formula_passes a p) (formula_passes b p) h) (both-left (formula_passes a q) (formula_passes b q) g) i && formula-both b (both-right (formula_passes a p) (formula_passes b p) h) (both-right (formula_passes a q) (formula_passes b q) g) i
    formula-both (t.implies a b) h g = λ i. formula-both a (both-left (formula_passes a p) (formula_passes b p) h) (both-left (formula_passes a q) (formula_passes b q) g) i && formula-both b (both-right (formula_passes a p) (formula_passes b p) h) (both-right (formula_passes a q) (formula_passes b q) g) i
    formula-both (t.iff a b) h g = λ i. formula-both a (both-left (formula_passes a p) (formula_passes b p) h) (both-left (formula_passes a q) (formula_passes b q) g) i && formula-both b (both-right (formula_passes a p) (formula_passes b p) h) (both-right (formula_passes a q) (formula_passes b q) g) i
    formula-both (t.all a) h g = formula-both a h g
    formula-both (t.ex a) h g = formula-both a h g
    formula-both (t.eq_object a b) h g = λ i. term-both a (both-left (term_passes a p) (term_passes b p) h) (both-left (term_passes a q) (term_passes b q) g) i && term-both b (both-right (term_passes a p) (term_passes b p) h) (both-right (term_passes a q) (term_passes b q) g) i
    formula-both (t.eq_number a b) h g = λ i. int-both a (both-left (int_passes a p) (int_passes b p) h) (both-left (int_passes a q) (int_passes b q) g) i && int-both b (both-right (int_passes a p) (int_passes b p) h) (both-right (int_passes a q) (int_passes b q) g) i
    formula-both (t.eq_set a b) h g = λ i. set-both a (both-left (set_passes a p) (set_passes b p) h) (both-left (set_passes a q) (set_passes b q) g) i && set-both b (both-right (set_passes a p) (set_passes b p) h) (both-right (set_passes a q) (set_passes b q) g) i
    formula-both (t.less a b) h g = λ i. int-both a (both-left (int_passes a p) (int_passes b p) h) (both-left (int_passes a q) (int_passes b q) g) i && int-both b (both-right (int_passes a p) (int_passes b p) h) (both-right (int_passes a q) (int_passes b q) g) i
    formula-both (t.less_equal a b) h g = λ i. int-both a (both-left (int_passes a p) (int_passes b p) h) (both-left (int_passes a q) (int_passes b q) g) i && int-both b (both-right (int_passes a p) (int_passes b p) h) (both-right (int_passes a q) (int_passes b q) g) i
    formula-both (t.divides z a) h g = int-both a h g
    formula-both (t.member a b) h g = λ i. term-both a (both-left (term_passes a p) (set_passes b p) h) (both-left (term_passes a q) (set_passes b q) g) i && set-both b (both-right (term_passes a p) (set_passes b p) h) (both-right (term_passes a q) (set_passes b q) g) i
    formula-both (t.subset a b) h g = λ i. set-both a (both-left (set_passes a p) (set_passes b p) h) (both-left (set_passes a q) (set_passes b q) g) i && set-both b (both-right (set_passes a p) (set_passes b p) h) (both-right (set_passes a q) (set_passes b q) g) i
    formula-both (t.reach fs a b) h g = λ i. fields-both fs (both-left (fields_passes fs p) (term_passes a p) (both-left (fields_passes fs p && term_passes a p) (term_passes b p) h)) (both-left (fields_passes fs q) (term_passes a q) (both-left (fields_passes fs q && term_passes a q) (term_passes b q) g)) i && term-both a (both-right (fields_passes fs p) (term_passes a p) (both-left (fields_passes fs p && term_passes a p) (term_passes b p) h)) (both-right (fields_passes fs q) (term_passes a q) (both-left (fields_passes fs q && term_passes a q) (term_passes b q) g)) i && term-both b (both-right (fields_passes fs p && term_passes a p) (term_passes b p) h) (both-right (fields_passes fs q && term_passes a q) (term_passes b q) g) i
    formula-both (t.tree fs) h g = fields-both fs h g
    formula-both (t.mark k a) h g = formula-both a h g

    pub fields-both : (a : FieldTrees) → fields_passes a p ≡ true → fields_passes a q ≡ true → fields_passes a (λ x s. p x s && q x s) ≡ true
    fields-both t.none h g = refl
    fields-both (t.more a fs) h g = λ i. field-both a (both-left (field_passes a p) (fields_passes fs p) h) (both-left (field_passes a q) (fields_passes fs q) g) i && fields-both fs (both-right (field_passes a p) (fields_passes fs p) h) (both-right (field_passes a q) (fields_passes fs q) g) i
