-- A tree whose leaves a map of leaves fixes stays as it is.
use Rattle.std.proofs.Common.{◌≡◌, refl, ℕ, ◌+◌, Bool, true, ◌&&◌}
use Rattle.std.proofs.lemmas.Bool.{ltb-true}
use Rattle.jh_name.specs.declared.naming.Name.{Name}
use Rattle.jh_name.specs.declared.place.Sort as place
use Rattle.jh_form.specs.Tree.{TermTree, IntTree, SetTree, FieldTree, ValueTree, FormulaTree, FieldTrees}
use Rattle.jh_form.specs.Tree as t
use Rattle.jh_form.specs.Closed.{is_closed_term, is_closed_int, is_closed_set, is_closed_field, is_closed_value, is_closed_formula, is_closed_fields}
use Rattle.jh_form.specs.Passing.{term_passes, int_passes, set_passes, field_passes, value_passes, formula_passes, fields_passes}
use Rattle.jh_form.proofs.ClosedLemmas.{both-left, both-right}
use Rattle.jh_boxed.specs.Mapped.{LeafMap, mapped_term, mapped_int, mapped_set, mapped_field, mapped_value, mapped_formula, mapped_fields}
use Rattle.jh_substitution.specs.rewriting.Fixing.{FixesNames, FixesBound}

module _ (l : LeafMap) (p : Name → place.Sort → Bool) (f : FixesNames l p) where
  mutual
    unfolding mapped_term mapped_int mapped_set mapped_field mapped_value mapped_formula mapped_fields term_passes int_passes set_passes field_passes value_passes formula_passes fields_passes

    pub term-kept : (a : TermTree) (d : ℕ) → term_passes a p ≡ true → mapped_term a l d ≡ a
    term-kept (t.bound k) d h = f.bound k d
    term-kept (t.free_object x) d h = f.object x d h
    term-kept t.null d h = refl
    term-kept (t.read_object a b) d h = λ i. t.read_object (field-kept a d (both-left (field_passes a p) (term_passes b p) h) i) (term-kept b d (both-right (field_passes a p) (term_passes b p) h) i)

    pub int-kept : (a : IntTree) (d : ℕ) → int_passes a p ≡ true → mapped_int a l d ≡ a
    int-kept (t.const z) d h = refl
    int-kept (t.free_number x) d h = f.number x d h
    int-kept (t.read_number a b) d h = λ i. t.read_number (field-kept a d (both-left (field_passes a p) (term_passes b p) h) i) (term-kept b d (both-right (field_passes a p) (term_passes b p) h) i)
    int-kept (t.add a b) d h = λ i. t.add (int-kept a d (both-left (int_passes a p) (int_passes b p) h) i) (int-kept b d (both-right (int_passes a p) (int_passes b p) h) i)
    int-kept (t.sub a b) d h = λ i. t.sub (int-kept a d (both-left (int_passes a p) (int_passes b p) h) i) (int-kept b d (both-right (int_passes a p) (int_passes b p) h) i)
    int-kept (t.neg a) d h = λ i. t.neg (int-kept a d h i)
    int-kept (t.scale z a) d h = λ i. t.scale z (int-kept a d h i)
    int-kept (t.card a) d h = λ i. t.card (set-kept a d h i)

    pub set-kept : (a : SetTree) (d : ℕ) → set_passes a p ≡ true → mapped_set a l d ≡ a
    set-kept (t.free_set x) d h = f.set x d h
    set-kept (t.read_set a b) d h = λ i. t.read_set (field-kept a d (both-left (field_passes a p) (term_passes b p) h) i) (term-kept b d (both-right (field_passes a p) (term_passes b p) h) i)
    set-kept t.empty d h = refl
    set-kept t.univ d h = refl
    set-kept (t.single a) d h = λ i. t.single (term-kept a d h i)
    set-kept (t.union a b) d h = λ i. t.union (set-kept a d (both-left (set_passes a p) (set_passes b p) h) i) (set-kept b d (both-right (set_passes a p) (set_passes b p) h) i)
    set-kept (t.inter a b) d h = λ i. t.inter (set-kept a d (both-left (set_passes a p) (set_passes b p) h) i) (set-kept b d (both-right (set_passes a p) (set_passes b p) h) i)
    set-kept (t.diff a b) d h = λ i. t.diff (set-kept a d (both-left (set_passes a p) (set_passes b p) h) i) (set-kept b d (both-right (set_passes a p) (set_passes b p) h) i)
    set-kept (t.compl a) d h = λ i. t.compl (set-kept a d h i)
    set-kept (t.compr a) d h = λ i. t.compr (formula-kept a (d + 1) h i)

    pub field-kept : (a : FieldTree) (d : ℕ) → field_passes a p ≡ true → mapped_field a l d ≡ a
    field-kept (t.free_field x) d h = f.field x d h
    field-kept (t.update a b c) d h = λ i. t.update (field-kept a d (both-left (field_passes a p) (term_passes b p) (both-left (field_passes a p && term_passes b p) (value_passes c p) h)) i) (term-kept b d (both-right (field_passes a p) (term_passes b p) (both-left (field_passes a p && term_passes b p) (value_passes c p) h)) i) (value-kept c d (both-right (field_passes a p && term_passes b p) (value_passes c p) h) i)

    pub value-kept : (a : ValueTree) (d : ℕ) → value_passes a p ≡ true → mapped_value a l d ≡ a
    value-kept (t.of_object a) d h = λ i. t.of_object (term-kept a d h i)
    value-kept (t.of_number a) d h = λ i. t.of_number (int-kept a d h i)
    value-kept (t.of_truth a) d h = λ i. t.of_truth (formula-kept a d h i)
    value-kept (t.of_set a) d h = λ i. t.of_set (set-kept a d h i)
    value-kept (t.of_field a) d h = λ i. t.of_field (field-kept a d h i)

    pub formula-kept : (a : FormulaTree) (d : ℕ) → formula_passes a p ≡ true → mapped_formula a l d ≡ a
    formula-kept t.true_formula d h = refl
    formula-kept t.false_formula d h = refl
    formula-kept (t.free_truth x) d h = f.truth x d h
    formula-kept (t.read_truth a b) d h = λ i. t.read_truth (field-kept a d (both-left (field_passes a p) (term_passes b p) h) i) (term-kept b d (both-right (field_passes a p) (term_passes b p) h) i)
    formula-kept (t.negation a) d h = λ i. t.negation (formula-kept a d h i)
    formula-kept (t.and a b) d h = λ i. t.and (formula-kept a d (both-left (formula_passes a p) (formula_passes b p) h) i) (formula-kept b d (both-right (formula_passes a p) (formula_passes b p) h) i)
    formula-kept (t.or a b) d h = λ i. t.or (formula-kept a d (both-left (formula_passes a p) (formula_passes b p) h) i) (formula-kept b d (both-right (formula_passes a p) (formula_passes b p) h) i)
    formula-kept (t.implies a b) d h = λ i. t.implies (formula-kept a d (both-left (formula_passes a p) (formula_passes b p) h) i) (formula-kept b d (both-right (formula_passes a p) (formula_passes b p) h) i)
    formula-kept (t.iff a b) d h = λ i. t.iff (formula-kept a d (both-left (formula_passes a p) (formula_passes b p) h) i) (formula-kept b d (both-right (formula_passes a p) (formula_passes b p) h) i)
    formula-kept (t.all a) d h = λ i. t.all (formula-kept a (d + 1) h i)
    formula-kept (t.ex a) d h = λ i. t.ex (formula-kept a (d + 1) h i)
    formula-kept (t.eq_object a b) d h = λ i. t.eq_object (term-kept a d (both-left (term_passes a p) (term_passes b p) h) i) (term-kept b d (both-right (term_passes a p) (term_passes b p) h) i)
    formula-kept (t.eq_number a b) d h = λ i. t.eq_number (int-kept a d (both-left (int_passes a p) (int_passes b p) h) i) (int-kept b d (both-right (int_passes a p) (int_passes b p) h) i)
    formula-kept (t.eq_set a b) d h = λ i. t.eq_set (set-kept a d (both-left (set_passes a p) (set_passes b p) h) i) (set-kept b d (both-right (set_passes a p) (set_passes b p) h) i)
    formula-kept (t.less a b) d h = λ i. t.less (int-kept a d (both-left (int_passes a p) (int_passes b p) h) i) (int-kept b d (both-right (int_passes a p) (int_passes b p) h) i)
    formula-kept (t.less_equal a b) d h = λ i. t.less_equal (int-kept a d (both-left (int_passes a p) (int_passes b p) h) i) (int-kept b d (both-right (int_passes a p) (int_passes b p) h) i)
    formula-kept (t.divides z a) d h = λ i. t.divides z (int-kept a d h i)
    formula-kept (t.member a b) d h = λ i. t.member (term-kept a d (both-left (term_passes a p) (set_passes b p) h) i) (set-kept b d (both-right (term_passes a p) (set_passes b p) h) i)
    formula-kept (t.subset a b) d h = λ i. t.subset (set-kept a d (both-left (set_passes a p) (set_passes b p) h) i) (set-kept b d (both-right (set_passes a p) (set_passes b p) h) i)
    formula-kept (t.reach fs a b) d h = λ i. t.reach (fields-kept fs d (both-left (fields_passes fs p) (term_passes a p) (both-left (fields_passes fs p && term_passes a p) (term_passes b p) h)) i) (term-kept a d (both-right (fields_passes fs p) (term_passes a p) (both-left (fields_passes fs p && term_passes a p) (term_passes b p) h)) i) (term-kept b d (both-right (fields_passes fs p && term_passes a p) (term_passes b p) h) i)
    formula-kept (t.tree fs) d h = λ i. t.tree (fields-kept fs d h i)
    formula-kept (t.mark k a) d h = λ i. t.mark k (formula-kept a d h i)

    pub fields-kept : (a : FieldTrees) (d : ℕ) → fields_passes a p ≡ true → mapped_fields a l d ≡ a
    fields-kept t.none d h = refl
    fields-kept (t.more a fs) d h = λ i. t.more (field-kept a d (both-left (field_passes a p) (fields_passes fs p) h) i) (fields-kept fs d (both-right (field_passes a p) (fields_passes fs p) h) i)

module _ (l : LeafMap) (f : FixesBound l) where
  mutual
    unfolding mapped_term mapped_int mapped_set mapped_field mapped_value mapped_formula mapped_fields is_closed_term is_closed_int is_closed_set is_closed_field is_closed_value is_closed_formula is_closed_fields

    pub term-shut : (a : TermTree) (d : ℕ) → is_closed_term a d ≡ true → mapped_term a l d ≡ a
    term-shut (t.bound k) d h = f.bound k d (ltb-true k d h)
    term-shut (t.free_object x) d h = f.object x d
    term-shut t.null d h = refl
    term-shut (t.read_object a b) d h = λ i. t.read_object (field-shut a d (both-left (is_closed_field a d) (is_closed_term b d) h) i) (term-shut b d (both-right (is_closed_field a d) (is_closed_term b d) h) i)

    pub int-shut : (a : IntTree) (d : ℕ) → is_closed_int a d ≡ true → mapped_int a l d ≡ a
    int-shut (t.const z) d h = refl
    int-shut (t.free_number x) d h = f.number x d
    int-shut (t.read_number a b) d h = λ i. t.read_number (field-shut a d (both-left (is_closed_field a d) (is_closed_term b d) h) i) (term-shut b d (both-right (is_closed_field a d) (is_closed_term b d) h) i)
    int-shut (t.add a b) d h = λ i. t.add (int-shut a d (both-left (is_closed_int a d) (is_closed_int b d) h) i) (int-shut b d (both-right (is_closed_int a d) (is_closed_int b d) h) i)
    int-shut (t.sub a b) d h = λ i. t.sub (int-shut a d (both-left (is_closed_int a d) (is_closed_int b d) h) i) (int-shut b d (both-right (is_closed_int a d) (is_closed_int b d) h) i)
    int-shut (t.neg a) d h = λ i. t.neg (int-shut a d h i)
    int-shut (t.scale z a) d h = λ i. t.scale z (int-shut a d h i)
    int-shut (t.card a) d h = λ i. t.card (set-shut a d h i)

    pub set-shut : (a : SetTree) (d : ℕ) → is_closed_set a d ≡ true → mapped_set a l d ≡ a
    set-shut (t.free_set x) d h = f.set x d
    set-shut (t.read_set a b) d h = λ i. t.read_set (field-shut a d (both-left (is_closed_field a d) (is_closed_term b d) h) i) (term-shut b d (both-right (is_closed_field a d) (is_closed_term b d) h) i)
    set-shut t.empty d h = refl
    set-shut t.univ d h = refl
    set-shut (t.single a) d h = λ i. t.single (term-shut a d h i)
    set-shut (t.union a b) d h = λ i. t.union (set-shut a d (both-left (is_closed_set a d) (is_closed_set b d) h) i) (set-shut b d (both-right (is_closed_set a d) (is_closed_set b d) h) i)
    set-shut (t.inter a b) d h = λ i. t.inter (set-shut a d (both-left (is_closed_set a d) (is_closed_set b d) h) i) (set-shut b d (both-right (is_closed_set a d) (is_closed_set b d) h) i)
    set-shut (t.diff a b) d h = λ i. t.diff (set-shut a d (both-left (is_closed_set a d) (is_closed_set b d) h) i) (set-shut b d (both-right (is_closed_set a d) (is_closed_set b d) h) i)
    set-shut (t.compl a) d h = λ i. t.compl (set-shut a d h i)
    set-shut (t.compr a) d h = λ i. t.compr (formula-shut a (d + 1) h i)

    pub field-shut : (a : FieldTree) (d : ℕ) → is_closed_field a d ≡ true → mapped_field a l d ≡ a
    field-shut (t.free_field x) d h = f.field x d
    field-shut (t.update a b c) d h = λ i. t.update (field-shut a d (both-left (is_closed_field a d) (is_closed_term b d) (both-left (is_closed_field a d && is_closed_term b d) (is_closed_value c d) h)) i) (term-shut b d (both-right (is_closed_field a d) (is_closed_term b d) (both-left (is_closed_field a d && is_closed_term b d) (is_closed_value c d) h)) i) (value-shut c d (both-right (is_closed_field a d && is_closed_term b d) (is_closed_value c d) h) i)

    pub value-shut : (a : ValueTree) (d : ℕ) → is_closed_value a d ≡ true → mapped_value a l d ≡ a
    value-shut (t.of_object a) d h = λ i. t.of_object (term-shut a d h i)
    value-shut (t.of_number a) d h = λ i. t.of_number (int-shut a d h i)
    value-shut (t.of_truth a) d h = λ i. t.of_truth (formula-shut a d h i)
    value-shut (t.of_set a) d h = λ i. t.of_set (set-shut a d h i)
    value-shut (t.of_field a) d h = λ i. t.of_field (field-shut a d h i)

    pub formula-shut : (a : FormulaTree) (d : ℕ) → is_closed_formula a d ≡ true → mapped_formula a l d ≡ a
    formula-shut t.true_formula d h = refl
    formula-shut t.false_formula d h = refl
    formula-shut (t.free_truth x) d h = f.truth x d
    formula-shut (t.read_truth a b) d h = λ i. t.read_truth (field-shut a d (both-left (is_closed_field a d) (is_closed_term b d) h) i) (term-shut b d (both-right (is_closed_field a d) (is_closed_term b d) h) i)
    formula-shut (t.negation a) d h = λ i. t.negation (formula-shut a d h i)
    formula-shut (t.and a b) d h = λ i. t.and (formula-shut a d (both-left (is_closed_formula a d) (is_closed_formula b d) h) i) (formula-shut b d (both-right (is_closed_formula a d) (is_closed_formula b d) h) i)
    formula-shut (t.or a b) d h = λ i. t.or (formula-shut a d (both-left (is_closed_formula a d) (is_closed_formula b d) h) i) (formula-shut b d (both-right (is_closed_formula a d) (is_closed_formula b d) h) i)
    formula-shut (t.implies a b) d h = λ i. t.implies (formula-shut a d (both-left (is_closed_formula a d) (is_closed_formula b d) h) i) (formula-shut b d (both-right (is_closed_formula a d) (is_closed_formula b d) h) i)
    formula-shut (t.iff a b) d h = λ i. t.iff (formula-shut a d (both-left (is_closed_formula a d) (is_closed_formula b d) h) i) (formula-shut b d (both-right (is_closed_formula a d) (is_closed_formula b d) h) i)
    formula-shut (t.all a) d h = λ i. t.all (formula-shut a (d + 1) h i)
    formula-shut (t.ex a) d h = λ i. t.ex (formula-shut a (d + 1) h i)
    formula-shut (t.eq_object a b) d h = λ i. t.eq_object (term-shut a d (both-left (is_closed_term a d) (is_closed_term b d) h) i) (term-shut b d (both-right (is_closed_term a d) (is_closed_term b d) h) i)
    formula-shut (t.eq_number a b) d h = λ i. t.eq_number (int-shut a d (both-left (is_closed_int a d) (is_closed_int b d) h) i) (int-shut b d (both-right (is_closed_int a d) (is_closed_int b d) h) i)
    formula-shut (t.eq_set a b) d h = λ i. t.eq_set (set-shut a d (both-left (is_closed_set a d) (is_closed_set b d) h) i) (set-shut b d (both-right (is_closed_set a d) (is_closed_set b d) h) i)
    formula-shut (t.less a b) d h = λ i. t.less (int-shut a d (both-left (is_closed_int a d) (is_closed_int b d) h) i) (int-shut b d (both-right (is_closed_int a d) (is_closed_int b d) h) i)
    formula-shut (t.less_equal a b) d h = λ i. t.less_equal (int-shut a d (both-left (is_closed_int a d) (is_closed_int b d) h) i) (int-shut b d (both-right (is_closed_int a d) (is_closed_int b d) h) i)
    formula-shut (t.divides z a) d h = λ i. t.divides z (int-shut a d h i)
    formula-shut (t.member a b) d h = λ i. t.member (term-shut a d (both-left (is_closed_term a d) (is_closed_set b d) h) i) (set-shut b d (both-right (is_closed_term a d) (is_closed_set b d) h) i)
    formula-shut (t.subset a b) d h = λ i. t.subset (set-shut a d (both-left (is_closed_set a d) (is_closed_set b d) h) i) (set-shut b d (both-right (is_closed_set a d) (is_closed_set b d) h) i)
    formula-shut (t.reach fs a b) d h = λ i. t.reach (fields-shut fs d (both-left (is_closed_fields fs d) (is_closed_term a d) (both-left (is_closed_fields fs d && is_closed_term a d) (is_closed_term b d) h)) i) (term-shut a d (both-right (is_closed_fields fs d) (is_closed_term a d) (both-left (is_closed_fields fs d && is_closed_term a d) (is_closed_term b d) h)) i) (term-shut b d (both-right (is_closed_fields fs d && is_closed_term a d) (is_closed_term b d) h) i)
    formula-shut (t.tree fs) d h = λ i. t.tree (fields-shut fs d h i)
    formula-shut (t.mark k a) d h = λ i. t.mark k (formula-shut a d h i)

    pub fields-shut : (a : FieldTrees) (d : ℕ) → is_closed_fields a d ≡ true → mapped_fields a l d ≡ a
    fields-shut t.none d h = refl
    fields-shut (t.more a fs) d h = λ i. t.more (field-shut a d (both-left (is_closed_field a d) (is_closed_fields fs d) h) i) (fields-shut fs d (both-right (is_closed_field a d) (is_closed_fields fs d) h) i)
