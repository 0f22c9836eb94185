-- A formula without the updates that change nothing has no other names than the formula.
use Rattle.std.proofs.Common.{◌≡◌, refl, Bool, true, ◌&&◌}
use Rattle.jh_name.specs.declared.naming.Name.{Name}
use Rattle.jh_name.specs.declared.place.Sort as place
use Rattle.jh_form.specs.Tree.{TermTree, IntTree, SetTree, FieldTree, ValueTree, FormulaTree, FieldTrees}
use Rattle.jh_form.specs.Tree as t
use Rattle.jh_form.specs.Passing.{term_passes, int_passes, set_passes, field_passes, value_passes, formula_passes, fields_passes}
use Rattle.jh_form.proofs.ClosedLemmas.{both-left, both-right}
use Rattle.jh_normal_forms.specs.declared.rebuilding.polarity.Polarity.{Polarity}
use Rattle.jh_normal_forms.specs.declared.rebuilding.polarity.Polarity.TheVariants as pol
use Rattle.jh_normal_forms.specs.rebuilding.Built.{turned, built_term, built_int, built_set, built_field, built_value, built_formula, built_fields}
use Rattle.jh_normal_forms.specs.idle_updates.Dropped.{without_field_value, dropping, dropped}

two-true : (a b : Bool) → a ≡ true → b ≡ true → (a && b) ≡ true
two-true a b h k = λ i. h i && k i

module _ (p : Name → place.Sort → Bool) where
  without-passes : (f : FieldTree) → field_passes f p ≡ true → field_passes (without_field_value f) p ≡ true
  unfolding without_field_value field_passes
  without-passes (t.update f a (t.of_field g)) h = both-left (field_passes f p) (term_passes a p) (both-left (field_passes f p && term_passes a p) (value_passes (t.of_field g) p) h)
  without-passes (t.update f a (t.of_object v)) h = h
  without-passes (t.update f a (t.of_number v)) h = h
  without-passes (t.update f a (t.of_truth v)) h = h
  without-passes (t.update f a (t.of_set v)) h = h
  without-passes (t.free_field x) h = h

  mutual
    unfolding built_term built_int built_set built_field built_value built_formula built_fields term_passes int_passes set_passes field_passes value_passes formula_passes fields_passes

    term-dropped : (a : TermTree) → term_passes a p ≡ true → term_passes (built_term a dropping) p ≡ true
    term-dropped (t.bound k) h = h
    term-dropped (t.free_object x) h = h
    term-dropped t.null h = h
    term-dropped (t.read_object a b) h = two-true (field_passes (built_field a dropping) p) (term_passes (built_term b dropping) p) (field-dropped a (both-left (field_passes a p) (term_passes b p) h)) (term-dropped b (both-right (field_passes a p) (term_passes b p) h))

    int-dropped : (a : IntTree) → int_passes a p ≡ true → int_passes (built_int a dropping) p ≡ true
    int-dropped (t.const z) h = h
    int-dropped (t.free_number x) h = h
    int-dropped (t.read_number a b) h = two-true (field_passes (built_field a dropping) p) (term_passes (built_term b dropping) p) (field-dropped a (both-left (field_passes a p) (term_passes b p) h)) (term-dropped b (both-right (field_passes a p) (term_passes b p) h))
    int-dropped (t.add a b) h = two-true (int_passes (built_int a dropping) p) (int_passes (built_int b dropping) p) (int-dropped a (both-left (int_passes a p) (int_passes b p) h)) (int-dropped b (both-right (int_passes a p) (int_passes b p) h))
    int-dropped (t.sub a b) h = two-true (int_passes (built_int a dropping) p) (int_passes (built_int b dropping) p) (int-dropped a (both-left (int_passes a p) (int_passes b p) h)) (int-dropped b (both-right (int_passes a p) (int_passes b p) h))
    int-dropped (t.neg a) h = int-dropped a h
    int-dropped (t.scale z a) h = int-dropped a h
    int-dropped (t.card a) h = set-dropped a h

    set-dropped : (a : SetTree) → set_passes a p ≡ true → set_passes (built_set a dropping) p ≡ true
    set-dropped (t.free_set x) h = h
    set-dropped (t.read_set a b) h = two-true (field_passes (built_field a dropping) p) (term_passes (built_term b dropping) p) (field-dropped a (both-left (field_passes a p) (term_passes b p) h)) (term-dropped b (both-right (field_passes a p) (term_passes b p) h))
    set-dropped t.empty h = h
    set-dropped t.univ h = h
    set-dropped (t.single a) h = term-dropped a h
    set-dropped (t.union a b) h = two-true (set_passes (built_set a dropping) p) (set_passes (built_set b dropping) p) (set-dropped a (both-left (set_passes a p) (set_passes b p) h)) (set-dropped b (both-right (set_passes a p) (set_passes b p) h))
    set-dropped (t.inter a b) h = two-true (set_passes (built_set a dropping) p) (set_passes (built_set b dropping) p) (set-dropped a (both-left (set_passes a p) (set_passes b p) h)) (set-dropped b (both-right (set_passes a p) (set_passes b p) h))
    set-dropped (t.diff a b) h = two-true (set_passes (built_set a dropping) p) (set_passes (built_set b dropping) p) (set-dropped a (both-left (set_passes a p) (set_passes b p) h)) (set-dropped b (both-right (set_passes a p) (set_passes b p) h))
    set-dropped (t.compl a) h = set-dropped a h
    set-dropped (t.compr a) h = formula-dropped a pol.Both h

    field-dropped : (a : FieldTree) → field_passes a p ≡ true → field_passes (built_field a dropping) p ≡ true
    field-dropped (t.free_field x) h = without-passes (t.free_field x) h
    field-dropped (t.update a b c) h = without-passes (t.update (built_field a dropping) (built_term b dropping) (built_value c dropping)) (two-true (field_passes (built_field a dropping) p && term_passes (built_term b dropping) p) (value_passes (built_value c dropping) p) (two-true (field_passes (built_field a dropping) p) (term_passes (built_term b dropping) p) (field-dropped a (both-left (field_passes a p) (term_passes b p) (both-left (field_passes a p && term_passes b p) (value_passes c p) h))) (term-dropped b (both-right (field_passes a p) (term_passes b p) (both-left (field_passes a p && term_passes b p) (value_passes c p) h)))) (value-dropped c (both-right (field_passes a p && term_passes b p) (value_passes c p) h)))

    value-dropped : (a : ValueTree) → value_passes a p ≡ true → value_passes (built_value a dropping) p ≡ true
    value-dropped (t.of_object a) h = term-dropped a h
    value-dropped (t.of_number a) h = int-dropped a h
    value-dropped (t.of_truth a) h = formula-dropped a pol.Both h
    value-dropped (t.of_set a) h = set-dropped a h
    value-dropped (t.of_field a) h = field-dropped a h

    pub formula-dropped : (a : FormulaTree) → (s : Polarity) → formula_passes a p ≡ true → formula_passes (built_formula a dropping s) p ≡ true
    formula-dropped t.true_formula s h = h
    formula-dropped t.false_formula s h = h
    formula-dropped (t.free_truth x) s h = h
    formula-dropped (t.read_truth a b) s h = two-true (field_passes (built_field a dropping) p) (term_passes (built_term b dropping) p) (field-dropped a (both-left (field_passes a p) (term_passes b p) h)) (term-dropped b (both-right (field_passes a p) (term_passes b p) h))
    formula-dropped (t.negation a) s h = formula-dropped a (turned s) h
    formula-dropped (t.and a b) s h = two-true (formula_passes (built_formula a dropping s) p) (formula_passes (built_formula b dropping s) p) (formula-dropped a s (both-left (formula_passes a p) (formula_passes b p) h)) (formula-dropped b s (both-right (formula_passes a p) (formula_passes b p) h))
    formula-dropped (t.or a b) s h = two-true (formula_passes (built_formula a dropping s) p) (formula_passes (built_formula b dropping s) p) (formula-dropped a s (both-left (formula_passes a p) (formula_passes b p) h)) (formula-dropped b s (both-right (formula_passes a p) (formula_passes b p) h))
    formula-dropped (t.implies a b) s h = two-true (formula_passes (built_formula a dropping (turned s)) p) (formula_passes (built_formula b dropping s) p) (formula-dropped a (turned s) (both-left (formula_passes a p) (formula_passes b p) h)) (formula-dropped b s (both-right (formula_passes a p) (formula_passes b p) h))
    formula-dropped (t.iff a b) s h = two-true (formula_passes (built_formula a dropping pol.Both) p) (formula_passes (built_formula b dropping pol.Both) p) (formula-dropped a pol.Both (both-left (formula_passes a p) (formula_passes b p) h)) (formula-dropped b pol.Both (both-right (formula_passes a p) (formula_passes b p) h))
    formula-dropped (t.all a) s h = formula-dropped a s h
    formula-dropped (t.ex a) s h = formula-dropped a s h
    formula-dropped (t.eq_object a b) s h = two-true (term_passes (built_term a dropping) p) (term_passes (built_term b dropping) p) (term-dropped a (both-left (term_passes a p) (term_passes b p) h)) (term-dropped b (both-right (term_passes a p) (term_passes b p) h))
    formula-dropped (t.eq_number a b) s h = two-true (int_passes (built_int a dropping) p) (int_passes (built_int b dropping) p) (int-dropped a (both-left (int_passes a p) (int_passes b p) h)) (int-dropped b (both-right (int_passes a p) (int_passes b p) h))
    formula-dropped (t.eq_set a b) s h = two-true (set_passes (built_set a dropping) p) (set_passes (built_set b dropping) p) (set-dropped a (both-left (set_passes a p) (set_passes b p) h)) (set-dropped b (both-right (set_passes a p) (set_passes b p) h))
    formula-dropped (t.less a b) s h = two-true (int_passes (built_int a dropping) p) (int_passes (built_int b dropping) p) (int-dropped a (both-left (int_passes a p) (int_passes b p) h)) (int-dropped b (both-right (int_passes a p) (int_passes b p) h))
    formula-dropped (t.less_equal a b) s h = two-true (int_passes (built_int a dropping) p) (int_passes (built_int b dropping) p) (int-dropped a (both-left (int_passes a p) (int_passes b p) h)) (int-dropped b (both-right (int_passes a p) (int_passes b p) h))
    formula-dropped (t.divides z a) s h = int-dropped a h
    formula-dropped (t.member a b) s h = two-true (term_passes (built_term a dropping) p) (set_passes (built_set b dropping) p) (term-dropped a (both-left (term_passes a p) (set_passes b p) h)) (set-dropped b (both-right (term_passes a p) (set_passes b p) h))
    formula-dropped (t.subset a b) s h = two-true (set_passes (built_set a dropping) p) (set_passes (built_set b dropping) p) (set-dropped a (both-left (set_passes a p) (set_passes b p) h)) (set-dropped b (both-right (set_passes a p) (set_passes b p) h))
    formula-dropped (t.reach fs a b) s h = two-true (fields_passes (built_fields fs dropping) p && term_passes (built_term a dropping) p) (term_passes (built_term b dropping) p) (two-true (fields_passes (built_fields fs dropping) p) (term_passes (built_term a dropping) p) (fields-dropped fs (both-left (fields_passes fs p) (term_passes a p) (both-left (fields_passes fs p && term_passes a p) (term_passes b p) h))) (term-dropped a (both-right (fields_passes fs p) (term_passes a p) (both-left (fields_passes fs p && term_passes a p) (term_passes b p) h)))) (term-dropped b (both-right (fields_passes fs p && term_passes a p) (term_passes b p) h))
    formula-dropped (t.tree fs) s h = fields-dropped fs h
    formula-dropped (t.mark k a) s h = formula-dropped a s h

    fields-dropped : (fs : FieldTrees) → fields_passes fs p ≡ true → fields_passes (built_fields fs dropping) p ≡ true
    fields-dropped t.none h = refl
    fields-dropped (t.more f fs) h = two-true (field_passes (built_field f dropping) p) (fields_passes (built_fields fs dropping) p) (field-dropped f (both-left (field_passes f p) (fields_passes fs p) h)) (fields-dropped fs (both-right (field_passes f p) (fields_passes fs p) h))

  pub dropped-passes : (a : FormulaTree) → formula_passes a p ≡ true → formula_passes (dropped a) p ≡ true
  unfolding dropped
  dropped-passes a h = formula-dropped a pol.Both h
