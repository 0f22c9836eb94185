-- Where a field stands nowhere in a tree, it is read nowhere.
use Rattle.std.proofs.Common.{◌≡◌, refl, sym, ap, Bool, true, false, not, ◌&&◌, if◌then◌else◌, [], ◌∷◌, ◌++◌}
use Rattle.std.specs.List.{flat_map}
use Rattle.std.proofs.lemmas.Bool.{true≢false}
use Rattle.jh_name.specs.declared.naming.Name.{Name}
use Rattle.jh_name.specs.declared.place.Sort as place
use Rattle.jh_form.specs.Tree.{TermTree, IntTree, SetTree, FieldTree, ValueTree, FormulaTree, FieldTrees}
use Rattle.jh_form.specs.Tree as t
use Rattle.jh_form.specs.Passing.{name_equal, term_passes, int_passes, set_passes, field_passes, value_passes, formula_passes, fields_passes}
use Rattle.jh_form.proofs.ClosedLemmas.{both-left, both-right}
use Rattle.jh_fca.specs.elimination.Constraints.{other_than, is_name}
use Rattle.jh_fca.specs.elimination.Reads.{outside, term_reads, int_reads, set_reads, field_reads, value_reads, formula_reads, fields_reads}
use Rattle.jh_fca.proofs.elimination.Readings.{Never, TermReads, IntReads, SetReads, FieldReads, ValueReads, FormulaReads, FieldsReads}

not-both : (b : Bool) → not b ≡ true → b ≡ true → ⊥
not-both true h e = true≢false (sym h)
not-both false h e = true≢false (sym e)

module _ (f : Name) where
  abbrev p : Name → place.Sort → Bool
  p = other_than f

  pub name-other : (a : FieldTree) → field_passes a p ≡ true → is_name f a ≡ true → ⊥
  unfolding field_passes other_than is_name
  name-other (t.free_field x) h e = not-both (name_equal x f) h e
  name-other (t.update a b c) h e = true≢false (sym e)

  none-read : (a : FieldTree) (b : TermTree) (c : Bool) → is_name f a ≡ c → field_passes a p ≡ true → (if c then b ∷ [] else []) ≡ []
  none-read a b true e h = absurd (name-other a h e)
  none-read a b false e h = refl

  mutual
    unfolding term_passes int_passes set_passes field_passes value_passes formula_passes fields_passes

    pub term-apart : (a : TermTree) (lax : Bool) → term_passes a p ≡ true → TermReads a f lax Never
    term-apart (t.bound k) lax h = tt
    term-apart (t.free_object x) lax h = tt
    term-apart t.null lax h = tt
    term-apart (t.read_object a b) lax h = (field-apart a (both-left (field_passes a p) (term_passes b p) h), (term-apart b lax (both-right (field_passes a p) (term_passes b p) h), λ e. absurd (name-other a (both-left (field_passes a p) (term_passes b p) h) e)))

    pub int-apart : (a : IntTree) (lax : Bool) → int_passes a p ≡ true → IntReads a f lax Never
    int-apart (t.const z) lax h = tt
    int-apart (t.free_number x) lax h = tt
    int-apart (t.read_number a b) lax h = (field-apart a (both-left (field_passes a p) (term_passes b p) h), (term-apart b lax (both-right (field_passes a p) (term_passes b p) h), λ e. absurd (name-other a (both-left (field_passes a p) (term_passes b p) h) e)))
    int-apart (t.add a b) lax h = (int-apart a lax (both-left (int_passes a p) (int_passes b p) h), int-apart b lax (both-right (int_passes a p) (int_passes b p) h))
    int-apart (t.sub a b) lax h = (int-apart a lax (both-left (int_passes a p) (int_passes b p) h), int-apart b lax (both-right (int_passes a p) (int_passes b p) h))
    int-apart (t.neg a) lax h = int-apart a lax h
    int-apart (t.scale z a) lax h = int-apart a lax h
    int-apart (t.card a) lax h = set-apart a lax h

    pub set-apart : (a : SetTree) (lax : Bool) → set_passes a p ≡ true → SetReads a f lax Never
    set-apart (t.free_set x) lax h = tt
    set-apart (t.read_set a b) lax h = (field-apart a (both-left (field_passes a p) (term_passes b p) h), (term-apart b lax (both-right (field_passes a p) (term_passes b p) h), λ e. absurd (name-other a (both-left (field_passes a p) (term_passes b p) h) e)))
    set-apart t.empty lax h = tt
    set-apart t.univ lax h = tt
    set-apart (t.single a) lax h = term-apart a lax h
    set-apart (t.union a b) lax h = (set-apart a lax (both-left (set_passes a p) (set_passes b p) h), set-apart b lax (both-right (set_passes a p) (set_passes b p) h))
    set-apart (t.inter a b) lax h = (set-apart a lax (both-left (set_passes a p) (set_passes b p) h), set-apart b lax (both-right (set_passes a p) (set_passes b p) h))
    set-apart (t.diff a b) lax h = (set-apart a lax (both-left (set_passes a p) (set_passes b p) h), set-apart b lax (both-right (set_passes a p) (set_passes b p) h))
    set-apart (t.compl a) lax h = set-apart a lax h
    set-apart (t.compr a) lax h = formula-apart a false h

    pub field-apart : (a : FieldTree) → field_passes a p ≡ true → FieldReads a f
    field-apart (t.free_field x) h = tt
    field-apart (t.update a b c) h = (name-other a (both-left (field_passes a p) (term_passes b p) (both-left (field_passes a p && term_passes b p) (value_passes c p) h)), (field-apart a (both-left (field_passes a p) (term_passes b p) (both-left (field_passes a p && term_passes b p) (value_passes c p) h)), (term-apart b false (both-right (field_passes a p) (term_passes b p) (both-left (field_passes a p && term_passes b p) (value_passes c p) h)), value-apart c (both-right (field_passes a p && term_passes b p) (value_passes c p) h))))

    pub value-apart : (a : ValueTree) → value_passes a p ≡ true → ValueReads a f
    value-apart (t.of_object a) h = term-apart a false h
    value-apart (t.of_number a) h = int-apart a false h
    value-apart (t.of_truth a) h = formula-apart a false h
    value-apart (t.of_set a) h = set-apart a false h
    value-apart (t.of_field a) h = (name-other a h, field-apart a h)

    pub formula-apart : (a : FormulaTree) (lax : Bool) → formula_passes a p ≡ true → FormulaReads a f lax Never
    formula-apart t.true_formula lax h = tt
    formula-apart t.false_formula lax h = tt
    formula-apart (t.free_truth x) lax h = tt
    formula-apart (t.read_truth a b) lax h = (field-apart a (both-left (field_passes a p) (term_passes b p) h), (term-apart b lax (both-right (field_passes a p) (term_passes b p) h), λ e. absurd (name-other a (both-left (field_passes a p) (term_passes b p) h) e)))
    formula-apart (t.negation a) lax h = formula-apart a lax h
    formula-apart (t.and a b) lax h = (formula-apart a lax (both-left (formula_passes a p) (formula_passes b p) h), formula-apart b lax (both-right (formula_passes a p) (formula_passes b p) h))
    formula-apart (t.or a b) lax h = (formula-apart a lax (both-left (formula_passes a p) (formula_passes b p) h), formula-apart b lax (both-right (formula_passes a p) (formula_passes b p) h))
    formula-apart (t.implies a b) lax h = (formula-apart a lax (both-left (formula_passes a p) (formula_passes b p) h), formula-apart b lax (both-right (formula_passes a p) (formula_passes b p) h))
    formula-apart (t.iff a b) lax h = (formula-apart a lax (both-left (formula_passes a p) (formula_passes b p) h), formula-apart b lax (both-right (formula_passes a p) (formula_passes b p) h))
    formula-apart (t.all a) lax h = formula-apart a lax h
    formula-apart (t.ex a) lax h = formula-apart a lax h
    formula-apart (t.eq_object a b) lax h = (term-apart a lax (both-left (term_passes a p) (term_passes b p) h), term-apart b lax (both-right (term_passes a p) (term_passes b p) h))
    formula-apart (t.eq_number a b) lax h = (int-apart a lax (both-left (int_passes a p) (int_passes b p) h), int-apart b lax (both-right (int_passes a p) (int_passes b p) h))
    formula-apart (t.eq_set a b) lax h = (set-apart a lax (both-left (set_passes a p) (set_passes b p) h), set-apart b lax (both-right (set_passes a p) (set_passes b p) h))
    formula-apart (t.less a b) lax h = (int-apart a lax (both-left (int_passes a p) (int_passes b p) h), int-apart b lax (both-right (int_passes a p) (int_passes b p) h))
    formula-apart (t.less_equal a b) lax h = (int-apart a lax (both-left (int_passes a p) (int_passes b p) h), int-apart b lax (both-right (int_passes a p) (int_passes b p) h))
    formula-apart (t.divides z a) lax h = int-apart a lax h
    formula-apart (t.member a b) lax h = (term-apart a lax (both-left (term_passes a p) (set_passes b p) h), set-apart b lax (both-right (term_passes a p) (set_passes b p) h))
    formula-apart (t.subset a b) lax h = (set-apart a lax (both-left (set_passes a p) (set_passes b p) h), set-apart b lax (both-right (set_passes a p) (set_passes b p) h))
    formula-apart (t.reach a b c) lax h = (fields-apart a (both-left (fields_passes a p) (term_passes b p) (both-left (fields_passes a p && term_passes b p) (term_passes c p) h)), (term-apart b lax (both-right (fields_passes a p) (term_passes b p) (both-left (fields_passes a p && term_passes b p) (term_passes c p) h)), term-apart c lax (both-right (fields_passes a p && term_passes b p) (term_passes c p) h)))
    formula-apart (t.tree a) lax h = fields-apart a h
    formula-apart (t.mark m a) lax h = formula-apart a lax h

    pub fields-apart : (a : FieldTrees) → fields_passes a p ≡ true → FieldsReads a f
    fields-apart t.none h = tt
    fields-apart (t.more a b) h = (name-other a (both-left (field_passes a p) (fields_passes b p) h), (field-apart a (both-left (field_passes a p) (fields_passes b p) h), fields-apart b (both-right (field_passes a p) (fields_passes b p) h)))

  mutual
    unfolding term_passes int_passes set_passes field_passes value_passes formula_passes fields_passes term_reads int_reads set_reads field_reads value_reads formula_reads fields_reads

    pub term-unread : (a : TermTree) → term_passes a p ≡ true → term_reads a f ≡ []
    term-unread (t.bound k) h = refl
    term-unread (t.free_object x) h = refl
    term-unread t.null h = refl
    term-unread (t.read_object a b) h = λ i. field-unread a (both-left (field_passes a p) (term_passes b p) h) i ++ (term-unread b (both-right (field_passes a p) (term_passes b p) h) i ++ none-read a b (is_name f a) refl (both-left (field_passes a p) (term_passes b p) h) i)

    pub int-unread : (a : IntTree) → int_passes a p ≡ true → int_reads a f ≡ []
    int-unread (t.const z) h = refl
    int-unread (t.free_number x) h = refl
    int-unread (t.read_number a b) h = λ i. field-unread a (both-left (field_passes a p) (term_passes b p) h) i ++ term-unread b (both-right (field_passes a p) (term_passes b p) h) i
    int-unread (t.add a b) h = λ i. int-unread a (both-left (int_passes a p) (int_passes b p) h) i ++ int-unread b (both-right (int_passes a p) (int_passes b p) h) i
    int-unread (t.sub a b) h = λ i. int-unread a (both-left (int_passes a p) (int_passes b p) h) i ++ int-unread b (both-right (int_passes a p) (int_passes b p) h) i
    int-unread (t.neg a) h = int-unread a h
    int-unread (t.scale z a) h = int-unread a h
    int-unread (t.card a) h = set-unread a h

    pub set-unread : (a : SetTree) → set_passes a p ≡ true → set_reads a f ≡ []
    set-unread (t.free_set x) h = refl
    set-unread (t.read_set a b) h = λ i. field-unread a (both-left (field_passes a p) (term_passes b p) h) i ++ term-unread b (both-right (field_passes a p) (term_passes b p) h) i
    set-unread t.empty h = refl
    set-unread t.univ h = refl
    set-unread (t.single a) h = term-unread a h
    set-unread (t.union a b) h = λ i. set-unread a (both-left (set_passes a p) (set_passes b p) h) i ++ set-unread b (both-right (set_passes a p) (set_passes b p) h) i
    set-unread (t.inter a b) h = λ i. set-unread a (both-left (set_passes a p) (set_passes b p) h) i ++ set-unread b (both-right (set_passes a p) (set_passes b p) h) i
    set-unread (t.diff a b) h = λ i. set-unread a (both-left (set_passes a p) (set_passes b p) h) i ++ set-unread b (both-right (set_passes a p) (set_passes b p) h) i
    set-unread (t.compl a) h = set-unread a h
    set-unread (t.compr a) h = ap (flat_map outside) (formula-unread a h)

    pub field-unread : (a : FieldTree) → field_passes a p ≡ true → field_reads a f ≡ []
    field-unread (t.free_field x) h = refl
    field-unread (t.update a b c) h = λ i. field-unread a (both-left (field_passes a p) (term_passes b p) (both-left (field_passes a p && term_passes b p) (value_passes c p) h)) i ++ (term-unread b (both-right (field_passes a p) (term_passes b p) (both-left (field_passes a p && term_passes b p) (value_passes c p) h)) i ++ value-unread c (both-right (field_passes a p && term_passes b p) (value_passes c p) h) i)

    pub value-unread : (a : ValueTree) → value_passes a p ≡ true → value_reads a f ≡ []
    value-unread (t.of_object a) h = term-unread a h
    value-unread (t.of_number a) h = int-unread a h
    value-unread (t.of_truth a) h = formula-unread a h
    value-unread (t.of_set a) h = set-unread a h
    value-unread (t.of_field a) h = field-unread a h

    pub formula-unread : (a : FormulaTree) → formula_passes a p ≡ true → formula_reads a f ≡ []
    formula-unread t.true_formula h = refl
    formula-unread t.false_formula h = refl
    formula-unread (t.free_truth x) h = refl
    formula-unread (t.read_truth a b) h = λ i. field-unread a (both-left (field_passes a p) (term_passes b p) h) i ++ term-unread b (both-right (field_passes a p) (term_passes b p) h) i
    formula-unread (t.negation a) h = formula-unread a h
    formula-unread (t.and a b) h = λ i. formula-unread a (both-left (formula_passes a p) (formula_passes b p) h) i ++ formula-unread b (both-right (formula_passes a p) (formula_passes b p) h) i
    formula-unread (t.or a b) h = λ i. formula-unread a (both-left (formula_passes a p) (formula_passes b p) h) i ++ formula-unread b (both-right (formula_passes a p) (formula_passes b p) h) i
    formula-unread (t.implies a b) h = λ i. formula-unread a (both-left (formula_passes a p) (formula_passes b p) h) i ++ formula-unread b (both-right (formula_passes a p) (formula_passes b p) h) i
    formula-unread (t.iff a b) h = λ i. formula-unread a (both-left (formula_passes a p) (formula_passes b p) h) i ++ formula-unread b (both-right (formula_passes a p) (formula_passes b p) h) i
    formula-unread (t.all a) h = ap (flat_map outside) (formula-unread a h)
    formula-unread (t.ex a) h = ap (flat_map outside) (formula-unread a h)
    formula-unread (t.eq_object a b) h = λ i. term-unread a (both-left (term_passes a p) (term_passes b p) h) i ++ term-unread b (both-right (term_passes a p) (term_passes b p) h) i
    formula-unread (t.eq_number a b) h = λ i. int-unread a (both-left (int_passes a p) (int_passes b p) h) i ++ int-unread b (both-right (int_passes a p) (int_passes b p) h) i
    formula-unread (t.eq_set a b) h = λ i. set-unread a (both-left (set_passes a p) (set_passes b p) h) i ++ set-unread b (both-right (set_passes a p) (set_passes b p) h) i
    formula-unread (t.less a b) h = λ i. int-unread a (both-left (int_passes a p) (int_passes b p) h) i ++ int-unread b (both-right (int_passes a p) (int_passes b p) h) i
    formula-unread (t.less_equal a b) h = λ i. int-unread a (both-left (int_passes a p) (int_passes b p) h) i ++ int-unread b (both-right (int_passes a p) (int_passes b p) h) i
    formula-unread (t.divides z a) h = int-unread a h
    formula-unread (t.member a b) h = λ i. term-unread a (both-left (term_passes a p) (set_passes b p) h) i ++ set-unread b (both-right (term_passes a p) (set_passes b p) h) i
    formula-unread (t.subset a b) h = λ i. set-unread a (both-left (set_passes a p) (set_passes b p) h) i ++ set-unread b (both-right (set_passes a p) (set_passes b p) h) i
    formula-unread (t.reach a b c) h = λ i. fields-unread a (both-left (fields_passes a p) (term_passes b p) (both-left (fields_passes a p && term_passes b p) (term_passes c p) h)) i ++ (term-unread b (both-right (fields_passes a p) (term_passes b p) (both-left (fields_passes a p && term_passes b p) (term_passes c p) h)) i ++ term-unread c (both-right (fields_passes a p && term_passes b p) (term_passes c p) h) i)
    formula-unread (t.tree a) h = fields-unread a h
    formula-unread (t.mark m a) h = formula-unread a h

    pub fields-unread : (a : FieldTrees) → fields_passes a p ≡ true → fields_reads a f ≡ []
    fields-unread t.none h = refl
    fields-unread (t.more a b) h = λ i. field-unread a (both-left (field_passes a p) (fields_passes b p) h) i ++ fields-unread b (both-right (field_passes a p) (fields_passes b p) h) i
