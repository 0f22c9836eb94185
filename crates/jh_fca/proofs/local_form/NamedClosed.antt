-- Exchanging updates for their names leaves what is closed closed.
use Rattle.std.proofs.Common.{◌≡◌, refl, ap, ◌∙◌, ℕ, ◌+◌, nat_lt, Bool, true, false, ◌&&◌, if◌then◌else◌, List, length, Option, Some, None}
use Rattle.jh_form.specs.Tree.{TermTree, IntTree, SetTree, FieldTree, ValueTree, FormulaTree, FieldTrees}
use Rattle.jh_form.specs.Tree as t
use Rattle.jh_form.specs.Closed.{is_closed_term, is_closed_int, is_closed_set, is_closed_field, is_closed_value, is_closed_formula, is_closed_fields}
use Rattle.jh_form.proofs.ClosedLemmas.{both-left, both-right}
use Rattle.jh_substitution.specs.rewriting.Rewritten.{object_or, number_or, truth_or, set_or, field_or, rewritten_term, rewritten_int, rewritten_set, rewritten_field, rewritten_value, rewritten_formula, rewritten_fields}
use Rattle.jh_approx.specs.definition.Names.{place_in}
use Rattle.jh_fca.specs.local_form.Named.{name_of, name_for, naming}

two-true : (a b : Bool) → a ≡ true → b ≡ true → (a && b) ≡ true
two-true a b h k = λ i. h i && k i

module _ (us : List ValueTree) (k : ℕ) where
  abbrev chosen_name : Bool → ValueTree → Option ValueTree
  chosen_name c v = if c then Some (t.of_field (t.free_field (name_of us k v))) else None

  -- a name stands for fields alone
  object-stays : (c : Bool) (v : ValueTree) (a : TermTree) → object_or (chosen_name c v) a ≡ a
  unfolding object_or
  object-stays true v a = refl
  object-stays false v a = refl

  object-closed : (v : ValueTree) (a : TermTree) (d : ℕ) → is_closed_term a d ≡ true → is_closed_term (object_or (name_for us k v) a) d ≡ true
  object-closed v a d h = ap (λ b. is_closed_term b d) (object-stays (nat_lt (place_in us v) (length us)) v a) ∙ h

  number-stays : (c : Bool) (v : ValueTree) (a : IntTree) → number_or (chosen_name c v) a ≡ a
  unfolding number_or
  number-stays true v a = refl
  number-stays false v a = refl

  number-closed : (v : ValueTree) (a : IntTree) (d : ℕ) → is_closed_int a d ≡ true → is_closed_int (number_or (name_for us k v) a) d ≡ true
  number-closed v a d h = ap (λ b. is_closed_int b d) (number-stays (nat_lt (place_in us v) (length us)) v a) ∙ h

  set-stays : (c : Bool) (v : ValueTree) (a : SetTree) → set_or (chosen_name c v) a ≡ a
  unfolding set_or
  set-stays true v a = refl
  set-stays false v a = refl

  set-closed : (v : ValueTree) (a : SetTree) (d : ℕ) → is_closed_set a d ≡ true → is_closed_set (set_or (name_for us k v) a) d ≡ true
  set-closed v a d h = ap (λ b. is_closed_set b d) (set-stays (nat_lt (place_in us v) (length us)) v a) ∙ h

  truth-stays : (c : Bool) (v : ValueTree) (a : FormulaTree) → truth_or (chosen_name c v) a ≡ a
  unfolding truth_or
  truth-stays true v a = refl
  truth-stays false v a = refl

  truth-closed : (v : ValueTree) (a : FormulaTree) (d : ℕ) → is_closed_formula a d ≡ true → is_closed_formula (truth_or (name_for us k v) a) d ≡ true
  truth-closed v a d h = ap (λ b. is_closed_formula b d) (truth-stays (nat_lt (place_in us v) (length us)) v a) ∙ h

  name-closed : (c : Bool) (v : ValueTree) (f : FieldTree) (d : ℕ) → is_closed_field f d ≡ true → is_closed_field (field_or (chosen_name c v) f) d ≡ true
  unfolding field_or is_closed_field
  name-closed true v f d h = refl
  name-closed false v f d h = h

  field-closed : (v : ValueTree) (f : FieldTree) (d : ℕ) → is_closed_field f d ≡ true → is_closed_field (field_or (name_for us k v) f) d ≡ true
  field-closed v f d h = name-closed (nat_lt (place_in us v) (length us)) v f d h

  mutual
    unfolding rewritten_term rewritten_int rewritten_set rewritten_field rewritten_value rewritten_formula rewritten_fields is_closed_term is_closed_int is_closed_set is_closed_field is_closed_value is_closed_formula is_closed_fields

    pub term-named : (a : TermTree) (d : ℕ) → is_closed_term a d ≡ true → is_closed_term (rewritten_term a (naming us k) d) d ≡ true
    term-named (t.bound j) d h = h
    term-named (t.free_object x) d h = h
    term-named t.null d h = object-closed (t.of_object t.null) t.null d refl
    term-named (t.read_object a b) d h = object-closed (t.of_object (t.read_object a b)) (t.read_object (rewritten_field a (naming us k) d) (rewritten_term b (naming us k) d)) d (two-true (is_closed_field (rewritten_field a (naming us k) d) d) (is_closed_term (rewritten_term b (naming us k) d) d) (field-named a d (both-left (is_closed_field a d) (is_closed_term b d) h)) (term-named b d (both-right (is_closed_field a d) (is_closed_term b d) h)))

    pub int-named : (a : IntTree) (d : ℕ) → is_closed_int a d ≡ true → is_closed_int (rewritten_int a (naming us k) d) d ≡ true
    int-named (t.const z) d h = number-closed (t.of_number (t.const z)) (t.const z) d refl
    int-named (t.free_number x) d h = h
    int-named (t.read_number a b) d h = number-closed (t.of_number (t.read_number a b)) (t.read_number (rewritten_field a (naming us k) d) (rewritten_term b (naming us k) d)) d (two-true (is_closed_field (rewritten_field a (naming us k) d) d) (is_closed_term (rewritten_term b (naming us k) d) d) (field-named a d (both-left (is_closed_field a d) (is_closed_term b d) h)) (term-named b d (both-right (is_closed_field a d) (is_closed_term b d) h)))
    int-named (t.add a b) d h = number-closed (t.of_number (t.add a b)) (t.add (rewritten_int a (naming us k) d) (rewritten_int b (naming us k) d)) d (two-true (is_closed_int (rewritten_int a (naming us k) d) d) (is_closed_int (rewritten_int b (naming us k) d) d) (int-named a d (both-left (is_closed_int a d) (is_closed_int b d) h)) (int-named b d (both-right (is_closed_int a d) (is_closed_int b d) h)))
    int-named (t.sub a b) d h = number-closed (t.of_number (t.sub a b)) (t.sub (rewritten_int a (naming us k) d) (rewritten_int b (naming us k) d)) d (two-true (is_closed_int (rewritten_int a (naming us k) d) d) (is_closed_int (rewritten_int b (naming us k) d) d) (int-named a d (both-left (is_closed_int a d) (is_closed_int b d) h)) (int-named b d (both-right (is_closed_int a d) (is_closed_int b d) h)))
    int-named (t.neg a) d h = number-closed (t.of_number (t.neg a)) (t.neg (rewritten_int a (naming us k) d)) d (int-named a d h)
    int-named (t.scale z a) d h = number-closed (t.of_number (t.scale z a)) (t.scale z (rewritten_int a (naming us k) d)) d (int-named a d h)
    int-named (t.card a) d h = number-closed (t.of_number (t.card a)) (t.card (rewritten_set a (naming us k) d)) d (set-named a d h)

    pub set-named : (a : SetTree) (d : ℕ) → is_closed_set a d ≡ true → is_closed_set (rewritten_set a (naming us k) d) d ≡ true
    set-named (t.free_set x) d h = h
    set-named (t.read_set a b) d h = set-closed (t.of_set (t.read_set a b)) (t.read_set (rewritten_field a (naming us k) d) (rewritten_term b (naming us k) d)) d (two-true (is_closed_field (rewritten_field a (naming us k) d) d) (is_closed_term (rewritten_term b (naming us k) d) d) (field-named a d (both-left (is_closed_field a d) (is_closed_term b d) h)) (term-named b d (both-right (is_closed_field a d) (is_closed_term b d) h)))
    set-named t.empty d h = set-closed (t.of_set t.empty) t.empty d refl
    set-named t.univ d h = set-closed (t.of_set t.univ) t.univ d refl
    set-named (t.single a) d h = set-closed (t.of_set (t.single a)) (t.single (rewritten_term a (naming us k) d)) d (term-named a d h)
    set-named (t.union a b) d h = set-closed (t.of_set (t.union a b)) (t.union (rewritten_set a (naming us k) d) (rewritten_set b (naming us k) d)) d (two-true (is_closed_set (rewritten_set a (naming us k) d) d) (is_closed_set (rewritten_set b (naming us k) d) d) (set-named a d (both-left (is_closed_set a d) (is_closed_set b d) h)) (set-named b d (both-right (is_closed_set a d) (is_closed_set b d) h)))
    set-named (t.inter a b) d h = set-closed (t.of_set (t.inter a b)) (t.inter (rewritten_set a (naming us k) d) (rewritten_set b (naming us k) d)) d (two-true (is_closed_set (rewritten_set a (naming us k) d) d) (is_closed_set (rewritten_set b (naming us k) d) d) (set-named a d (both-left (is_closed_set a d) (is_closed_set b d) h)) (set-named b d (both-right (is_closed_set a d) (is_closed_set b d) h)))
    set-named (t.diff a b) d h = set-closed (t.of_set (t.diff a b)) (t.diff (rewritten_set a (naming us k) d) (rewritten_set b (naming us k) d)) d (two-true (is_closed_set (rewritten_set a (naming us k) d) d) (is_closed_set (rewritten_set b (naming us k) d) d) (set-named a d (both-left (is_closed_set a d) (is_closed_set b d) h)) (set-named b d (both-right (is_closed_set a d) (is_closed_set b d) h)))
    set-named (t.compl a) d h = set-closed (t.of_set (t.compl a)) (t.compl (rewritten_set a (naming us k) d)) d (set-named a d h)
    set-named (t.compr a) d h = set-closed (t.of_set (t.compr a)) (t.compr (rewritten_formula a (naming us k) (d + 1))) d (formula-named a (d + 1) h)

    pub field-named : (a : FieldTree) (d : ℕ) → is_closed_field a d ≡ true → is_closed_field (rewritten_field a (naming us k) d) d ≡ true
    field-named (t.free_field x) d h = h
    field-named (t.update a b c) d h = field-closed (t.of_field (t.update a b c)) (t.update (rewritten_field a (naming us k) d) (rewritten_term b (naming us k) d) (rewritten_value c (naming us k) d)) d (two-true (is_closed_field (rewritten_field a (naming us k) d) d && is_closed_term (rewritten_term b (naming us k) d) d) (is_closed_value (rewritten_value c (naming us k) d) d) (two-true (is_closed_field (rewritten_field a (naming us k) d) d) (is_closed_term (rewritten_term b (naming us k) d) d) (field-named a d (both-left (is_closed_field a d) (is_closed_term b d) (both-left (is_closed_field a d && is_closed_term b d) (is_closed_value c d) h))) (term-named b d (both-right (is_closed_field a d) (is_closed_term b d) (both-left (is_closed_field a d && is_closed_term b d) (is_closed_value c d) h)))) (value-named c d (both-right (is_closed_field a d && is_closed_term b d) (is_closed_value c d) h)))

    pub value-named : (a : ValueTree) (d : ℕ) → is_closed_value a d ≡ true → is_closed_value (rewritten_value a (naming us k) d) d ≡ true
    value-named (t.of_object a) d h = term-named a d h
    value-named (t.of_number a) d h = int-named a d h
    value-named (t.of_truth a) d h = formula-named a d h
    value-named (t.of_set a) d h = set-named a d h
    value-named (t.of_field a) d h = field-named a d h

    pub formula-named : (a : FormulaTree) (d : ℕ) → is_closed_formula a d ≡ true → is_closed_formula (rewritten_formula a (naming us k) d) d ≡ true
    formula-named t.true_formula d h = truth-closed (t.of_truth t.true_formula) t.true_formula d refl
    formula-named t.false_formula d h = truth-closed (t.of_truth t.false_formula) t.false_formula d refl
    formula-named (t.free_truth x) d h = h
    formula-named (t.read_truth a b) d h = truth-closed (t.of_truth (t.read_truth a b)) (t.read_truth (rewritten_field a (naming us k) d) (rewritten_term b (naming us k) d)) d (two-true (is_closed_field (rewritten_field a (naming us k) d) d) (is_closed_term (rewritten_term b (naming us k) d) d) (field-named a d (both-left (is_closed_field a d) (is_closed_term b d) h)) (term-named b d (both-right (is_closed_field a d) (is_closed_term b d) h)))
    formula-named (t.negation a) d h = truth-closed (t.of_truth (t.negation a)) (t.negation (rewritten_formula a (naming us k) d)) d (formula-named a d h)
    formula-named (t.and a b) d h = truth-closed (t.of_truth (t.and a b)) (t.and (rewritten_formula a (naming us k) d) (rewritten_formula b (naming us k) d)) d (two-true (is_closed_formula (rewritten_formula a (naming us k) d) d) (is_closed_formula (rewritten_formula b (naming us k) d) d) (formula-named a d (both-left (is_closed_formula a d) (is_closed_formula b d) h)) (formula-named b d (both-right (is_closed_formula a d) (is_closed_formula b d) h)))
    formula-named (t.or a b) d h = truth-closed (t.of_truth (t.or a b)) (t.or (rewritten_formula a (naming us k) d) (rewritten_formula b (naming us k) d)) d (two-true (is_closed_formula (rewritten_formula a (naming us k) d) d) (is_closed_formula (rewritten_formula b (naming us k) d) d) (formula-named a d (both-left (is_closed_formula a d) (is_closed_formula b d) h)) (formula-named b d (both-right (is_closed_formula a d) (is_closed_formula b d) h)))
    formula-named (t.implies a b) d h = truth-closed (t.of_truth (t.implies a b)) (t.implies (rewritten_formula a (naming us k) d) (rewritten_formula b (naming us k) d)) d (two-true (is_closed_formula (rewritten_formula a (naming us k) d) d) (is_closed_formula (rewritten_formula b (naming us k) d) d) (formula-named a d (both-left (is_closed_formula a d) (is_closed_formula b d) h)) (formula-named b d (both-right (is_closed_formula a d) (is_closed_formula b d) h)))
    formula-named (t.iff a b) d h = truth-closed (t.of_truth (t.iff a b)) (t.iff (rewritten_formula a (naming us k) d) (rewritten_formula b (naming us k) d)) d (two-true (is_closed_formula (rewritten_formula a (naming us k) d) d) (is_closed_formula (rewritten_formula b (naming us k) d) d) (formula-named a d (both-left (is_closed_formula a d) (is_closed_formula b d) h)) (formula-named b d (both-right (is_closed_formula a d) (is_closed_formula b d) h)))
    formula-named (t.all a) d h = truth-closed (t.of_truth (t.all a)) (t.all (rewritten_formula a (naming us k) (d + 1))) d (formula-named a (d + 1) h)
    formula-named (t.ex a) d h = truth-closed (t.of_truth (t.ex a)) (t.ex (rewritten_formula a (naming us k) (d + 1))) d (formula-named a (d + 1) h)
    formula-named (t.eq_object a b) d h = truth-closed (t.of_truth (t.eq_object a b)) (t.eq_object (rewritten_term a (naming us k) d) (rewritten_term b (naming us k) d)) d (two-true (is_closed_term (rewritten_term a (naming us k) d) d) (is_closed_term (rewritten_term b (naming us k) d) d) (term-named a d (both-left (is_closed_term a d) (is_closed_term b d) h)) (term-named b d (both-right (is_closed_term a d) (is_closed_term b d) h)))
    formula-named (t.eq_number a b) d h = truth-closed (t.of_truth (t.eq_number a b)) (t.eq_number (rewritten_int a (naming us k) d) (rewritten_int b (naming us k) d)) d (two-true (is_closed_int (rewritten_int a (naming us k) d) d) (is_closed_int (rewritten_int b (naming us k) d) d) (int-named a d (both-left (is_closed_int a d) (is_closed_int b d) h)) (int-named b d (both-right (is_closed_int a d) (is_closed_int b d) h)))
    formula-named (t.eq_set a b) d h = truth-closed (t.of_truth (t.eq_set a b)) (t.eq_set (rewritten_set a (naming us k) d) (rewritten_set b (naming us k) d)) d (two-true (is_closed_set (rewritten_set a (naming us k) d) d) (is_closed_set (rewritten_set b (naming us k) d) d) (set-named a d (both-left (is_closed_set a d) (is_closed_set b d) h)) (set-named b d (both-right (is_closed_set a d) (is_closed_set b d) h)))
    formula-named (t.less a b) d h = truth-closed (t.of_truth (t.less a b)) (t.less (rewritten_int a (naming us k) d) (rewritten_int b (naming us k) d)) d (two-true (is_closed_int (rewritten_int a (naming us k) d) d) (is_closed_int (rewritten_int b (naming us k) d) d) (int-named a d (both-left (is_closed_int a d) (is_closed_int b d) h)) (int-named b d (both-right (is_closed_int a d) (is_closed_int b d) h)))
    formula-named (t.less_equal a b) d h = truth-closed (t.of_truth (t.less_equal a b)) (t.less_equal (rewritten_int a (naming us k) d) (rewritten_int b (naming us k) d)) d (two-true (is_closed_int (rewritten_int a (naming us k) d) d) (is_closed_int (rewritten_int b (naming us k) d) d) (int-named a d (both-left (is_closed_int a d) (is_closed_int b d) h)) (int-named b d (both-right (is_closed_int a d) (is_closed_int b d) h)))
    formula-named (t.divides z a) d h = truth-closed (t.of_truth (t.divides z a)) (t.divides z (rewritten_int a (naming us k) d)) d (int-named a d h)
    formula-named (t.member a b) d h = truth-closed (t.of_truth (t.member a b)) (t.member (rewritten_term a (naming us k) d) (rewritten_set b (naming us k) d)) d (two-true (is_closed_term (rewritten_term a (naming us k) d) d) (is_closed_set (rewritten_set b (naming us k) d) d) (term-named a d (both-left (is_closed_term a d) (is_closed_set b d) h)) (set-named b d (both-right (is_closed_term a d) (is_closed_set b d) h)))
    formula-named (t.subset a b) d h = truth-closed (t.of_truth (t.subset a b)) (t.subset (rewritten_set a (naming us k) d) (rewritten_set b (naming us k) d)) d (two-true (is_closed_set (rewritten_set a (naming us k) d) d) (is_closed_set (rewritten_set b (naming us k) d) d) (set-named a d (both-left (is_closed_set a d) (is_closed_set b d) h)) (set-named b d (both-right (is_closed_set a d) (is_closed_set b d) h)))
    formula-named (t.reach fs a b) d h = truth-closed (t.of_truth (t.reach fs a b)) (t.reach (rewritten_fields fs (naming us k) d) (rewritten_term a (naming us k) d) (rewritten_term b (naming us k) d)) d (two-true (is_closed_fields (rewritten_fields fs (naming us k) d) d && is_closed_term (rewritten_term a (naming us k) d) d) (is_closed_term (rewritten_term b (naming us k) d) d) (two-true (is_closed_fields (rewritten_fields fs (naming us k) d) d) (is_closed_term (rewritten_term a (naming us k) d) d) (fields-named fs d (both-left (is_closed_fields fs d) (is_closed_term a d) (both-left (is_closed_fields fs d && is_closed_term a d) (is_closed_term b d) h))) (term-named a d (both-right (is_closed_fields fs d) (is_closed_term a d) (both-left (is_closed_fields fs d && is_closed_term a d) (is_closed_term b d) h)))) (term-named b d (both-right (is_closed_fields fs d && is_closed_term a d) (is_closed_term b d) h)))
    formula-named (t.tree fs) d h = truth-closed (t.of_truth (t.tree fs)) (t.tree (rewritten_fields fs (naming us k) d)) d (fields-named fs d h)
    formula-named (t.mark j a) d h = truth-closed (t.of_truth (t.mark j a)) (t.mark j (rewritten_formula a (naming us k) d)) d (formula-named a d h)

    fields-named : (fs : FieldTrees) (d : ℕ) → is_closed_fields fs d ≡ true → is_closed_fields (rewritten_fields fs (naming us k) d) d ≡ true
    fields-named t.none d h = refl
    fields-named (t.more f fs) d h = two-true (is_closed_field (rewritten_field f (naming us k) d) d) (is_closed_fields (rewritten_fields fs (naming us k) d) d) (field-named f d (both-left (is_closed_field f d) (is_closed_fields fs d) h)) (fields-named fs d (both-right (is_closed_field f d) (is_closed_fields fs d) h))
