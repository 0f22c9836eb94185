-- Written by tools/rewrite.py: what an exchange answers is the tree with some occurrences exchanged.
use Rattle.std.proofs.Common.{◌≡◌, refl, ℕ, ◌+◌, Bool, true, false, if◌then◌else◌, Option, Some, None}
use Rattle.jh_form.specs.Tree.{TermTree, IntTree, SetTree, FieldTree, ValueTree, FormulaTree, FieldTrees}
use Rattle.jh_form.specs.Tree as t
use Rattle.jh_boxed_operations.specs.comparison.Exchanged.{equal_trees}
use Rattle.jh_boxed_operations.specs.comparison.Related.{TermsRelated, IntsRelated, SetsRelated, FieldsRelated, ValuesRelated, FormulasRelated, ListsRelated}
use Rattle.jh_boxed_operations.specs.comparison.Related as r
use Rattle.jh_boxed_operations.proofs.comparison.Equalities.{equal_trees-true}
use Rattle.jh_substitution.specs.rewriting.Exchanging.{new_for, exchanging}
use Rattle.jh_substitution.specs.rewriting.Rewritten.{object_or, number_or, set_or, field_or, truth_or, rewritten_term, rewritten_int, rewritten_set, rewritten_field, rewritten_value, rewritten_formula, rewritten_fields}

module _ (old new : ValueTree) where
  abbrev pub Pair : ValueTree → ValueTree → Type 0
  Pair u v = (u ≡ old) × (v ≡ new)

  chosen-pair : (v w : ValueTree) (b : Bool) → equal_trees v old ≡ b → (if b then Some new else None) ≡ Some w → Pair v w
  chosen-pair v w true is q = (equal_trees-true v old is, cc)
  chosen-pair v w false is q = absurd (cc)

  pair-of : (v w : ValueTree) → new_for old new v ≡ Some w → Pair v w
  pair-of v w q = chosen-pair v w (equal_trees v old) refl q

  object-here : (o : Option ValueTree) (a b : TermTree) → ((w : ValueTree) → o ≡ Some w → Pair (t.of_object a) w) → TermsRelated Pair a b → TermsRelated Pair a (object_or o b)
  unfolding object_or
  object-here (Some (t.of_object x)) a b h k = r.term_here a x (h (t.of_object x) refl)
  object-here _ a b h k = k

  number-here : (o : Option ValueTree) (a b : IntTree) → ((w : ValueTree) → o ≡ Some w → Pair (t.of_number a) w) → IntsRelated Pair a b → IntsRelated Pair a (number_or o b)
  unfolding number_or
  number-here (Some (t.of_number x)) a b h k = r.int_here a x (h (t.of_number x) refl)
  number-here _ a b h k = k

  set-here : (o : Option ValueTree) (a b : SetTree) → ((w : ValueTree) → o ≡ Some w → Pair (t.of_set a) w) → SetsRelated Pair a b → SetsRelated Pair a (set_or o b)
  unfolding set_or
  set-here (Some (t.of_set x)) a b h k = r.set_here a x (h (t.of_set x) refl)
  set-here _ a b h k = k

  field-here : (o : Option ValueTree) (a b : FieldTree) → ((w : ValueTree) → o ≡ Some w → Pair (t.of_field a) w) → FieldsRelated Pair a b → FieldsRelated Pair a (field_or o b)
  unfolding field_or
  field-here (Some (t.of_field x)) a b h k = r.field_here a x (h (t.of_field x) refl)
  field-here _ a b h k = k

  truth-here : (o : Option ValueTree) (a b : FormulaTree) → ((w : ValueTree) → o ≡ Some w → Pair (t.of_truth a) w) → FormulasRelated Pair a b → FormulasRelated Pair a (truth_or o b)
  unfolding truth_or
  truth-here (Some (t.of_truth x)) a b h k = r.formula_here a x (h (t.of_truth x) refl)
  truth-here _ a b h k = k

  mutual
    unfolding rewritten_term rewritten_int rewritten_set rewritten_field rewritten_value rewritten_formula rewritten_fields

    pub term-exchanged : (a : TermTree) (d : ℕ) → TermsRelated Pair a (rewritten_term a (exchanging old new) d)
    term-exchanged (t.bound k) d = r.bound k
    term-exchanged (t.free_object x) d = object-here (new_for old new (t.of_object (t.free_object x))) (t.free_object x) (t.free_object x) (pair-of (t.of_object (t.free_object x))) (r.free_object x)
    term-exchanged t.null d = object-here (new_for old new (t.of_object t.null)) t.null t.null (pair-of (t.of_object t.null)) (r.null)
    term-exchanged (t.read_object a b) d = object-here (new_for old new (t.of_object (t.read_object a b))) (t.read_object a b) (t.read_object (rewritten_field a (exchanging old new) d) (rewritten_term b (exchanging old new) d)) (pair-of (t.of_object (t.read_object a b))) (r.read_object a (rewritten_field a (exchanging old new) d) b (rewritten_term b (exchanging old new) d) (field-exchanged a d) (term-exchanged b d))

    pub int-exchanged : (a : IntTree) (d : ℕ) → IntsRelated Pair a (rewritten_int a (exchanging old new) d)
    int-exchanged (t.const z) d = number-here (new_for old new (t.of_number (t.const z))) (t.const z) (t.const z) (pair-of (t.of_number (t.const z))) (r.const z)
    int-exchanged (t.free_number x) d = number-here (new_for old new (t.of_number (t.free_number x))) (t.free_number x) (t.free_number x) (pair-of (t.of_number (t.free_number x))) (r.free_number x)
    int-exchanged (t.read_number a b) d = number-here (new_for old new (t.of_number (t.read_number a b))) (t.read_number a b) (t.read_number (rewritten_field a (exchanging old new) d) (rewritten_term b (exchanging old new) d)) (pair-of (t.of_number (t.read_number a b))) (r.read_number a (rewritten_field a (exchanging old new) d) b (rewritten_term b (exchanging old new) d) (field-exchanged a d) (term-exchanged b d))
    int-exchanged (t.add a b) d = number-here (new_for old new (t.of_number (t.add a b))) (t.add a b) (t.add (rewritten_int a (exchanging old new) d) (rewritten_int b (exchanging old new) d)) (pair-of (t.of_number (t.add a b))) (r.add a (rewritten_int a (exchanging old new) d) b (rewritten_int b (exchanging old new) d) (int-exchanged a d) (int-exchanged b d))
    int-exchanged (t.sub a b) d = number-here (new_for old new (t.of_number (t.sub a b))) (t.sub a b) (t.sub (rewritten_int a (exchanging old new) d) (rewritten_int b (exchanging old new) d)) (pair-of (t.of_number (t.sub a b))) (r.sub a (rewritten_int a (exchanging old new) d) b (rewritten_int b (exchanging old new) d) (int-exchanged a d) (int-exchanged b d))
    int-exchanged (t.neg a) d = number-here (new_for old new (t.of_number (t.neg a))) (t.neg a) (t.neg (rewritten_int a (exchanging old new) d)) (pair-of (t.of_number (t.neg a))) (r.neg a (rewritten_int a (exchanging old new) d) (int-exchanged a d))
    int-exchanged (t.scale z a) d = number-here (new_for old new (t.of_number (t.scale z a))) (t.scale z a) (t.scale z (rewritten_int a (exchanging old new) d)) (pair-of (t.of_number (t.scale z a))) (r.scale z a (rewritten_int a (exchanging old new) d) (int-exchanged a d))
    int-exchanged (t.card a) d = number-here (new_for old new (t.of_number (t.card a))) (t.card a) (t.card (rewritten_set a (exchanging old new) d)) (pair-of (t.of_number (t.card a))) (r.card a (rewritten_set a (exchanging old new) d) (set-exchanged a d))

    pub set-exchanged : (a : SetTree) (d : ℕ) → SetsRelated Pair a (rewritten_set a (exchanging old new) d)
    set-exchanged (t.free_set x) d = set-here (new_for old new (t.of_set (t.free_set x))) (t.free_set x) (t.free_set x) (pair-of (t.of_set (t.free_set x))) (r.free_set x)
    set-exchanged (t.read_set a b) d = set-here (new_for old new (t.of_set (t.read_set a b))) (t.read_set a b) (t.read_set (rewritten_field a (exchanging old new) d) (rewritten_term b (exchanging old new) d)) (pair-of (t.of_set (t.read_set a b))) (r.read_set a (rewritten_field a (exchanging old new) d) b (rewritten_term b (exchanging old new) d) (field-exchanged a d) (term-exchanged b d))
    set-exchanged t.empty d = set-here (new_for old new (t.of_set t.empty)) t.empty t.empty (pair-of (t.of_set t.empty)) (r.empty)
    set-exchanged t.univ d = set-here (new_for old new (t.of_set t.univ)) t.univ t.univ (pair-of (t.of_set t.univ)) (r.univ)
    set-exchanged (t.single a) d = set-here (new_for old new (t.of_set (t.single a))) (t.single a) (t.single (rewritten_term a (exchanging old new) d)) (pair-of (t.of_set (t.single a))) (r.single a (rewritten_term a (exchanging old new) d) (term-exchanged a d))
    set-exchanged (t.union a b) d = set-here (new_for old new (t.of_set (t.union a b))) (t.union a b) (t.union (rewritten_set a (exchanging old new) d) (rewritten_set b (exchanging old new) d)) (pair-of (t.of_set (t.union a b))) (r.union a (rewritten_set a (exchanging old new) d) b (rewritten_set b (exchanging old new) d) (set-exchanged a d) (set-exchanged b d))
    set-exchanged (t.inter a b) d = set-here (new_for old new (t.of_set (t.inter a b))) (t.inter a b) (t.inter (rewritten_set a (exchanging old new) d) (rewritten_set b (exchanging old new) d)) (pair-of (t.of_set (t.inter a b))) (r.inter a (rewritten_set a (exchanging old new) d) b (rewritten_set b (exchanging old new) d) (set-exchanged a d) (set-exchanged b d))
    set-exchanged (t.diff a b) d = set-here (new_for old new (t.of_set (t.diff a b))) (t.diff a b) (t.diff (rewritten_set a (exchanging old new) d) (rewritten_set b (exchanging old new) d)) (pair-of (t.of_set (t.diff a b))) (r.diff a (rewritten_set a (exchanging old new) d) b (rewritten_set b (exchanging old new) d) (set-exchanged a d) (set-exchanged b d))
    set-exchanged (t.compl a) d = set-here (new_for old new (t.of_set (t.compl a))) (t.compl a) (t.compl (rewritten_set a (exchanging old new) d)) (pair-of (t.of_set (t.compl a))) (r.compl a (rewritten_set a (exchanging old new) d) (set-exchanged a d))
    set-exchanged (t.compr a) d = set-here (new_for old new (t.of_set (t.compr a))) (t.compr a) (t.compr (rewritten_formula a (exchanging old new) (d + 1))) (pair-of (t.of_set (t.compr a))) (r.compr a (rewritten_formula a (exchanging old new) (d + 1)) (formula-exchanged a (d + 1)))

    pub field-exchanged : (a : FieldTree) (d : ℕ) → FieldsRelated Pair a (rewritten_field a (exchanging old new) d)
    field-exchanged (t.free_field x) d = field-here (new_for old new (t.of_field (t.free_field x))) (t.free_field x) (t.free_field x) (pair-of (t.of_field (t.free_field x))) (r.free_field x)
    field-exchanged (t.update a b c) d = field-here (new_for old new (t.of_field (t.update a b c))) (t.update a b c) (t.update (rewritten_field a (exchanging old new) d) (rewritten_term b (exchanging old new) d) (rewritten_value c (exchanging old new) d)) (pair-of (t.of_field (t.update a b c))) (r.update a (rewritten_field a (exchanging old new) d) b (rewritten_term b (exchanging old new) d) c (rewritten_value c (exchanging old new) d) (field-exchanged a d) (term-exchanged b d) (value-exchanged c d))

    pub value-exchanged : (a : ValueTree) (d : ℕ) → ValuesRelated Pair a (rewritten_value a (exchanging old new) d)
    value-exchanged (t.of_object a) d = r.of_object a (rewritten_term a (exchanging old new) d) (term-exchanged a d)
    value-exchanged (t.of_number a) d = r.of_number a (rewritten_int a (exchanging old new) d) (int-exchanged a d)
    value-exchanged (t.of_truth a) d = r.of_truth a (rewritten_formula a (exchanging old new) d) (formula-exchanged a d)
    value-exchanged (t.of_set a) d = r.of_set a (rewritten_set a (exchanging old new) d) (set-exchanged a d)
    value-exchanged (t.of_field a) d = r.of_field a (rewritten_field a (exchanging old new) d) (field-exchanged a d)

    pub formula-exchanged : (a : FormulaTree) (d : ℕ) → FormulasRelated Pair a (rewritten_formula a (exchanging old new) d)
    formula-exchanged t.true_formula d = truth-here (new_for old new (t.of_truth t.true_formula)) t.true_formula t.true_formula (pair-of (t.of_truth t.true_formula)) (r.true_formula)
    formula-exchanged t.false_formula d = truth-here (new_for old new (t.of_truth t.false_formula)) t.false_formula t.false_formula (pair-of (t.of_truth t.false_formula)) (r.false_formula)
    formula-exchanged (t.free_truth x) d = truth-here (new_for old new (t.of_truth (t.free_truth x))) (t.free_truth x) (t.free_truth x) (pair-of (t.of_truth (t.free_truth x))) (r.free_truth x)
    formula-exchanged (t.read_truth a b) d = truth-here (new_for old new (t.of_truth (t.read_truth a b))) (t.read_truth a b) (t.read_truth (rewritten_field a (exchanging old new) d) (rewritten_term b (exchanging old new) d)) (pair-of (t.of_truth (t.read_truth a b))) (r.read_truth a (rewritten_field a (exchanging old new) d) b (rewritten_term b (exchanging old new) d) (field-exchanged a d) (term-exchanged b d))
    formula-exchanged (t.negation a) d = truth-here (new_for old new (t.of_truth (t.negation a))) (t.negation a) (t.negation (rewritten_formula a (exchanging old new) d)) (pair-of (t.of_truth (t.negation a))) (r.negation a (rewritten_formula a (exchanging old new) d) (formula-exchanged a d))
    formula-exchanged (t.and a b) d = truth-here (new_for old new (t.of_truth (t.and a b))) (t.and a b) (t.and (rewritten_formula a (exchanging old new) d) (rewritten_formula b (exchanging old new) d)) (pair-of (t.of_truth (t.and a b))) (r.and a (rewritten_formula a (exchanging old new) d) b (rewritten_formula b (exchanging old new) d) (formula-exchanged a d) (formula-exchanged b d))
    formula-exchanged (t.or a b) d = truth-here (new_for old new (t.of_truth (t.or a b))) (t.or a b) (t.or (rewritten_formula a (exchanging old new) d) (rewritten_formula b (exchanging old new) d)) (pair-of (t.of_truth (t.or a b))) (r.or a (rewritten_formula a (exchanging old new) d) b (rewritten_formula b (exchanging old new) d) (formula-exchanged a d) (formula-exchanged b d))
    formula-exchanged (t.implies a b) d = truth-here (new_for old new (t.of_truth (t.implies a b))) (t.implies a b) (t.implies (rewritten_formula a (exchanging old new) d) (rewritten_formula b (exchanging old new) d)) (pair-of (t.of_truth (t.implies a b))) (r.implies a (rewritten_formula a (exchanging old new) d) b (rewritten_formula b (exchanging old new) d) (formula-exchanged a d) (formula-exchanged b d))
    formula-exchanged (t.iff a b) d = truth-here (new_for old new (t.of_truth (t.iff a b))) (t.iff a b) (t.iff (rewritten_formula a (exchanging old new) d) (rewritten_formula b (exchanging old new) d)) (pair-of (t.of_truth (t.iff a b))) (r.iff a (rewritten_formula a (exchanging old new) d) b (rewritten_formula b (exchanging old new) d) (formula-exchanged a d) (formula-exchanged b d))
    formula-exchanged (t.all a) d = truth-here (new_for old new (t.of_truth (t.all a))) (t.all a) (t.all (rewritten_formula a (exchanging old new) (d + 1))) (pair-of (t.of_truth (t.all a))) (r.all a (rewritten_formula a (exchanging old new) (d + 1)) (formula-exchanged a (d + 1)))
    formula-exchanged (t.ex a) d = truth-here (new_for old new (t.of_truth (t.ex a))) (t.ex a) (t.ex (rewritten_formula a (exchanging old new) (d + 1))) (pair-of (t.of_truth (t.ex a))) (r.ex a (rewritten_formula a (exchanging old new) (d + 1)) (formula-exchanged a (d + 1)))
    formula-exchanged (t.eq_object a b) d = truth-here (new_for old new (t.of_truth (t.eq_object a b))) (t.eq_object a b) (t.eq_object (rewritten_term a (exchanging old new) d) (rewritten_term b (exchanging old new) d)) (pair-of (t.of_truth (t.eq_object a b))) (r.eq_object a (rewritten_term a (exchanging old new) d) b (rewritten_term b (exchanging old new) d) (term-exchanged a d) (term-exchanged b d))
    formula-exchanged (t.eq_number a b) d = truth-here (new_for old new (t.of_truth (t.eq_number a b))) (t.eq_number a b) (t.eq_number (rewritten_int a (exchanging old new) d) (rewritten_int b (exchanging old new) d)) (pair-of (t.of_truth (t.eq_number a b))) (r.eq_number a (rewritten_int a (exchanging old new) d) b (rewritten_int b (exchanging old new) d) (int-exchanged a d) (int-exchanged b d))
    formula-exchanged (t.eq_set a b) d = truth-here (new_for old new (t.of_truth (t.eq_set a b))) (t.eq_set a b) (t.eq_set (rewritten_set a (exchanging old new) d) (rewritten_set b (exchanging old new) d)) (pair-of (t.of_truth (t.eq_set a b))) (r.eq_set a (rewritten_set a (exchanging old new) d) b (rewritten_set b (exchanging old new) d) (set-exchanged a d) (set-exchanged b d))
    formula-exchanged (t.less a b) d = truth-here (new_for old new (t.of_truth (t.less a b))) (t.less a b) (t.less (rewritten_int a (exchanging old new) d) (rewritten_int b (exchanging old new) d)) (pair-of (t.of_truth (t.less a b))) (r.less a (rewritten_int a (exchanging old new) d) b (rewritten_int b (exchanging old new) d) (int-exchanged a d) (int-exchanged b d))
    formula-exchanged (t.less_equal a b) d = truth-here (new_for old new (t.of_truth (t.less_equal a b))) (t.less_equal a b) (t.less_equal (rewritten_int a (exchanging old new) d) (rewritten_int b (exchanging old new) d)) (pair-of (t.of_truth (t.less_equal a b))) (r.less_equal a (rewritten_int a (exchanging old new) d) b (rewritten_int b (exchanging old new) d) (int-exchanged a d) (int-exchanged b d))
    formula-exchanged (t.divides z a) d = truth-here (new_for old new (t.of_truth (t.divides z a))) (t.divides z a) (t.divides z (rewritten_int a (exchanging old new) d)) (pair-of (t.of_truth (t.divides z a))) (r.divides z a (rewritten_int a (exchanging old new) d) (int-exchanged a d))
    formula-exchanged (t.member a b) d = truth-here (new_for old new (t.of_truth (t.member a b))) (t.member a b) (t.member (rewritten_term a (exchanging old new) d) (rewritten_set b (exchanging old new) d)) (pair-of (t.of_truth (t.member a b))) (r.member a (rewritten_term a (exchanging old new) d) b (rewritten_set b (exchanging old new) d) (term-exchanged a d) (set-exchanged b d))
    formula-exchanged (t.subset a b) d = truth-here (new_for old new (t.of_truth (t.subset a b))) (t.subset a b) (t.subset (rewritten_set a (exchanging old new) d) (rewritten_set b (exchanging old new) d)) (pair-of (t.of_truth (t.subset a b))) (r.subset a (rewritten_set a (exchanging old new) d) b (rewritten_set b (exchanging old new) d) (set-exchanged a d) (set-exchanged b d))
    formula-exchanged (t.reach fs a b) d = truth-here (new_for old new (t.of_truth (t.reach fs a b))) (t.reach fs a b) (t.reach (rewritten_fields fs (exchanging old new) d) (rewritten_term a (exchanging old new) d) (rewritten_term b (exchanging old new) d)) (pair-of (t.of_truth (t.reach fs a b))) (r.reach fs (rewritten_fields fs (exchanging old new) d) a (rewritten_term a (exchanging old new) d) b (rewritten_term b (exchanging old new) d) (fields-exchanged fs d) (term-exchanged a d) (term-exchanged b d))
    formula-exchanged (t.tree fs) d = truth-here (new_for old new (t.of_truth (t.tree fs))) (t.tree fs) (t.tree (rewritten_fields fs (exchanging old new) d)) (pair-of (t.of_truth (t.tree fs))) (r.tree fs (rewritten_fields fs (exchanging old new) d) (fields-exchanged fs d))
    formula-exchanged (t.mark k a) d = truth-here (new_for old new (t.of_truth (t.mark k a))) (t.mark k a) (t.mark k (rewritten_formula a (exchanging old new) d)) (pair-of (t.of_truth (t.mark k a))) (r.mark k a (rewritten_formula a (exchanging old new) d) (formula-exchanged a d))

    pub fields-exchanged : (a : FieldTrees) (d : ℕ) → ListsRelated Pair a (rewritten_fields a (exchanging old new) d)
    fields-exchanged t.none d = r.none
    fields-exchanged (t.more f fs) d = r.more f (rewritten_field f (exchanging old new) d) fs (rewritten_fields fs (exchanging old new) d) (field-exchanged f d) (fields-exchanged fs d)
