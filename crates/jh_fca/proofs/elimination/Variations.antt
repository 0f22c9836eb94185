-- Where a field may stand in a tree in which a variable stands for one of its reads.
use Rattle.std.proofs.Common.{◌≡◌, refl, sym, ◌∙◌, ℕ, ◌+◌, Bool, true, false, if◌then◌else◌, Some, None}
use Rattle.jh_name.specs.declared.naming.Name.{Name}
use Rattle.jh_form.specs.Tree.{TermTree, IntTree, SetTree, FieldTree, ValueTree, FormulaTree, FieldTrees}
use Rattle.jh_form.specs.Tree as t
use Rattle.jh_boxed.specs.Mapped.{mapped_term, mapped_value}
use Rattle.jh_boxed_operations.specs.comparison.Exchanged.{equal_trees}
use Rattle.jh_substitution.specs.rewriting.Rewritten.{Rewriting, object_or, number_or, truth_or, set_or, field_or, rewritten_term, rewritten_int, rewritten_set, rewritten_field, rewritten_value, rewritten_formula, rewritten_fields}
use Rattle.jh_substitution.specs.simultaneous.Lifted.{lifting}
use Rattle.jh_substitution.specs.exchange.Under.{raised, exchanging_under}
use Rattle.jh_fca.specs.elimination.Constraints.{is_name}
use Rattle.jh_fca.proofs.elimination.Readings.{Never, TermReads, IntReads, SetReads, FieldReads, ValueReads, FormulaReads, FieldsReads}

-- ---- what stands for a part that is no term for an object

pub number-left : (P : IntTree → Type 0) (c : Bool) (v : TermTree) (x : IntTree) → P x → P (number_or (if c then Some (t.of_object v) else None) x)
unfolding number_or
number-left P true v x h = h
number-left P false v x h = h

pub set-left : (P : SetTree → Type 0) (c : Bool) (v : TermTree) (x : SetTree) → P x → P (set_or (if c then Some (t.of_object v) else None) x)
unfolding set_or
set-left P true v x h = h
set-left P false v x h = h

pub field-left : (P : FieldTree → Type 0) (c : Bool) (v : TermTree) (x : FieldTree) → P x → P (field_or (if c then Some (t.of_object v) else None) x)
unfolding field_or
field-left P true v x h = h
field-left P false v x h = h

pub truth-left : (P : FormulaTree → Type 0) (c : Bool) (v : TermTree) (x : FormulaTree) → P x → P (truth_or (if c then Some (t.of_object v) else None) x)
unfolding truth_or
truth-left P true v x h = h
truth-left P false v x h = h

pub object-either : (P : TermTree → Type 0) (c : Bool) (v x : TermTree) → P v → P x → P (object_or (if c then Some (t.of_object v) else None) x)
unfolding object_or
object-either P true v x h k = h
object-either P false v x h k = k

module _ (f : Name) (old : TermTree) where
  abbrev w : Rewriting
  w = exchanging_under (t.of_object old) (t.of_object (t.bound 0))

  -- the variable under d binders, and whether it stands for a part there
  abbrev variable : ℕ → TermTree
  variable d = mapped_term (t.bound 0) (lifting d) 0

  abbrev hit : ValueTree → ℕ → Bool
  hit v d = equal_trees v (raised d (t.of_object old))

  -- what is known of the other reads
  abbrev pub Others : (TermTree → Type 0) → (TermTree → Type 0) → ℕ → Type 0
  Others Q P d = (a : FieldTree) (s : TermTree) → is_name f a ≡ true → hit (t.of_object (t.read_object a s)) d ≡ false → Q s → P (rewritten_term s w d)

  no_read : (d : ℕ) → Others Never Never d
  no_read d a s name other h = h

  name-varied : (a : FieldTree) (d : ℕ) → is_name f (rewritten_field a w d) ≡ is_name f a
  unfolding rewritten_field mapped_value is_name
  name-varied (t.free_field x) d = field-left (λ a. is_name f a ≡ is_name f (t.free_field x)) (hit (t.of_field (t.free_field x)) d) (variable d) (t.free_field x) refl
  name-varied (t.update a b c) d = field-left (λ x. is_name f x ≡ false) (hit (t.of_field (t.update a b c)) d) (variable d) (t.update (rewritten_field a w d) (rewritten_term b w d) (rewritten_value c w d)) refl

  read-varied : (a : FieldTree) (b : TermTree) (lax : Bool) (Q P : TermTree → Type 0) (d : ℕ) → Others Q P d → FieldReads (rewritten_field a w d) f → TermReads (rewritten_term b w d) f lax P → (is_name f a ≡ true → Q b) →
      (c : Bool) → hit (t.of_object (t.read_object a b)) d ≡ c → TermReads (object_or (if c then Some (t.of_object (variable d)) else None) (t.read_object (rewritten_field a w d) (rewritten_term b w d))) f lax P
  unfolding object_or mapped_term
  read-varied a b lax Q P d q inner term holds true e = tt
  read-varied a b lax Q P d q inner term holds false e = (inner, (term, λ n. let name : is_name f a ≡ true = sym (name-varied a d) ∙ n in q a b name e (holds name)))

  mutual
    unfolding rewritten_term rewritten_int rewritten_set rewritten_field rewritten_value rewritten_formula rewritten_fields mapped_value mapped_term

    pub term-varied : (a : TermTree) (lax : Bool) (Q P : TermTree → Type 0) (d : ℕ) → Others Q P d → TermReads a f lax Q → TermReads (rewritten_term a w d) f lax P
    term-varied (t.bound k) lax Q P d q h = object-either (λ x. TermReads x f lax P) (hit (t.of_object (t.bound k)) d) (variable d) (t.bound k) tt tt
    term-varied (t.free_object x) lax Q P d q h = object-either (λ x. TermReads x f lax P) (hit (t.of_object (t.free_object x)) d) (variable d) (t.free_object x) tt tt
    term-varied t.null lax Q P d q h = object-either (λ x. TermReads x f lax P) (hit (t.of_object t.null) d) (variable d) t.null tt tt
    term-varied (t.read_object a b) lax Q P d q h = read-varied a b lax Q P d q (field-varied a Never d h.0) (term-varied b lax Q P d q h.1.0) h.1.1 (hit (t.of_object (t.read_object a b)) d) refl

    pub int-varied : (a : IntTree) (lax : Bool) (Q P : TermTree → Type 0) (d : ℕ) → Others Q P d → IntReads a f lax Q → IntReads (rewritten_int a w d) f lax P
    int-varied (t.const z) lax Q P d q h = number-left (λ x. IntReads x f lax P) (hit (t.of_number (t.const z)) d) (variable d) (t.const z) tt
    int-varied (t.free_number x) lax Q P d q h = number-left (λ x. IntReads x f lax P) (hit (t.of_number (t.free_number x)) d) (variable d) (t.free_number x) tt
    int-varied (t.read_number a b) lax Q P d q h = number-left (λ x. IntReads x f lax P) (hit (t.of_number (t.read_number a b)) d) (variable d) (t.read_number (rewritten_field a w d) (rewritten_term b w d)) (field-varied a Never d h.0, (term-varied b lax Q P d q h.1.0, λ e. h.1.1 (sym (name-varied a d) ∙ e)))
    int-varied (t.add a b) lax Q P d q h = number-left (λ x. IntReads x f lax P) (hit (t.of_number (t.add a b)) d) (variable d) (t.add (rewritten_int a w d) (rewritten_int b w d)) (int-varied a lax Q P d q h.0, int-varied b lax Q P d q h.1)
    int-varied (t.sub a b) lax Q P d q h = number-left (λ x. IntReads x f lax P) (hit (t.of_number (t.sub a b)) d) (variable d) (t.sub (rewritten_int a w d) (rewritten_int b w d)) (int-varied a lax Q P d q h.0, int-varied b lax Q P d q h.1)
    int-varied (t.neg a) lax Q P d q h = number-left (λ x. IntReads x f lax P) (hit (t.of_number (t.neg a)) d) (variable d) (t.neg (rewritten_int a w d)) (int-varied a lax Q P d q h)
    int-varied (t.scale z a) lax Q P d q h = number-left (λ x. IntReads x f lax P) (hit (t.of_number (t.scale z a)) d) (variable d) (t.scale z (rewritten_int a w d)) (int-varied a lax Q P d q h)
    int-varied (t.card a) lax Q P d q h = number-left (λ x. IntReads x f lax P) (hit (t.of_number (t.card a)) d) (variable d) (t.card (rewritten_set a w d)) (set-varied a lax Q P d q h)

    pub set-varied : (a : SetTree) (lax : Bool) (Q P : TermTree → Type 0) (d : ℕ) → Others Q P d → SetReads a f lax Q → SetReads (rewritten_set a w d) f lax P
    set-varied (t.free_set x) lax Q P d q h = set-left (λ x. SetReads x f lax P) (hit (t.of_set (t.free_set x)) d) (variable d) (t.free_set x) tt
    set-varied (t.read_set a b) lax Q P d q h = set-left (λ x. SetReads x f lax P) (hit (t.of_set (t.read_set a b)) d) (variable d) (t.read_set (rewritten_field a w d) (rewritten_term b w d)) (field-varied a Never d h.0, (term-varied b lax Q P d q h.1.0, λ e. h.1.1 (sym (name-varied a d) ∙ e)))
    set-varied t.empty lax Q P d q h = set-left (λ x. SetReads x f lax P) (hit (t.of_set t.empty) d) (variable d) t.empty tt
    set-varied t.univ lax Q P d q h = set-left (λ x. SetReads x f lax P) (hit (t.of_set t.univ) d) (variable d) t.univ tt
    set-varied (t.single a) lax Q P d q h = set-left (λ x. SetReads x f lax P) (hit (t.of_set (t.single a)) d) (variable d) (t.single (rewritten_term a w d)) (term-varied a lax Q P d q h)
    set-varied (t.union a b) lax Q P d q h = set-left (λ x. SetReads x f lax P) (hit (t.of_set (t.union a b)) d) (variable d) (t.union (rewritten_set a w d) (rewritten_set b w d)) (set-varied a lax Q P d q h.0, set-varied b lax Q P d q h.1)
    set-varied (t.inter a b) lax Q P d q h = set-left (λ x. SetReads x f lax P) (hit (t.of_set (t.inter a b)) d) (variable d) (t.inter (rewritten_set a w d) (rewritten_set b w d)) (set-varied a lax Q P d q h.0, set-varied b lax Q P d q h.1)
    set-varied (t.diff a b) lax Q P d q h = set-left (λ x. SetReads x f lax P) (hit (t.of_set (t.diff a b)) d) (variable d) (t.diff (rewritten_set a w d) (rewritten_set b w d)) (set-varied a lax Q P d q h.0, set-varied b lax Q P d q h.1)
    set-varied (t.compl a) lax Q P d q h = set-left (λ x. SetReads x f lax P) (hit (t.of_set (t.compl a)) d) (variable d) (t.compl (rewritten_set a w d)) (set-varied a lax Q P d q h)
    set-varied (t.compr a) lax Q P d q h = set-left (λ x. SetReads x f lax P) (hit (t.of_set (t.compr a)) d) (variable d) (t.compr (rewritten_formula a w (d + 1))) (formula-varied a false Never Never (d + 1) (no_read (d + 1)) h)

    pub field-varied : (a : FieldTree) (Q : TermTree → Type 0) (d : ℕ) → FieldReads a f → FieldReads (rewritten_field a w d) f
    field-varied (t.free_field x) Q d h = field-left (λ x. FieldReads x f) (hit (t.of_field (t.free_field x)) d) (variable d) (t.free_field x) tt
    field-varied (t.update a b c) Q d h = field-left (λ x. FieldReads x f) (hit (t.of_field (t.update a b c)) d) (variable d) (t.update (rewritten_field a w d) (rewritten_term b w d) (rewritten_value c w d)) (λ e. h.0 (sym (name-varied a d) ∙ e), (field-varied a Never d h.1.0, (term-varied b false Never Never d (no_read d) h.1.1.0, value-varied c Never d h.1.1.1)))

    pub value-varied : (a : ValueTree) (Q : TermTree → Type 0) (d : ℕ) → ValueReads a f → ValueReads (rewritten_value a w d) f
    value-varied (t.of_object a) Q d h = term-varied a false Never Never d (no_read d) h
    value-varied (t.of_number a) Q d h = int-varied a false Never Never d (no_read d) h
    value-varied (t.of_truth a) Q d h = formula-varied a false Never Never d (no_read d) h
    value-varied (t.of_set a) Q d h = set-varied a false Never Never d (no_read d) h
    value-varied (t.of_field a) Q d h = (λ e. h.0 (sym (name-varied a d) ∙ e), field-varied a Never d h.1)

    pub formula-varied : (a : FormulaTree) (lax : Bool) (Q P : TermTree → Type 0) (d : ℕ) → Others Q P d → FormulaReads a f lax Q → FormulaReads (rewritten_formula a w d) f lax P
    formula-varied t.true_formula lax Q P d q h = truth-left (λ x. FormulaReads x f lax P) (hit (t.of_truth t.true_formula) d) (variable d) t.true_formula tt
    formula-varied t.false_formula lax Q P d q h = truth-left (λ x. FormulaReads x f lax P) (hit (t.of_truth t.false_formula) d) (variable d) t.false_formula tt
    formula-varied (t.free_truth x) lax Q P d q h = truth-left (λ x. FormulaReads x f lax P) (hit (t.of_truth (t.free_truth x)) d) (variable d) (t.free_truth x) tt
    formula-varied (t.read_truth a b) lax Q P d q h = truth-left (λ x. FormulaReads x f lax P) (hit (t.of_truth (t.read_truth a b)) d) (variable d) (t.read_truth (rewritten_field a w d) (rewritten_term b w d)) (field-varied a Never d h.0, (term-varied b lax Q P d q h.1.0, λ e. h.1.1 (sym (name-varied a d) ∙ e)))
    formula-varied (t.negation a) lax Q P d q h = truth-left (λ x. FormulaReads x f lax P) (hit (t.of_truth (t.negation a)) d) (variable d) (t.negation (rewritten_formula a w d)) (formula-varied a lax Q P d q h)
    formula-varied (t.and a b) lax Q P d q h = truth-left (λ x. FormulaReads x f lax P) (hit (t.of_truth (t.and a b)) d) (variable d) (t.and (rewritten_formula a w d) (rewritten_formula b w d)) (formula-varied a lax Q P d q h.0, formula-varied b lax Q P d q h.1)
    formula-varied (t.or a b) lax Q P d q h = truth-left (λ x. FormulaReads x f lax P) (hit (t.of_truth (t.or a b)) d) (variable d) (t.or (rewritten_formula a w d) (rewritten_formula b w d)) (formula-varied a lax Q P d q h.0, formula-varied b lax Q P d q h.1)
    formula-varied (t.implies a b) lax Q P d q h = truth-left (λ x. FormulaReads x f lax P) (hit (t.of_truth (t.implies a b)) d) (variable d) (t.implies (rewritten_formula a w d) (rewritten_formula b w d)) (formula-varied a lax Q P d q h.0, formula-varied b lax Q P d q h.1)
    formula-varied (t.iff a b) lax Q P d q h = truth-left (λ x. FormulaReads x f lax P) (hit (t.of_truth (t.iff a b)) d) (variable d) (t.iff (rewritten_formula a w d) (rewritten_formula b w d)) (formula-varied a lax Q P d q h.0, formula-varied b lax Q P d q h.1)
    formula-varied (t.all a) lax Q P d q h = truth-left (λ x. FormulaReads x f lax P) (hit (t.of_truth (t.all a)) d) (variable d) (t.all (rewritten_formula a w (d + 1))) (formula-varied a lax Never Never (d + 1) (no_read (d + 1)) h)
    formula-varied (t.ex a) lax Q P d q h = truth-left (λ x. FormulaReads x f lax P) (hit (t.of_truth (t.ex a)) d) (variable d) (t.ex (rewritten_formula a w (d + 1))) (formula-varied a lax Never Never (d + 1) (no_read (d + 1)) h)
    formula-varied (t.eq_object a b) lax Q P d q h = truth-left (λ x. FormulaReads x f lax P) (hit (t.of_truth (t.eq_object a b)) d) (variable d) (t.eq_object (rewritten_term a w d) (rewritten_term b w d)) (term-varied a lax Q P d q h.0, term-varied b lax Q P d q h.1)
    formula-varied (t.eq_number a b) lax Q P d q h = truth-left (λ x. FormulaReads x f lax P) (hit (t.of_truth (t.eq_number a b)) d) (variable d) (t.eq_number (rewritten_int a w d) (rewritten_int b w d)) (int-varied a lax Q P d q h.0, int-varied b lax Q P d q h.1)
    formula-varied (t.eq_set a b) lax Q P d q h = truth-left (λ x. FormulaReads x f lax P) (hit (t.of_truth (t.eq_set a b)) d) (variable d) (t.eq_set (rewritten_set a w d) (rewritten_set b w d)) (set-varied a lax Q P d q h.0, set-varied b lax Q P d q h.1)
    formula-varied (t.less a b) lax Q P d q h = truth-left (λ x. FormulaReads x f lax P) (hit (t.of_truth (t.less a b)) d) (variable d) (t.less (rewritten_int a w d) (rewritten_int b w d)) (int-varied a lax Q P d q h.0, int-varied b lax Q P d q h.1)
    formula-varied (t.less_equal a b) lax Q P d q h = truth-left (λ x. FormulaReads x f lax P) (hit (t.of_truth (t.less_equal a b)) d) (variable d) (t.less_equal (rewritten_int a w d) (rewritten_int b w d)) (int-varied a lax Q P d q h.0, int-varied b lax Q P d q h.1)
    formula-varied (t.divides z a) lax Q P d q h = truth-left (λ x. FormulaReads x f lax P) (hit (t.of_truth (t.divides z a)) d) (variable d) (t.divides z (rewritten_int a w d)) (int-varied a lax Q P d q h)
    formula-varied (t.member a b) lax Q P d q h = truth-left (λ x. FormulaReads x f lax P) (hit (t.of_truth (t.member a b)) d) (variable d) (t.member (rewritten_term a w d) (rewritten_set b w d)) (term-varied a lax Q P d q h.0, set-varied b lax Q P d q h.1)
    formula-varied (t.subset a b) lax Q P d q h = truth-left (λ x. FormulaReads x f lax P) (hit (t.of_truth (t.subset a b)) d) (variable d) (t.subset (rewritten_set a w d) (rewritten_set b w d)) (set-varied a lax Q P d q h.0, set-varied b lax Q P d q h.1)
    formula-varied (t.reach a b c) lax Q P d q h = truth-left (λ x. FormulaReads x f lax P) (hit (t.of_truth (t.reach a b c)) d) (variable d) (t.reach (rewritten_fields a w d) (rewritten_term b w d) (rewritten_term c w d)) (fields-varied a Never d h.0, (term-varied b lax Q P d q h.1.0, term-varied c lax Q P d q h.1.1))
    formula-varied (t.tree a) lax Q P d q h = truth-left (λ x. FormulaReads x f lax P) (hit (t.of_truth (t.tree a)) d) (variable d) (t.tree (rewritten_fields a w d)) (fields-varied a Never d h)
    formula-varied (t.mark m a) lax Q P d q h = truth-left (λ x. FormulaReads x f lax P) (hit (t.of_truth (t.mark m a)) d) (variable d) (t.mark m (rewritten_formula a w d)) (formula-varied a lax Q P d q h)

    pub fields-varied : (a : FieldTrees) (Q : TermTree → Type 0) (d : ℕ) → FieldsReads a f → FieldsReads (rewritten_fields a w d) f
    fields-varied t.none Q d h = tt
    fields-varied (t.more a b) Q d h = (λ e. h.0 (sym (name-varied a d) ∙ e), (field-varied a Never d h.1.0, fields-varied b Never d h.1.1))
