-- Written by tools/rewrite.py.
-- The meaning of a rewritten tree: where what stands for each leaf and each whole part keeps its meaning,
-- the whole does.
use Rattle.std.proofs.Common.{◌≡◌, refl, ap, ◌∙◌, ℕ, suc, ◌+◌, ◌≤◌, ◌==◌, Bool, not, ◌&&◌, ◌||◌, List, ◌∷◌, length, ℤ, pos, ◌+ℤ◌, ◌-ℤ◌, ◌*ℤ◌, neg_ℤ, int_lt, int_le, Option, Some, None}
use Rattle.std.specs.Ordering.{int_eq}
use Rattle.jh_form.specs.Tree.{TermTree, IntTree, SetTree, FieldTree, ValueTree, FormulaTree, FieldTrees}
use Rattle.jh_form.specs.Tree as t
use Rattle.jh_form.specs.Meaning.{Fields, Datum, an_object, a_number, a_truth, a_set, a_field, Interp, count_below, every, some, agree, divides_number, updated, reaches, is_forest, term_value, int_value, set_value, field_value, datum, truth, fields_value}
use Rattle.jh_boxed.specs.Kept.{Keeps}
use Rattle.jh_boxed.proofs.Meanings.{deeper}
use Rattle.jh_substitution.specs.rewriting.Rewritten.{Rewriting, KeepsWholes, object_or, number_or, truth_or, set_or, field_or, rewritten_term, rewritten_int, rewritten_set, rewritten_field, rewritten_value, rewritten_formula, rewritten_fields}

object_of : Datum → ℕ → ℕ
object_of (an_object z) b = z
object_of _ b = b

pub object_or-means : (o : Option ValueTree) (plain : TermTree) (m : Interp) (e : List ℕ) (b : ℕ) →
    ((w : ValueTree) → o ≡ Some w → datum w m e ≡ an_object b) → term_value plain m e ≡ b → term_value (object_or o plain) m e ≡ b
unfolding object_or object_of
object_or-means None plain m e b h same = same
object_or-means (Some (t.of_object a)) plain m e b h same = ap (λ z. object_of z b) (h (t.of_object a) refl)
object_or-means (Some (t.of_number a)) plain m e b h same = same
object_or-means (Some (t.of_truth a)) plain m e b h same = same
object_or-means (Some (t.of_set a)) plain m e b h same = same
object_or-means (Some (t.of_field a)) plain m e b h same = same

number_of : Datum → ℤ → ℤ
number_of (a_number z) b = z
number_of _ b = b

pub number_or-means : (o : Option ValueTree) (plain : IntTree) (m : Interp) (e : List ℕ) (b : ℤ) →
    ((w : ValueTree) → o ≡ Some w → datum w m e ≡ a_number b) → int_value plain m e ≡ b → int_value (number_or o plain) m e ≡ b
unfolding number_or number_of
number_or-means None plain m e b h same = same
number_or-means (Some (t.of_object a)) plain m e b h same = same
number_or-means (Some (t.of_number a)) plain m e b h same = ap (λ z. number_of z b) (h (t.of_number a) refl)
number_or-means (Some (t.of_truth a)) plain m e b h same = same
number_or-means (Some (t.of_set a)) plain m e b h same = same
number_or-means (Some (t.of_field a)) plain m e b h same = same

truth_of : Datum → Bool → Bool
truth_of (a_truth z) b = z
truth_of _ b = b

pub truth_or-means : (o : Option ValueTree) (plain : FormulaTree) (m : Interp) (e : List ℕ) (b : Bool) →
    ((w : ValueTree) → o ≡ Some w → datum w m e ≡ a_truth b) → truth plain m e ≡ b → truth (truth_or o plain) m e ≡ b
unfolding truth_or truth_of
truth_or-means None plain m e b h same = same
truth_or-means (Some (t.of_object a)) plain m e b h same = same
truth_or-means (Some (t.of_number a)) plain m e b h same = same
truth_or-means (Some (t.of_truth a)) plain m e b h same = ap (λ z. truth_of z b) (h (t.of_truth a) refl)
truth_or-means (Some (t.of_set a)) plain m e b h same = same
truth_or-means (Some (t.of_field a)) plain m e b h same = same

set_of : Datum → (ℕ → Bool) → (ℕ → Bool)
set_of (a_set z) b = z
set_of _ b = b

pub set_or-means : (o : Option ValueTree) (plain : SetTree) (m : Interp) (e : List ℕ) (b : (ℕ → Bool)) →
    ((w : ValueTree) → o ≡ Some w → datum w m e ≡ a_set b) → set_value plain m e ≡ b → set_value (set_or o plain) m e ≡ b
unfolding set_or set_of
set_or-means None plain m e b h same = same
set_or-means (Some (t.of_object a)) plain m e b h same = same
set_or-means (Some (t.of_number a)) plain m e b h same = same
set_or-means (Some (t.of_truth a)) plain m e b h same = same
set_or-means (Some (t.of_set a)) plain m e b h same = ap (λ z. set_of z b) (h (t.of_set a) refl)
set_or-means (Some (t.of_field a)) plain m e b h same = same

field_of : Datum → Fields → Fields
field_of (a_field z) b = z
field_of _ b = b

pub field_or-means : (o : Option ValueTree) (plain : FieldTree) (m : Interp) (e : List ℕ) (b : Fields) →
    ((w : ValueTree) → o ≡ Some w → datum w m e ≡ a_field b) → field_value plain m e ≡ b → field_value (field_or o plain) m e ≡ b
unfolding field_or field_of
field_or-means None plain m e b h same = same
field_or-means (Some (t.of_object a)) plain m e b h same = same
field_or-means (Some (t.of_number a)) plain m e b h same = same
field_or-means (Some (t.of_truth a)) plain m e b h same = same
field_or-means (Some (t.of_set a)) plain m e b h same = same
field_or-means (Some (t.of_field a)) plain m e b h same = ap (λ z. field_of z b) (h (t.of_field a) refl)

module _ (l : Rewriting) (m n : Interp) (view : ℕ → List ℕ → List ℕ) (keeps : Keeps l.leaves m n view) (wholes : KeepsWholes l m n view) where
  mutual
    unfolding rewritten_term rewritten_int rewritten_set rewritten_field rewritten_value rewritten_formula rewritten_fields

    pub term_value-rewritten : (a : TermTree) (d : ℕ) (e : List ℕ) → d ≤ length e → term_value (rewritten_term a l d) m e ≡ term_value a n (view d e)
    term_value-rewritten (t.bound k) d e h = keeps.bound k d e h
    term_value-rewritten (t.free_object x) d e h = keeps.object x d e h
    term_value-rewritten t.null d e h = object_or-means (l.whole_at (t.of_object t.null) d) t.null m e (term_value t.null n (view d e)) (λ w q. wholes.whole (t.of_object t.null) w d e h q) (refl)
    term_value-rewritten (t.read_object a b) d e h = object_or-means (l.whole_at (t.of_object (t.read_object a b)) d) (t.read_object (rewritten_field a l d) (rewritten_term b l d)) m e (term_value (t.read_object a b) n (view d e)) (λ w q. wholes.whole (t.of_object (t.read_object a b)) w d e h q) (λ i. (field_value-rewritten a d e h i).objects (term_value-rewritten b d e h i))

    pub int_value-rewritten : (a : IntTree) (d : ℕ) (e : List ℕ) → d ≤ length e → int_value (rewritten_int a l d) m e ≡ int_value a n (view d e)
    int_value-rewritten (t.const z) d e h = number_or-means (l.whole_at (t.of_number (t.const z)) d) (t.const z) m e (int_value (t.const z) n (view d e)) (λ w q. wholes.whole (t.of_number (t.const z)) w d e h q) (refl)
    int_value-rewritten (t.free_number x) d e h = keeps.number x d e h
    int_value-rewritten (t.read_number a b) d e h = number_or-means (l.whole_at (t.of_number (t.read_number a b)) d) (t.read_number (rewritten_field a l d) (rewritten_term b l d)) m e (int_value (t.read_number a b) n (view d e)) (λ w q. wholes.whole (t.of_number (t.read_number a b)) w d e h q) (λ i. (field_value-rewritten a d e h i).numbers (term_value-rewritten b d e h i))
    int_value-rewritten (t.add a b) d e h = number_or-means (l.whole_at (t.of_number (t.add a b)) d) (t.add (rewritten_int a l d) (rewritten_int b l d)) m e (int_value (t.add a b) n (view d e)) (λ w q. wholes.whole (t.of_number (t.add a b)) w d e h q) (λ i. int_value-rewritten a d e h i +ℤ int_value-rewritten b d e h i)
    int_value-rewritten (t.sub a b) d e h = number_or-means (l.whole_at (t.of_number (t.sub a b)) d) (t.sub (rewritten_int a l d) (rewritten_int b l d)) m e (int_value (t.sub a b) n (view d e)) (λ w q. wholes.whole (t.of_number (t.sub a b)) w d e h q) (λ i. int_value-rewritten a d e h i -ℤ int_value-rewritten b d e h i)
    int_value-rewritten (t.neg a) d e h = number_or-means (l.whole_at (t.of_number (t.neg a)) d) (t.neg (rewritten_int a l d)) m e (int_value (t.neg a) n (view d e)) (λ w q. wholes.whole (t.of_number (t.neg a)) w d e h q) (λ i. neg_ℤ (int_value-rewritten a d e h i))
    int_value-rewritten (t.scale z a) d e h = number_or-means (l.whole_at (t.of_number (t.scale z a)) d) (t.scale z (rewritten_int a l d)) m e (int_value (t.scale z a) n (view d e)) (λ w q. wholes.whole (t.of_number (t.scale z a)) w d e h q) (λ i. z *ℤ int_value-rewritten a d e h i)
    int_value-rewritten (t.card a) d e h = number_or-means (l.whole_at (t.of_number (t.card a)) d) (t.card (rewritten_set a l d)) m e (int_value (t.card a) n (view d e)) (λ w q. wholes.whole (t.of_number (t.card a)) w d e h q) (λ i. pos (count_below (suc (keeps.last i)) (set_value-rewritten a d e h i)))

    pub set_value-rewritten : (a : SetTree) (d : ℕ) (e : List ℕ) → d ≤ length e → set_value (rewritten_set a l d) m e ≡ set_value a n (view d e)
    set_value-rewritten (t.free_set x) d e h = keeps.set x d e h
    set_value-rewritten (t.read_set a b) d e h = set_or-means (l.whole_at (t.of_set (t.read_set a b)) d) (t.read_set (rewritten_field a l d) (rewritten_term b l d)) m e (set_value (t.read_set a b) n (view d e)) (λ w q. wholes.whole (t.of_set (t.read_set a b)) w d e h q) (λ i. (field_value-rewritten a d e h i).sets (term_value-rewritten b d e h i))
    set_value-rewritten t.empty d e h = set_or-means (l.whole_at (t.of_set t.empty) d) t.empty m e (set_value t.empty n (view d e)) (λ w q. wholes.whole (t.of_set t.empty) w d e h q) (refl)
    set_value-rewritten t.univ d e h = set_or-means (l.whole_at (t.of_set t.univ) d) t.univ m e (set_value t.univ n (view d e)) (λ w q. wholes.whole (t.of_set t.univ) w d e h q) (refl)
    set_value-rewritten (t.single a) d e h = set_or-means (l.whole_at (t.of_set (t.single a)) d) (t.single (rewritten_term a l d)) m e (set_value (t.single a) n (view d e)) (λ w q. wholes.whole (t.of_set (t.single a)) w d e h q) (λ i. λ x. x == term_value-rewritten a d e h i)
    set_value-rewritten (t.union a b) d e h = set_or-means (l.whole_at (t.of_set (t.union a b)) d) (t.union (rewritten_set a l d) (rewritten_set b l d)) m e (set_value (t.union a b) n (view d e)) (λ w q. wholes.whole (t.of_set (t.union a b)) w d e h q) (λ i. λ x. set_value-rewritten a d e h i x || set_value-rewritten b d e h i x)
    set_value-rewritten (t.inter a b) d e h = set_or-means (l.whole_at (t.of_set (t.inter a b)) d) (t.inter (rewritten_set a l d) (rewritten_set b l d)) m e (set_value (t.inter a b) n (view d e)) (λ w q. wholes.whole (t.of_set (t.inter a b)) w d e h q) (λ i. λ x. set_value-rewritten a d e h i x && set_value-rewritten b d e h i x)
    set_value-rewritten (t.diff a b) d e h = set_or-means (l.whole_at (t.of_set (t.diff a b)) d) (t.diff (rewritten_set a l d) (rewritten_set b l d)) m e (set_value (t.diff a b) n (view d e)) (λ w q. wholes.whole (t.of_set (t.diff a b)) w d e h q) (λ i. λ x. set_value-rewritten a d e h i x && not (set_value-rewritten b d e h i x))
    set_value-rewritten (t.compl a) d e h = set_or-means (l.whole_at (t.of_set (t.compl a)) d) (t.compl (rewritten_set a l d)) m e (set_value (t.compl a) n (view d e)) (λ w q. wholes.whole (t.of_set (t.compl a)) w d e h q) (λ i. λ x. not (set_value-rewritten a d e h i x))
    set_value-rewritten (t.compr a) d e h = set_or-means (l.whole_at (t.of_set (t.compr a)) d) (t.compr (rewritten_formula a l (d + 1))) m e (set_value (t.compr a) n (view d e)) (λ w q. wholes.whole (t.of_set (t.compr a)) w d e h q) (λ i. λ x. (truth-rewritten a (d + 1) (x ∷ e) (deeper d e x h) ∙ ap (λ g. truth a n g) (keeps.under d e x)) i)

    pub field_value-rewritten : (a : FieldTree) (d : ℕ) (e : List ℕ) → d ≤ length e → field_value (rewritten_field a l d) m e ≡ field_value a n (view d e)
    field_value-rewritten (t.free_field x) d e h = keeps.field x d e h
    field_value-rewritten (t.update a b c) d e h = field_or-means (l.whole_at (t.of_field (t.update a b c)) d) (t.update (rewritten_field a l d) (rewritten_term b l d) (rewritten_value c l d)) m e (field_value (t.update a b c) n (view d e)) (λ w q. wholes.whole (t.of_field (t.update a b c)) w d e h q) (λ i. updated (field_value-rewritten a d e h i) (term_value-rewritten b d e h i) (datum-rewritten c d e h i))

    pub datum-rewritten : (a : ValueTree) (d : ℕ) (e : List ℕ) → d ≤ length e → datum (rewritten_value a l d) m e ≡ datum a n (view d e)
    datum-rewritten (t.of_object a) d e h = λ i. an_object (term_value-rewritten a d e h i)
    datum-rewritten (t.of_number a) d e h = λ i. a_number (int_value-rewritten a d e h i)
    datum-rewritten (t.of_truth a) d e h = λ i. a_truth (truth-rewritten a d e h i)
    datum-rewritten (t.of_set a) d e h = λ i. a_set (set_value-rewritten a d e h i)
    datum-rewritten (t.of_field a) d e h = λ i. a_field (field_value-rewritten a d e h i)

    pub truth-rewritten : (a : FormulaTree) (d : ℕ) (e : List ℕ) → d ≤ length e → truth (rewritten_formula a l d) m e ≡ truth a n (view d e)
    truth-rewritten t.true_formula d e h = truth_or-means (l.whole_at (t.of_truth t.true_formula) d) t.true_formula m e (truth t.true_formula n (view d e)) (λ w q. wholes.whole (t.of_truth t.true_formula) w d e h q) (refl)
    truth-rewritten t.false_formula d e h = truth_or-means (l.whole_at (t.of_truth t.false_formula) d) t.false_formula m e (truth t.false_formula n (view d e)) (λ w q. wholes.whole (t.of_truth t.false_formula) w d e h q) (refl)
    truth-rewritten (t.free_truth x) d e h = keeps.truth x d e h
    truth-rewritten (t.read_truth a b) d e h = truth_or-means (l.whole_at (t.of_truth (t.read_truth a b)) d) (t.read_truth (rewritten_field a l d) (rewritten_term b l d)) m e (truth (t.read_truth a b) n (view d e)) (λ w q. wholes.whole (t.of_truth (t.read_truth a b)) w d e h q) (λ i. (field_value-rewritten a d e h i).truths (term_value-rewritten b d e h i))
    truth-rewritten (t.negation a) d e h = truth_or-means (l.whole_at (t.of_truth (t.negation a)) d) (t.negation (rewritten_formula a l d)) m e (truth (t.negation a) n (view d e)) (λ w q. wholes.whole (t.of_truth (t.negation a)) w d e h q) (λ i. not (truth-rewritten a d e h i))
    truth-rewritten (t.and a b) d e h = truth_or-means (l.whole_at (t.of_truth (t.and a b)) d) (t.and (rewritten_formula a l d) (rewritten_formula b l d)) m e (truth (t.and a b) n (view d e)) (λ w q. wholes.whole (t.of_truth (t.and a b)) w d e h q) (λ i. truth-rewritten a d e h i && truth-rewritten b d e h i)
    truth-rewritten (t.or a b) d e h = truth_or-means (l.whole_at (t.of_truth (t.or a b)) d) (t.or (rewritten_formula a l d) (rewritten_formula b l d)) m e (truth (t.or a b) n (view d e)) (λ w q. wholes.whole (t.of_truth (t.or a b)) w d e h q) (λ i. truth-rewritten a d e h i || truth-rewritten b d e h i)
    truth-rewritten (t.implies a b) d e h = truth_or-means (l.whole_at (t.of_truth (t.implies a b)) d) (t.implies (rewritten_formula a l d) (rewritten_formula b l d)) m e (truth (t.implies a b) n (view d e)) (λ w q. wholes.whole (t.of_truth (t.implies a b)) w d e h q) (λ i. not (truth-rewritten a d e h i) || truth-rewritten b d e h i)
    truth-rewritten (t.iff a b) d e h = truth_or-means (l.whole_at (t.of_truth (t.iff a b)) d) (t.iff (rewritten_formula a l d) (rewritten_formula b l d)) m e (truth (t.iff a b) n (view d e)) (λ w q. wholes.whole (t.of_truth (t.iff a b)) w d e h q) (λ i. agree (truth-rewritten a d e h i) (truth-rewritten b d e h i))
    truth-rewritten (t.all a) d e h = truth_or-means (l.whole_at (t.of_truth (t.all a)) d) (t.all (rewritten_formula a l (d + 1))) m e (truth (t.all a) n (view d e)) (λ w q. wholes.whole (t.of_truth (t.all a)) w d e h q) (λ i. every (keeps.last i) (λ x. (truth-rewritten a (d + 1) (x ∷ e) (deeper d e x h) ∙ ap (λ g. truth a n g) (keeps.under d e x)) i))
    truth-rewritten (t.ex a) d e h = truth_or-means (l.whole_at (t.of_truth (t.ex a)) d) (t.ex (rewritten_formula a l (d + 1))) m e (truth (t.ex a) n (view d e)) (λ w q. wholes.whole (t.of_truth (t.ex a)) w d e h q) (λ i. some (keeps.last i) (λ x. (truth-rewritten a (d + 1) (x ∷ e) (deeper d e x h) ∙ ap (λ g. truth a n g) (keeps.under d e x)) i))
    truth-rewritten (t.eq_object a b) d e h = truth_or-means (l.whole_at (t.of_truth (t.eq_object a b)) d) (t.eq_object (rewritten_term a l d) (rewritten_term b l d)) m e (truth (t.eq_object a b) n (view d e)) (λ w q. wholes.whole (t.of_truth (t.eq_object a b)) w d e h q) (λ i. term_value-rewritten a d e h i == term_value-rewritten b d e h i)
    truth-rewritten (t.eq_number a b) d e h = truth_or-means (l.whole_at (t.of_truth (t.eq_number a b)) d) (t.eq_number (rewritten_int a l d) (rewritten_int b l d)) m e (truth (t.eq_number a b) n (view d e)) (λ w q. wholes.whole (t.of_truth (t.eq_number a b)) w d e h q) (λ i. int_eq (int_value-rewritten a d e h i) (int_value-rewritten b d e h i))
    truth-rewritten (t.eq_set a b) d e h = truth_or-means (l.whole_at (t.of_truth (t.eq_set a b)) d) (t.eq_set (rewritten_set a l d) (rewritten_set b l d)) m e (truth (t.eq_set a b) n (view d e)) (λ w q. wholes.whole (t.of_truth (t.eq_set a b)) w d e h q) (λ i. every (keeps.last i) (λ x. agree (set_value-rewritten a d e h i x) (set_value-rewritten b d e h i x)))
    truth-rewritten (t.less a b) d e h = truth_or-means (l.whole_at (t.of_truth (t.less a b)) d) (t.less (rewritten_int a l d) (rewritten_int b l d)) m e (truth (t.less a b) n (view d e)) (λ w q. wholes.whole (t.of_truth (t.less a b)) w d e h q) (λ i. int_lt (int_value-rewritten a d e h i) (int_value-rewritten b d e h i))
    truth-rewritten (t.less_equal a b) d e h = truth_or-means (l.whole_at (t.of_truth (t.less_equal a b)) d) (t.less_equal (rewritten_int a l d) (rewritten_int b l d)) m e (truth (t.less_equal a b) n (view d e)) (λ w q. wholes.whole (t.of_truth (t.less_equal a b)) w d e h q) (λ i. int_le (int_value-rewritten a d e h i) (int_value-rewritten b d e h i))
    truth-rewritten (t.divides z a) d e h = truth_or-means (l.whole_at (t.of_truth (t.divides z a)) d) (t.divides z (rewritten_int a l d)) m e (truth (t.divides z a) n (view d e)) (λ w q. wholes.whole (t.of_truth (t.divides z a)) w d e h q) (λ i. divides_number z (int_value-rewritten a d e h i))
    truth-rewritten (t.member a b) d e h = truth_or-means (l.whole_at (t.of_truth (t.member a b)) d) (t.member (rewritten_term a l d) (rewritten_set b l d)) m e (truth (t.member a b) n (view d e)) (λ w q. wholes.whole (t.of_truth (t.member a b)) w d e h q) (λ i. set_value-rewritten b d e h i (term_value-rewritten a d e h i))
    truth-rewritten (t.subset a b) d e h = truth_or-means (l.whole_at (t.of_truth (t.subset a b)) d) (t.subset (rewritten_set a l d) (rewritten_set b l d)) m e (truth (t.subset a b) n (view d e)) (λ w q. wholes.whole (t.of_truth (t.subset a b)) w d e h q) (λ i. every (keeps.last i) (λ x. not (set_value-rewritten a d e h i x) || set_value-rewritten b d e h i x))
    truth-rewritten (t.reach fs a b) d e h = truth_or-means (l.whole_at (t.of_truth (t.reach fs a b)) d) (t.reach (rewritten_fields fs l d) (rewritten_term a l d) (rewritten_term b l d)) m e (truth (t.reach fs a b) n (view d e)) (λ w q. wholes.whole (t.of_truth (t.reach fs a b)) w d e h q) (λ i. reaches (keeps.last i) (fields_value-rewritten fs d e h i) (term_value-rewritten a d e h i) (term_value-rewritten b d e h i))
    truth-rewritten (t.tree fs) d e h = truth_or-means (l.whole_at (t.of_truth (t.tree fs)) d) (t.tree (rewritten_fields fs l d)) m e (truth (t.tree fs) n (view d e)) (λ w q. wholes.whole (t.of_truth (t.tree fs)) w d e h q) (λ i. is_forest (keeps.last i) (fields_value-rewritten fs d e h i))
    truth-rewritten (t.mark k a) d e h = truth_or-means (l.whole_at (t.of_truth (t.mark k a)) d) (t.mark k (rewritten_formula a l d)) m e (truth (t.mark k a) n (view d e)) (λ w q. wholes.whole (t.of_truth (t.mark k a)) w d e h q) (λ i. truth-rewritten a d e h i)

    pub fields_value-rewritten : (fs : FieldTrees) (d : ℕ) (e : List ℕ) → d ≤ length e → fields_value (rewritten_fields fs l d) m e ≡ fields_value fs n (view d e)
    fields_value-rewritten t.none d e h = refl
    fields_value-rewritten (t.more f fs) d e h = λ i. field_value-rewritten f d e h i ∷ fields_value-rewritten fs d e h i
