-- Written by tools/rewrite.py.
-- Where only leaves are exchanged, the rewritten tree is the mapped one; and a whole part becomes what
-- stands for it.
use Rattle.std.proofs.Common.{◌≡◌, refl, ap, ℕ, ◌+◌, false, List, Option, Some}
use Rattle.std.proofs.lemmas.Bool.{true≢false}
use Rattle.jh_name.specs.declared.place.Sort.TheVariants as Sort
use Rattle.jh_form.specs.Tree.{TermTree, IntTree, SetTree, FieldTree, ValueTree, FormulaTree, FieldTrees, of_object, of_number, of_truth, of_set, of_field}
use Rattle.jh_form.specs.Tree as t
use Rattle.jh_form.specs.Sorts.{tree_sort}
use Rattle.jh_boxed.specs.Mapped.{LeafMap, mapped_term, mapped_int, mapped_set, mapped_field, mapped_value, mapped_formula, mapped_fields}
use Rattle.jh_arena.specs.table.Entries.{Pools}
use Rattle.jh_arena.specs.table.Nodes.{shape_tree}
use Rattle.jh_arena.specs.declared.table.shapes.Shape.{Shape}
use Rattle.jh_arena.specs.declared.table.shapes.Shape.TheVariants as s
use Rattle.jh_substitution.specs.rewriting.Leaf.{is_leaf}
use Rattle.jh_substitution.specs.rewriting.Rewritten.{Rewriting, leaves_alone, object_or, number_or, truth_or, set_or, field_or, rewritten_term, rewritten_int, rewritten_set, rewritten_field, rewritten_value, rewritten_formula, rewritten_fields}

module _ (l : LeafMap) where
  mutual
    unfolding rewritten_term rewritten_int rewritten_set rewritten_field rewritten_value rewritten_formula rewritten_fields object_or number_or truth_or set_or field_or mapped_term mapped_int mapped_set mapped_field mapped_value mapped_formula mapped_fields

    pub term-alone : (a : TermTree) (d : ℕ) → rewritten_term a (leaves_alone l) d ≡ mapped_term a l d
    term-alone (t.bound k) d = refl
    term-alone (t.free_object x) d = refl
    term-alone t.null d = refl
    term-alone (t.read_object a b) d = λ i. t.read_object (field-alone a d i) (term-alone b d i)

    pub int-alone : (a : IntTree) (d : ℕ) → rewritten_int a (leaves_alone l) d ≡ mapped_int a l d
    int-alone (t.const z) d = refl
    int-alone (t.free_number x) d = refl
    int-alone (t.read_number a b) d = λ i. t.read_number (field-alone a d i) (term-alone b d i)
    int-alone (t.add a b) d = λ i. t.add (int-alone a d i) (int-alone b d i)
    int-alone (t.sub a b) d = λ i. t.sub (int-alone a d i) (int-alone b d i)
    int-alone (t.neg a) d = λ i. t.neg (int-alone a d i)
    int-alone (t.scale z a) d = λ i. t.scale z (int-alone a d i)
    int-alone (t.card a) d = λ i. t.card (set-alone a d i)

    pub set-alone : (a : SetTree) (d : ℕ) → rewritten_set a (leaves_alone l) d ≡ mapped_set a l d
    set-alone (t.free_set x) d = refl
    set-alone (t.read_set a b) d = λ i. t.read_set (field-alone a d i) (term-alone b d i)
    set-alone t.empty d = refl
    set-alone t.univ d = refl
    set-alone (t.single a) d = λ i. t.single (term-alone a d i)
    set-alone (t.union a b) d = λ i. t.union (set-alone a d i) (set-alone b d i)
    set-alone (t.inter a b) d = λ i. t.inter (set-alone a d i) (set-alone b d i)
    set-alone (t.diff a b) d = λ i. t.diff (set-alone a d i) (set-alone b d i)
    set-alone (t.compl a) d = λ i. t.compl (set-alone a d i)
    set-alone (t.compr a) d = λ i. t.compr (formula-alone a (d + 1) i)

    pub field-alone : (a : FieldTree) (d : ℕ) → rewritten_field a (leaves_alone l) d ≡ mapped_field a l d
    field-alone (t.free_field x) d = refl
    field-alone (t.update a b c) d = λ i. t.update (field-alone a d i) (term-alone b d i) (value-alone c d i)

    pub value-alone : (a : ValueTree) (d : ℕ) → rewritten_value a (leaves_alone l) d ≡ mapped_value a l d
    value-alone (t.of_object a) d = λ i. t.of_object (term-alone a d i)
    value-alone (t.of_number a) d = λ i. t.of_number (int-alone a d i)
    value-alone (t.of_truth a) d = λ i. t.of_truth (formula-alone a d i)
    value-alone (t.of_set a) d = λ i. t.of_set (set-alone a d i)
    value-alone (t.of_field a) d = λ i. t.of_field (field-alone a d i)

    pub formula-alone : (a : FormulaTree) (d : ℕ) → rewritten_formula a (leaves_alone l) d ≡ mapped_formula a l d
    formula-alone t.true_formula d = refl
    formula-alone t.false_formula d = refl
    formula-alone (t.free_truth x) d = refl
    formula-alone (t.read_truth a b) d = λ i. t.read_truth (field-alone a d i) (term-alone b d i)
    formula-alone (t.negation a) d = λ i. t.negation (formula-alone a d i)
    formula-alone (t.and a b) d = λ i. t.and (formula-alone a d i) (formula-alone b d i)
    formula-alone (t.or a b) d = λ i. t.or (formula-alone a d i) (formula-alone b d i)
    formula-alone (t.implies a b) d = λ i. t.implies (formula-alone a d i) (formula-alone b d i)
    formula-alone (t.iff a b) d = λ i. t.iff (formula-alone a d i) (formula-alone b d i)
    formula-alone (t.all a) d = λ i. t.all (formula-alone a (d + 1) i)
    formula-alone (t.ex a) d = λ i. t.ex (formula-alone a (d + 1) i)
    formula-alone (t.eq_object a b) d = λ i. t.eq_object (term-alone a d i) (term-alone b d i)
    formula-alone (t.eq_number a b) d = λ i. t.eq_number (int-alone a d i) (int-alone b d i)
    formula-alone (t.eq_set a b) d = λ i. t.eq_set (set-alone a d i) (set-alone b d i)
    formula-alone (t.less a b) d = λ i. t.less (int-alone a d i) (int-alone b d i)
    formula-alone (t.less_equal a b) d = λ i. t.less_equal (int-alone a d i) (int-alone b d i)
    formula-alone (t.divides z a) d = λ i. t.divides z (int-alone a d i)
    formula-alone (t.member a b) d = λ i. t.member (term-alone a d i) (set-alone b d i)
    formula-alone (t.subset a b) d = λ i. t.subset (set-alone a d i) (set-alone b d i)
    formula-alone (t.reach fs a b) d = λ i. t.reach (fields-alone fs d i) (term-alone a d i) (term-alone b d i)
    formula-alone (t.tree fs) d = λ i. t.tree (fields-alone fs d i)
    formula-alone (t.mark k a) d = λ i. t.mark k (formula-alone a d i)

    pub fields-alone : (fs : FieldTrees) (d : ℕ) → rewritten_fields fs (leaves_alone l) d ≡ mapped_fields fs l d
    fields-alone t.none d = refl
    fields-alone (t.more f fs) d = λ i. t.more (field-alone f d i) (fields-alone fs d i)

pub object-taken : (o : Option ValueTree) (y : ValueTree) (a : TermTree) → o ≡ Some y → tree_sort y ≡ Sort.Obj → of_object (object_or o a) ≡ y
unfolding object_or
object-taken o (of_object b) a e same = ap (λ q. of_object (object_or q a)) e
object-taken o (of_number b) a e same = absurd (cc)
object-taken o (of_truth b) a e same = absurd (cc)
object-taken o (of_set b) a e same = absurd (cc)
object-taken o (of_field b) a e same = absurd (cc)

pub number-taken : (o : Option ValueTree) (y : ValueTree) (a : IntTree) → o ≡ Some y → tree_sort y ≡ Sort.Int → of_number (number_or o a) ≡ y
unfolding number_or
number-taken o (of_object b) a e same = absurd (cc)
number-taken o (of_number b) a e same = ap (λ q. of_number (number_or q a)) e
number-taken o (of_truth b) a e same = absurd (cc)
number-taken o (of_set b) a e same = absurd (cc)
number-taken o (of_field b) a e same = absurd (cc)

pub truth-taken : (o : Option ValueTree) (y : ValueTree) (a : FormulaTree) → o ≡ Some y → tree_sort y ≡ Sort.Bool → of_truth (truth_or o a) ≡ y
unfolding truth_or
truth-taken o (of_object b) a e same = absurd (cc)
truth-taken o (of_number b) a e same = absurd (cc)
truth-taken o (of_truth b) a e same = ap (λ q. of_truth (truth_or q a)) e
truth-taken o (of_set b) a e same = absurd (cc)
truth-taken o (of_field b) a e same = absurd (cc)

pub set-taken : (o : Option ValueTree) (y : ValueTree) (a : SetTree) → o ≡ Some y → tree_sort y ≡ Sort.Set → of_set (set_or o a) ≡ y
unfolding set_or
set-taken o (of_object b) a e same = absurd (cc)
set-taken o (of_number b) a e same = absurd (cc)
set-taken o (of_truth b) a e same = absurd (cc)
set-taken o (of_set b) a e same = ap (λ q. of_set (set_or q a)) e
set-taken o (of_field b) a e same = absurd (cc)

pub field-taken : (o : Option ValueTree) (y : ValueTree) (a : FieldTree) → o ≡ Some y → tree_sort y ≡ Sort.Field → of_field (field_or o a) ≡ y
unfolding field_or
field-taken o (of_object b) a e same = absurd (cc)
field-taken o (of_number b) a e same = absurd (cc)
field-taken o (of_truth b) a e same = absurd (cc)
field-taken o (of_set b) a e same = absurd (cc)
field-taken o (of_field b) a e same = ap (λ q. of_field (field_or q a)) e

-- a whole part becomes what stands for it
pub whole-taken : (l : Rewriting) (p : Pools) (ts : List ValueTree) (d : ℕ) (x : Shape) (y : ValueTree) → is_leaf x ≡ false →
    l.whole_at (shape_tree p ts x) d ≡ Some y → tree_sort y ≡ tree_sort (shape_tree p ts x) → rewritten_value (shape_tree p ts x) l d ≡ y
unfolding is_leaf shape_tree rewritten_term rewritten_int rewritten_set rewritten_field rewritten_value rewritten_formula
whole-taken l p ts d (s.Bound k) y leaf e same = absurd (true≢false leaf)
whole-taken l p ts d (s.FreeObject x) y leaf e same = absurd (true≢false leaf)
whole-taken l p ts d s.Null y leaf e same = object-taken _ y _ e same
whole-taken l p ts d (s.ReadObject a b) y leaf e same = object-taken _ y _ e same
whole-taken l p ts d (s.Const z) y leaf e same = number-taken _ y _ e same
whole-taken l p ts d (s.FreeNumber x) y leaf e same = absurd (true≢false leaf)
whole-taken l p ts d (s.ReadNumber a b) y leaf e same = number-taken _ y _ e same
whole-taken l p ts d (s.Add a b) y leaf e same = number-taken _ y _ e same
whole-taken l p ts d (s.Sub a b) y leaf e same = number-taken _ y _ e same
whole-taken l p ts d (s.Neg a) y leaf e same = number-taken _ y _ e same
whole-taken l p ts d (s.Scale z a) y leaf e same = number-taken _ y _ e same
whole-taken l p ts d (s.Card a) y leaf e same = number-taken _ y _ e same
whole-taken l p ts d (s.FreeSet x) y leaf e same = absurd (true≢false leaf)
whole-taken l p ts d (s.ReadSet a b) y leaf e same = set-taken _ y _ e same
whole-taken l p ts d s.Empty y leaf e same = set-taken _ y _ e same
whole-taken l p ts d s.Univ y leaf e same = set-taken _ y _ e same
whole-taken l p ts d (s.Single a) y leaf e same = set-taken _ y _ e same
whole-taken l p ts d (s.Union a b) y leaf e same = set-taken _ y _ e same
whole-taken l p ts d (s.Inter a b) y leaf e same = set-taken _ y _ e same
whole-taken l p ts d (s.Diff a b) y leaf e same = set-taken _ y _ e same
whole-taken l p ts d (s.Compl a) y leaf e same = set-taken _ y _ e same
whole-taken l p ts d (s.Compr a) y leaf e same = set-taken _ y _ e same
whole-taken l p ts d (s.FreeField x) y leaf e same = absurd (true≢false leaf)
whole-taken l p ts d (s.Update a b c) y leaf e same = field-taken _ y _ e same
whole-taken l p ts d s.True y leaf e same = truth-taken _ y _ e same
whole-taken l p ts d s.False y leaf e same = truth-taken _ y _ e same
whole-taken l p ts d (s.FreeTruth x) y leaf e same = absurd (true≢false leaf)
whole-taken l p ts d (s.ReadTruth a b) y leaf e same = truth-taken _ y _ e same
whole-taken l p ts d (s.Negation a) y leaf e same = truth-taken _ y _ e same
whole-taken l p ts d (s.And a b) y leaf e same = truth-taken _ y _ e same
whole-taken l p ts d (s.Or a b) y leaf e same = truth-taken _ y _ e same
whole-taken l p ts d (s.Implies a b) y leaf e same = truth-taken _ y _ e same
whole-taken l p ts d (s.Iff a b) y leaf e same = truth-taken _ y _ e same
whole-taken l p ts d (s.All a) y leaf e same = truth-taken _ y _ e same
whole-taken l p ts d (s.Ex a) y leaf e same = truth-taken _ y _ e same
whole-taken l p ts d (s.EqObject a b) y leaf e same = truth-taken _ y _ e same
whole-taken l p ts d (s.EqNumber a b) y leaf e same = truth-taken _ y _ e same
whole-taken l p ts d (s.EqSet a b) y leaf e same = truth-taken _ y _ e same
whole-taken l p ts d (s.Less a b) y leaf e same = truth-taken _ y _ e same
whole-taken l p ts d (s.LessEqual a b) y leaf e same = truth-taken _ y _ e same
whole-taken l p ts d (s.Divides z a) y leaf e same = truth-taken _ y _ e same
whole-taken l p ts d (s.Member a b) y leaf e same = truth-taken _ y _ e same
whole-taken l p ts d (s.Subset a b) y leaf e same = truth-taken _ y _ e same
whole-taken l p ts d (s.Reach f a b) y leaf e same = truth-taken _ y _ e same
whole-taken l p ts d (s.Tree f) y leaf e same = truth-taken _ y _ e same
whole-taken l p ts d (s.Mark m a) y leaf e same = truth-taken _ y _ e same
