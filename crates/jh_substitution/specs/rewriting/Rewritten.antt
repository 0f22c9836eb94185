-- Written by tools/rewrite.py.
-- A tree with each leaf exchanged for what a map of leaves gives for it, and some whole parts for what
-- stands for them.
use Rattle.std.specs.Prelude.{◌≡◌, ℕ, ◌+◌, ◌≤◌, List, length, Option, Some, None}
use Rattle.jh_form.specs.Tree.{TermTree, IntTree, SetTree, FieldTree, ValueTree, FormulaTree, FieldTrees}
use Rattle.jh_form.specs.Tree as t
use Rattle.jh_form.specs.Meaning.{Interp, datum}
use Rattle.jh_boxed.specs.Mapped.{LeafMap}

-- What stands for each leaf and, where there is anything, for a whole part that is no leaf, at the number
-- of binders that were passed on the way to it. What is of another sort than the part doesn't count.
pub record Rewriting : Type 0 where
  pub leaves : LeafMap
  pub whole_at : ValueTree → ℕ → Option ValueTree

-- only leaves are exchanged
abbrev pub leaves_alone : LeafMap → Rewriting
leaves_alone l = record { leaves = l; whole_at = λ v d. None }

-- What stands for a whole part means in m what the part means in n; the objects of the bound variables
-- are e after the rewriting, and `view d e` before it.
pub record KeepsWholes (l : Rewriting) (m n : Interp) (view : ℕ → List ℕ → List ℕ) : Type 0 where
  pub whole : (v w : ValueTree) (d : ℕ) (e : List ℕ) → d ≤ length e → l.whole_at v d ≡ Some w → datum w m e ≡ datum v n (view d e)

-- what stands for a whole part, or else the part given
unfoldable pub object_or : Option ValueTree → TermTree → TermTree
object_or (Some (t.of_object a)) b = a
object_or _ b = b

unfoldable pub number_or : Option ValueTree → IntTree → IntTree
number_or (Some (t.of_number a)) b = a
number_or _ b = b

unfoldable pub truth_or : Option ValueTree → FormulaTree → FormulaTree
truth_or (Some (t.of_truth a)) b = a
truth_or _ b = b

unfoldable pub set_or : Option ValueTree → SetTree → SetTree
set_or (Some (t.of_set a)) b = a
set_or _ b = b

unfoldable pub field_or : Option ValueTree → FieldTree → FieldTree
field_or (Some (t.of_field a)) b = a
field_or _ b = b

unfoldable mutual
  pub rewritten_term : TermTree → Rewriting → ℕ → TermTree
  rewritten_term (t.bound k) l d = l.leaves.bound_at k d
  rewritten_term (t.free_object x) l d = l.leaves.object_at x d
  rewritten_term t.null l d = object_or (l.whole_at (t.of_object t.null) d) t.null
  rewritten_term (t.read_object a b) l d = object_or (l.whole_at (t.of_object (t.read_object a b)) d) (t.read_object (rewritten_field a l d) (rewritten_term b l d))

  pub rewritten_int : IntTree → Rewriting → ℕ → IntTree
  rewritten_int (t.const z) l d = number_or (l.whole_at (t.of_number (t.const z)) d) (t.const z)
  rewritten_int (t.free_number x) l d = l.leaves.number_at x d
  rewritten_int (t.read_number a b) l d = number_or (l.whole_at (t.of_number (t.read_number a b)) d) (t.read_number (rewritten_field a l d) (rewritten_term b l d))
  rewritten_int (t.add a b) l d = number_or (l.whole_at (t.of_number (t.add a b)) d) (t.add (rewritten_int a l d) (rewritten_int b l d))
  rewritten_int (t.sub a b) l d = number_or (l.whole_at (t.of_number (t.sub a b)) d) (t.sub (rewritten_int a l d) (rewritten_int b l d))
  rewritten_int (t.neg a) l d = number_or (l.whole_at (t.of_number (t.neg a)) d) (t.neg (rewritten_int a l d))
  rewritten_int (t.scale z a) l d = number_or (l.whole_at (t.of_number (t.scale z a)) d) (t.scale z (rewritten_int a l d))
  rewritten_int (t.card a) l d = number_or (l.whole_at (t.of_number (t.card a)) d) (t.card (rewritten_set a l d))

  pub rewritten_set : SetTree → Rewriting → ℕ → SetTree
  rewritten_set (t.free_set x) l d = l.leaves.set_at x d
  rewritten_set (t.read_set a b) l d = set_or (l.whole_at (t.of_set (t.read_set a b)) d) (t.read_set (rewritten_field a l d) (rewritten_term b l d))
  rewritten_set t.empty l d = set_or (l.whole_at (t.of_set t.empty) d) t.empty
  rewritten_set t.univ l d = set_or (l.whole_at (t.of_set t.univ) d) t.univ
  rewritten_set (t.single a) l d = set_or (l.whole_at (t.of_set (t.single a)) d) (t.single (rewritten_term a l d))
  rewritten_set (t.union a b) l d = set_or (l.whole_at (t.of_set (t.union a b)) d) (t.union (rewritten_set a l d) (rewritten_set b l d))
  rewritten_set (t.inter a b) l d = set_or (l.whole_at (t.of_set (t.inter a b)) d) (t.inter (rewritten_set a l d) (rewritten_set b l d))
  rewritten_set (t.diff a b) l d = set_or (l.whole_at (t.of_set (t.diff a b)) d) (t.diff (rewritten_set a l d) (rewritten_set b l d))
  rewritten_set (t.compl a) l d = set_or (l.whole_at (t.of_set (t.compl a)) d) (t.compl (rewritten_set a l d))
  rewritten_set (t.compr a) l d = set_or (l.whole_at (t.of_set (t.compr a)) d) (t.compr (rewritten_formula a l (d + 1)))

  pub rewritten_field : FieldTree → Rewriting → ℕ → FieldTree
  rewritten_field (t.free_field x) l d = l.leaves.field_at x d
  rewritten_field (t.update a b c) l d = field_or (l.whole_at (t.of_field (t.update a b c)) d) (t.update (rewritten_field a l d) (rewritten_term b l d) (rewritten_value c l d))

  pub rewritten_value : ValueTree → Rewriting → ℕ → ValueTree
  rewritten_value (t.of_object a) l d = t.of_object (rewritten_term a l d)
  rewritten_value (t.of_number a) l d = t.of_number (rewritten_int a l d)
  rewritten_value (t.of_truth a) l d = t.of_truth (rewritten_formula a l d)
  rewritten_value (t.of_set a) l d = t.of_set (rewritten_set a l d)
  rewritten_value (t.of_field a) l d = t.of_field (rewritten_field a l d)

  pub rewritten_formula : FormulaTree → Rewriting → ℕ → FormulaTree
  rewritten_formula t.true_formula l d = truth_or (l.whole_at (t.of_truth t.true_formula) d) t.true_formula
  rewritten_formula t.false_formula l d = truth_or (l.whole_at (t.of_truth t.false_formula) d) t.false_formula
  rewritten_formula (t.free_truth x) l d = l.leaves.truth_at x d
  rewritten_formula (t.read_truth a b) l d = truth_or (l.whole_at (t.of_truth (t.read_truth a b)) d) (t.read_truth (rewritten_field a l d) (rewritten_term b l d))
  rewritten_formula (t.negation a) l d = truth_or (l.whole_at (t.of_truth (t.negation a)) d) (t.negation (rewritten_formula a l d))
  rewritten_formula (t.and a b) l d = truth_or (l.whole_at (t.of_truth (t.and a b)) d) (t.and (rewritten_formula a l d) (rewritten_formula b l d))
  rewritten_formula (t.or a b) l d = truth_or (l.whole_at (t.of_truth (t.or a b)) d) (t.or (rewritten_formula a l d) (rewritten_formula b l d))
  rewritten_formula (t.implies a b) l d = truth_or (l.whole_at (t.of_truth (t.implies a b)) d) (t.implies (rewritten_formula a l d) (rewritten_formula b l d))
  rewritten_formula (t.iff a b) l d = truth_or (l.whole_at (t.of_truth (t.iff a b)) d) (t.iff (rewritten_formula a l d) (rewritten_formula b l d))
  rewritten_formula (t.all a) l d = truth_or (l.whole_at (t.of_truth (t.all a)) d) (t.all (rewritten_formula a l (d + 1)))
  rewritten_formula (t.ex a) l d = truth_or (l.whole_at (t.of_truth (t.ex a)) d) (t.ex (rewritten_formula a l (d + 1)))
  rewritten_formula (t.eq_object a b) l d = truth_or (l.whole_at (t.of_truth (t.eq_object a b)) d) (t.eq_object (rewritten_term a l d) (rewritten_term b l d))
  rewritten_formula (t.eq_number a b) l d = truth_or (l.whole_at (t.of_truth (t.eq_number a b)) d) (t.eq_number (rewritten_int a l d) (rewritten_int b l d))
  rewritten_formula (t.eq_set a b) l d = truth_or (l.whole_at (t.of_truth (t.eq_set a b)) d) (t.eq_set (rewritten_set a l d) (rewritten_set b l d))
  rewritten_formula (t.less a b) l d = truth_or (l.whole_at (t.of_truth (t.less a b)) d) (t.less (rewritten_int a l d) (rewritten_int b l d))
  rewritten_formula (t.less_equal a b) l d = truth_or (l.whole_at (t.of_truth (t.less_equal a b)) d) (t.less_equal (rewritten_int a l d) (rewritten_int b l d))
  rewritten_formula (t.divides z a) l d = truth_or (l.whole_at (t.of_truth (t.divides z a)) d) (t.divides z (rewritten_int a l d))
  rewritten_formula (t.member a b) l d = truth_or (l.whole_at (t.of_truth (t.member a b)) d) (t.member (rewritten_term a l d) (rewritten_set b l d))
  rewritten_formula (t.subset a b) l d = truth_or (l.whole_at (t.of_truth (t.subset a b)) d) (t.subset (rewritten_set a l d) (rewritten_set b l d))
  rewritten_formula (t.reach fs a b) l d = truth_or (l.whole_at (t.of_truth (t.reach fs a b)) d) (t.reach (rewritten_fields fs l d) (rewritten_term a l d) (rewritten_term b l d))
  rewritten_formula (t.tree fs) l d = truth_or (l.whole_at (t.of_truth (t.tree fs)) d) (t.tree (rewritten_fields fs l d))
  rewritten_formula (t.mark k a) l d = truth_or (l.whole_at (t.of_truth (t.mark k a)) d) (t.mark k (rewritten_formula a l d))

  pub rewritten_fields : FieldTrees → Rewriting → ℕ → FieldTrees
  rewritten_fields t.none l d = t.none
  rewritten_fields (t.more f fs) l d = t.more (rewritten_field f l d) (rewritten_fields fs l d)
