-- Written by tools/compare.py.
-- Trees without labels.
use Rattle.jh_form.specs.Tree.{TermTree, IntTree, SetTree, FieldTree, ValueTree, FormulaTree, FieldTrees}
use Rattle.jh_form.specs.Tree as t

-- the tree with the label of each part taken off
unfoldable mutual
  pub unmarked_term : TermTree → TermTree
  unmarked_term (t.bound k) = t.bound k
  unmarked_term (t.free_object x) = t.free_object x
  unmarked_term t.null = t.null
  unmarked_term (t.read_object a b) = t.read_object (unmarked_field a) (unmarked_term b)

  pub unmarked_int : IntTree → IntTree
  unmarked_int (t.const z) = t.const z
  unmarked_int (t.free_number x) = t.free_number x
  unmarked_int (t.read_number a b) = t.read_number (unmarked_field a) (unmarked_term b)
  unmarked_int (t.add a b) = t.add (unmarked_int a) (unmarked_int b)
  unmarked_int (t.sub a b) = t.sub (unmarked_int a) (unmarked_int b)
  unmarked_int (t.neg a) = t.neg (unmarked_int a)
  unmarked_int (t.scale z a) = t.scale z (unmarked_int a)
  unmarked_int (t.card a) = t.card (unmarked_set a)

  pub unmarked_set : SetTree → SetTree
  unmarked_set (t.free_set x) = t.free_set x
  unmarked_set (t.read_set a b) = t.read_set (unmarked_field a) (unmarked_term b)
  unmarked_set t.empty = t.empty
  unmarked_set t.univ = t.univ
  unmarked_set (t.single a) = t.single (unmarked_term a)
  unmarked_set (t.union a b) = t.union (unmarked_set a) (unmarked_set b)
  unmarked_set (t.inter a b) = t.inter (unmarked_set a) (unmarked_set b)
  unmarked_set (t.diff a b) = t.diff (unmarked_set a) (unmarked_set b)
  unmarked_set (t.compl a) = t.compl (unmarked_set a)
  unmarked_set (t.compr a) = t.compr (unmarked_formula a)

  pub unmarked_field : FieldTree → FieldTree
  unmarked_field (t.free_field x) = t.free_field x
  unmarked_field (t.update a b c) = t.update (unmarked_field a) (unmarked_term b) (unmarked_value c)

  pub unmarked_value : ValueTree → ValueTree
  unmarked_value (t.of_object a) = t.of_object (unmarked_term a)
  unmarked_value (t.of_number a) = t.of_number (unmarked_int a)
  unmarked_value (t.of_truth a) = t.of_truth (unmarked_formula a)
  unmarked_value (t.of_set a) = t.of_set (unmarked_set a)
  unmarked_value (t.of_field a) = t.of_field (unmarked_field a)

  pub unmarked_formula : FormulaTree → FormulaTree
  unmarked_formula t.true_formula = t.true_formula
  unmarked_formula t.false_formula = t.false_formula
  unmarked_formula (t.free_truth x) = t.free_truth x
  unmarked_formula (t.read_truth a b) = t.read_truth (unmarked_field a) (unmarked_term b)
  unmarked_formula (t.negation a) = t.negation (unmarked_formula a)
  unmarked_formula (t.and a b) = t.and (unmarked_formula a) (unmarked_formula b)
  unmarked_formula (t.or a b) = t.or (unmarked_formula a) (unmarked_formula b)
  unmarked_formula (t.implies a b) = t.implies (unmarked_formula a) (unmarked_formula b)
  unmarked_formula (t.iff a b) = t.iff (unmarked_formula a) (unmarked_formula b)
  unmarked_formula (t.all a) = t.all (unmarked_formula a)
  unmarked_formula (t.ex a) = t.ex (unmarked_formula a)
  unmarked_formula (t.eq_object a b) = t.eq_object (unmarked_term a) (unmarked_term b)
  unmarked_formula (t.eq_number a b) = t.eq_number (unmarked_int a) (unmarked_int b)
  unmarked_formula (t.eq_set a b) = t.eq_set (unmarked_set a) (unmarked_set b)
  unmarked_formula (t.less a b) = t.less (unmarked_int a) (unmarked_int b)
  unmarked_formula (t.less_equal a b) = t.less_equal (unmarked_int a) (unmarked_int b)
  unmarked_formula (t.divides z a) = t.divides z (unmarked_int a)
  unmarked_formula (t.member a b) = t.member (unmarked_term a) (unmarked_set b)
  unmarked_formula (t.subset a b) = t.subset (unmarked_set a) (unmarked_set b)
  unmarked_formula (t.reach fs a b) = t.reach (unmarked_fields fs) (unmarked_term a) (unmarked_term b)
  unmarked_formula (t.tree fs) = t.tree (unmarked_fields fs)
  unmarked_formula (t.mark k a) = unmarked_formula a

  pub unmarked_fields : FieldTrees → FieldTrees
  unmarked_fields t.none = t.none
  unmarked_fields (t.more f fs) = t.more (unmarked_field f) (unmarked_fields fs)
