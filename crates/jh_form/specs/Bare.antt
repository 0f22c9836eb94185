-- The tree of each value of the program.
use Rattle.std.specs.Prelude.{List, [], ◌∷◌}
use Rattle.jh_form.specs.declared.form.Term.{Term}
use Rattle.jh_form.specs.declared.form.IntTerm.{IntTerm}
use Rattle.jh_form.specs.declared.form.SetTerm.{SetTerm}
use Rattle.jh_form.specs.declared.form.FieldTerm.{FieldTerm}
use Rattle.jh_form.specs.declared.form.Value.{Value}
use Rattle.jh_form.specs.declared.form.Formula.{Formula}
use Rattle.jh_form.specs.declared.form.Formula.{Row_of-FieldTerm, end_of-FieldTerm, more_of-FieldTerm}
use Rattle.jh_form.specs.declared.form.Term.TheVariants as term
use Rattle.jh_form.specs.declared.form.IntTerm.TheVariants as int
use Rattle.jh_form.specs.declared.form.SetTerm.TheVariants as set
use Rattle.jh_form.specs.declared.form.FieldTerm.TheVariants as field
use Rattle.jh_form.specs.declared.form.Value.TheVariants as value
use Rattle.jh_form.specs.declared.form.Formula.TheVariants as formula
use Rattle.jh_form.specs.Tree.{TermTree, IntTree, SetTree, FieldTree, ValueTree, FormulaTree, FieldTrees}
use Rattle.jh_form.specs.Tree as tree

unfoldable mutual
  pub term_tree : Term → TermTree
  term_tree (term.Bound k) = tree.bound k
  term_tree (term.Free x) = tree.free_object x
  term_tree term.Null = tree.null
  term_tree (term.Read' i a j b) = tree.read_object (field_tree a) (term_tree b)

  pub int_tree : IntTerm → IntTree
  int_tree (int.Const z) = tree.const z
  int_tree (int.Free x) = tree.free_number x
  int_tree (int.Read' i a j b) = tree.read_number (field_tree a) (term_tree b)
  int_tree (int.Add' i a j b) = tree.add (int_tree a) (int_tree b)
  int_tree (int.Sub' i a j b) = tree.sub (int_tree a) (int_tree b)
  int_tree (int.Neg' i a) = tree.neg (int_tree a)
  int_tree (int.Scale' z i a) = tree.scale z (int_tree a)
  int_tree (int.Card' i a) = tree.card (set_tree a)

  pub set_tree : SetTerm → SetTree
  set_tree (set.Free x) = tree.free_set x
  set_tree (set.Read' i a j b) = tree.read_set (field_tree a) (term_tree b)
  set_tree set.Empty = tree.empty
  set_tree set.Univ = tree.univ
  set_tree (set.Single' i a) = tree.single (term_tree a)
  set_tree (set.Union' i a j b) = tree.union (set_tree a) (set_tree b)
  set_tree (set.Inter' i a j b) = tree.inter (set_tree a) (set_tree b)
  set_tree (set.Diff' i a j b) = tree.diff (set_tree a) (set_tree b)
  set_tree (set.Compl' i a) = tree.compl (set_tree a)
  set_tree (set.Compr' i a) = tree.compr (formula_tree a)

  pub field_tree : FieldTerm → FieldTree
  field_tree (field.Free x) = tree.free_field x
  field_tree (field.Update' i a j b l c) = tree.update (field_tree a) (term_tree b) (value_tree c)

  pub value_tree : Value → ValueTree
  value_tree (value.Obj a) = tree.of_object (term_tree a)
  value_tree (value.Int a) = tree.of_number (int_tree a)
  value_tree (value.Bool a) = tree.of_truth (formula_tree a)
  value_tree (value.Set a) = tree.of_set (set_tree a)
  value_tree (value.Field a) = tree.of_field (field_tree a)

  pub formula_tree : Formula → FormulaTree
  formula_tree formula.True = tree.true_formula
  formula_tree formula.False = tree.false_formula
  formula_tree (formula.Free x) = tree.free_truth x
  formula_tree (formula.Read' i a j b) = tree.read_truth (field_tree a) (term_tree b)
  formula_tree (formula.Not' i a) = tree.negation (formula_tree a)
  formula_tree (formula.And' i a j b) = tree.and (formula_tree a) (formula_tree b)
  formula_tree (formula.Or' i a j b) = tree.or (formula_tree a) (formula_tree b)
  formula_tree (formula.Implies' i a j b) = tree.implies (formula_tree a) (formula_tree b)
  formula_tree (formula.Iff' i a j b) = tree.iff (formula_tree a) (formula_tree b)
  formula_tree (formula.All' i a) = tree.all (formula_tree a)
  formula_tree (formula.Ex' i a) = tree.ex (formula_tree a)
  formula_tree (formula.EqObj a b) = tree.eq_object (term_tree a) (term_tree b)
  formula_tree (formula.EqInt a b) = tree.eq_number (int_tree a) (int_tree b)
  formula_tree (formula.EqSet a b) = tree.eq_set (set_tree a) (set_tree b)
  formula_tree (formula.Less a b) = tree.less (int_tree a) (int_tree b)
  formula_tree (formula.LessEq a b) = tree.less_equal (int_tree a) (int_tree b)
  formula_tree (formula.Divides z a) = tree.divides z (int_tree a)
  formula_tree (formula.Member a b) = tree.member (term_tree a) (set_tree b)
  formula_tree (formula.Subset a b) = tree.subset (set_tree a) (set_tree b)
  formula_tree (formula.Reach' shape fs a b) = tree.reach (fields_tree fs) (term_tree a) (term_tree b)
  formula_tree (formula.Tree' shape fs) = tree.tree (fields_tree fs)
  formula_tree (formula.Mark' k i a) = tree.mark k (formula_tree a)

  pub fields_tree : {n : _} → Row_of-FieldTerm n → FieldTrees
  fields_tree end_of-FieldTerm = tree.none
  fields_tree (more_of-FieldTerm f fs) = tree.more (field_tree f) (fields_tree fs)

-- the trees of a list of fields
abbrev pub list_tree : List FieldTerm → FieldTrees
list_tree [] = tree.none
list_tree (f ∷ fs) = tree.more (field_tree f) (list_tree fs)
