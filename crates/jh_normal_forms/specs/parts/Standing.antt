-- Written by tools/parts.py.
-- The parts of a tree, in the order in which they stand.
use Rattle.std.specs.Prelude.{List, [], ◌∷◌, ◌++◌}
use Rattle.jh_form.specs.Tree.{TermTree, IntTree, SetTree, FieldTree, ValueTree, FormulaTree, FieldTrees}
use Rattle.jh_form.specs.Tree as t
use Rattle.jh_normal_forms.specs.declared.parts.order.Order.{Order}
use Rattle.jh_normal_forms.specs.declared.parts.order.Order.TheVariants as order

-- a part, where it stands before the parts inside it
abbrev pub before : Order → ValueTree → List ValueTree
before order.OuterFirst v = v ∷ []
before order.InnerFirst v = []

-- a part, where it stands behind the parts inside it
abbrev pub behind : Order → ValueTree → List ValueTree
behind order.OuterFirst v = []
behind order.InnerFirst v = v ∷ []

-- a part and those inside it
abbrev pub around : Order → ValueTree → List ValueTree → List ValueTree
around o v inside = before o v ++ (inside ++ behind o v)

-- Every part of a tree, the tree itself among them, as often as it stands there. The parts of one constructor come
-- in the order of its arguments.
unfoldable mutual
  pub term_parts : TermTree → Order → List ValueTree
  term_parts (t.bound k) o = around o (t.of_object (t.bound k)) []
  term_parts (t.free_object x) o = around o (t.of_object (t.free_object x)) []
  term_parts t.null o = around o (t.of_object t.null) []
  term_parts (t.read_object a b) o = around o (t.of_object (t.read_object a b)) (field_parts a o ++ term_parts b o)

  pub int_parts : IntTree → Order → List ValueTree
  int_parts (t.const z) o = around o (t.of_number (t.const z)) []
  int_parts (t.free_number x) o = around o (t.of_number (t.free_number x)) []
  int_parts (t.read_number a b) o = around o (t.of_number (t.read_number a b)) (field_parts a o ++ term_parts b o)
  int_parts (t.add a b) o = around o (t.of_number (t.add a b)) (int_parts a o ++ int_parts b o)
  int_parts (t.sub a b) o = around o (t.of_number (t.sub a b)) (int_parts a o ++ int_parts b o)
  int_parts (t.neg a) o = around o (t.of_number (t.neg a)) (int_parts a o)
  int_parts (t.scale z a) o = around o (t.of_number (t.scale z a)) (int_parts a o)
  int_parts (t.card a) o = around o (t.of_number (t.card a)) (set_parts a o)

  pub set_parts : SetTree → Order → List ValueTree
  set_parts (t.free_set x) o = around o (t.of_set (t.free_set x)) []
  set_parts (t.read_set a b) o = around o (t.of_set (t.read_set a b)) (field_parts a o ++ term_parts b o)
  set_parts t.empty o = around o (t.of_set t.empty) []
  set_parts t.univ o = around o (t.of_set t.univ) []
  set_parts (t.single a) o = around o (t.of_set (t.single a)) (term_parts a o)
  set_parts (t.union a b) o = around o (t.of_set (t.union a b)) (set_parts a o ++ set_parts b o)
  set_parts (t.inter a b) o = around o (t.of_set (t.inter a b)) (set_parts a o ++ set_parts b o)
  set_parts (t.diff a b) o = around o (t.of_set (t.diff a b)) (set_parts a o ++ set_parts b o)
  set_parts (t.compl a) o = around o (t.of_set (t.compl a)) (set_parts a o)
  set_parts (t.compr a) o = around o (t.of_set (t.compr a)) (formula_parts a o)

  pub field_parts : FieldTree → Order → List ValueTree
  field_parts (t.free_field x) o = around o (t.of_field (t.free_field x)) []
  field_parts (t.update a b c) o = around o (t.of_field (t.update a b c)) (field_parts a o ++ (term_parts b o ++ value_parts c o))

  pub value_parts : ValueTree → Order → List ValueTree
  value_parts (t.of_object a) o = term_parts a o
  value_parts (t.of_number a) o = int_parts a o
  value_parts (t.of_truth a) o = formula_parts a o
  value_parts (t.of_set a) o = set_parts a o
  value_parts (t.of_field a) o = field_parts a o

  pub formula_parts : FormulaTree → Order → List ValueTree
  formula_parts t.true_formula o = around o (t.of_truth t.true_formula) []
  formula_parts t.false_formula o = around o (t.of_truth t.false_formula) []
  formula_parts (t.free_truth x) o = around o (t.of_truth (t.free_truth x)) []
  formula_parts (t.read_truth a b) o = around o (t.of_truth (t.read_truth a b)) (field_parts a o ++ term_parts b o)
  formula_parts (t.negation a) o = around o (t.of_truth (t.negation a)) (formula_parts a o)
  formula_parts (t.and a b) o = around o (t.of_truth (t.and a b)) (formula_parts a o ++ formula_parts b o)
  formula_parts (t.or a b) o = around o (t.of_truth (t.or a b)) (formula_parts a o ++ formula_parts b o)
  formula_parts (t.implies a b) o = around o (t.of_truth (t.implies a b)) (formula_parts a o ++ formula_parts b o)
  formula_parts (t.iff a b) o = around o (t.of_truth (t.iff a b)) (formula_parts a o ++ formula_parts b o)
  formula_parts (t.all a) o = around o (t.of_truth (t.all a)) (formula_parts a o)
  formula_parts (t.ex a) o = around o (t.of_truth (t.ex a)) (formula_parts a o)
  formula_parts (t.eq_object a b) o = around o (t.of_truth (t.eq_object a b)) (term_parts a o ++ term_parts b o)
  formula_parts (t.eq_number a b) o = around o (t.of_truth (t.eq_number a b)) (int_parts a o ++ int_parts b o)
  formula_parts (t.eq_set a b) o = around o (t.of_truth (t.eq_set a b)) (set_parts a o ++ set_parts b o)
  formula_parts (t.less a b) o = around o (t.of_truth (t.less a b)) (int_parts a o ++ int_parts b o)
  formula_parts (t.less_equal a b) o = around o (t.of_truth (t.less_equal a b)) (int_parts a o ++ int_parts b o)
  formula_parts (t.divides z a) o = around o (t.of_truth (t.divides z a)) (int_parts a o)
  formula_parts (t.member a b) o = around o (t.of_truth (t.member a b)) (term_parts a o ++ set_parts b o)
  formula_parts (t.subset a b) o = around o (t.of_truth (t.subset a b)) (set_parts a o ++ set_parts b o)
  formula_parts (t.reach fs a b) o = around o (t.of_truth (t.reach fs a b)) (fields_parts fs o ++ (term_parts a o ++ term_parts b o))
  formula_parts (t.tree fs) o = around o (t.of_truth (t.tree fs)) (fields_parts fs o)
  formula_parts (t.mark k a) o = around o (t.of_truth (t.mark k a)) (formula_parts a o)

  pub fields_parts : FieldTrees → Order → List ValueTree
  fields_parts t.none o = []
  fields_parts (t.more f fs) o = field_parts f o ++ fields_parts fs o
