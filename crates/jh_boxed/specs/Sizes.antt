-- The number of nodes of a tree, and how deep it nests. A value is no node of its own.
use Rattle.std.specs.Prelude.{ℕ, ◌+◌, max}
use Rattle.jh_form.specs.Tree.{TermTree, IntTree, SetTree, FieldTree, ValueTree, FormulaTree, FieldTrees}
use Rattle.jh_form.specs.Tree as t

unfoldable mutual
  pub term_size : TermTree → ℕ
  term_size (t.bound k) = 1
  term_size (t.free_object x) = 1
  term_size t.null = 1
  term_size (t.read_object a b) = 1 + field_size a + term_size b

  pub int_size : IntTree → ℕ
  int_size (t.const z) = 1
  int_size (t.free_number x) = 1
  int_size (t.read_number a b) = 1 + field_size a + term_size b
  int_size (t.add a b) = 1 + int_size a + int_size b
  int_size (t.sub a b) = 1 + int_size a + int_size b
  int_size (t.neg a) = 1 + int_size a
  int_size (t.scale z a) = 1 + int_size a
  int_size (t.card a) = 1 + set_size a

  pub set_size : SetTree → ℕ
  set_size (t.free_set x) = 1
  set_size (t.read_set a b) = 1 + field_size a + term_size b
  set_size t.empty = 1
  set_size t.univ = 1
  set_size (t.single a) = 1 + term_size a
  set_size (t.union a b) = 1 + set_size a + set_size b
  set_size (t.inter a b) = 1 + set_size a + set_size b
  set_size (t.diff a b) = 1 + set_size a + set_size b
  set_size (t.compl a) = 1 + set_size a
  set_size (t.compr a) = 1 + formula_size a

  pub field_size : FieldTree → ℕ
  field_size (t.free_field x) = 1
  field_size (t.update a b c) = 1 + field_size a + term_size b + value_size c

  pub value_size : ValueTree → ℕ
  value_size (t.of_object a) = term_size a
  value_size (t.of_number a) = int_size a
  value_size (t.of_truth a) = formula_size a
  value_size (t.of_set a) = set_size a
  value_size (t.of_field a) = field_size a

  pub formula_size : FormulaTree → ℕ
  formula_size t.true_formula = 1
  formula_size t.false_formula = 1
  formula_size (t.free_truth x) = 1
  formula_size (t.read_truth a b) = 1 + field_size a + term_size b
  formula_size (t.negation a) = 1 + formula_size a
  formula_size (t.and a b) = 1 + formula_size a + formula_size b
  formula_size (t.or a b) = 1 + formula_size a + formula_size b
  formula_size (t.implies a b) = 1 + formula_size a + formula_size b
  formula_size (t.iff a b) = 1 + formula_size a + formula_size b
  formula_size (t.all a) = 1 + formula_size a
  formula_size (t.ex a) = 1 + formula_size a
  formula_size (t.eq_object a b) = 1 + term_size a + term_size b
  formula_size (t.eq_number a b) = 1 + int_size a + int_size b
  formula_size (t.eq_set a b) = 1 + set_size a + set_size b
  formula_size (t.less a b) = 1 + int_size a + int_size b
  formula_size (t.less_equal a b) = 1 + int_size a + int_size b
  formula_size (t.divides z a) = 1 + int_size a
  formula_size (t.member a b) = 1 + term_size a + set_size b
  formula_size (t.subset a b) = 1 + set_size a + set_size b
  formula_size (t.reach fs a b) = 1 + fields_size fs + term_size a + term_size b
  formula_size (t.tree fs) = 1 + fields_size fs
  formula_size (t.mark k a) = 1 + formula_size a

  pub fields_size : FieldTrees → ℕ
  fields_size t.none = 0
  fields_size (t.more f fs) = field_size f + fields_size fs

-- the nodes on the longest way down
unfoldable mutual
  pub term_depth : TermTree → ℕ
  term_depth (t.bound k) = 1
  term_depth (t.free_object x) = 1
  term_depth t.null = 1
  term_depth (t.read_object a b) = 1 + max (field_depth a) (term_depth b)

  pub int_depth : IntTree → ℕ
  int_depth (t.const z) = 1
  int_depth (t.free_number x) = 1
  int_depth (t.read_number a b) = 1 + max (field_depth a) (term_depth b)
  int_depth (t.add a b) = 1 + max (int_depth a) (int_depth b)
  int_depth (t.sub a b) = 1 + max (int_depth a) (int_depth b)
  int_depth (t.neg a) = 1 + int_depth a
  int_depth (t.scale z a) = 1 + int_depth a
  int_depth (t.card a) = 1 + set_depth a

  pub set_depth : SetTree → ℕ
  set_depth (t.free_set x) = 1
  set_depth (t.read_set a b) = 1 + max (field_depth a) (term_depth b)
  set_depth t.empty = 1
  set_depth t.univ = 1
  set_depth (t.single a) = 1 + term_depth a
  set_depth (t.union a b) = 1 + max (set_depth a) (set_depth b)
  set_depth (t.inter a b) = 1 + max (set_depth a) (set_depth b)
  set_depth (t.diff a b) = 1 + max (set_depth a) (set_depth b)
  set_depth (t.compl a) = 1 + set_depth a
  set_depth (t.compr a) = 1 + formula_depth a

  pub field_depth : FieldTree → ℕ
  field_depth (t.free_field x) = 1
  field_depth (t.update a b c) = 1 + max (field_depth a) (max (term_depth b) (value_depth c))

  pub value_depth : ValueTree → ℕ
  value_depth (t.of_object a) = term_depth a
  value_depth (t.of_number a) = int_depth a
  value_depth (t.of_truth a) = formula_depth a
  value_depth (t.of_set a) = set_depth a
  value_depth (t.of_field a) = field_depth a

  pub formula_depth : FormulaTree → ℕ
  formula_depth t.true_formula = 1
  formula_depth t.false_formula = 1
  formula_depth (t.free_truth x) = 1
  formula_depth (t.read_truth a b) = 1 + max (field_depth a) (term_depth b)
  formula_depth (t.negation a) = 1 + formula_depth a
  formula_depth (t.and a b) = 1 + max (formula_depth a) (formula_depth b)
  formula_depth (t.or a b) = 1 + max (formula_depth a) (formula_depth b)
  formula_depth (t.implies a b) = 1 + max (formula_depth a) (formula_depth b)
  formula_depth (t.iff a b) = 1 + max (formula_depth a) (formula_depth b)
  formula_depth (t.all a) = 1 + formula_depth a
  formula_depth (t.ex a) = 1 + formula_depth a
  formula_depth (t.eq_object a b) = 1 + max (term_depth a) (term_depth b)
  formula_depth (t.eq_number a b) = 1 + max (int_depth a) (int_depth b)
  formula_depth (t.eq_set a b) = 1 + max (set_depth a) (set_depth b)
  formula_depth (t.less a b) = 1 + max (int_depth a) (int_depth b)
  formula_depth (t.less_equal a b) = 1 + max (int_depth a) (int_depth b)
  formula_depth (t.divides z a) = 1 + int_depth a
  formula_depth (t.member a b) = 1 + max (term_depth a) (set_depth b)
  formula_depth (t.subset a b) = 1 + max (set_depth a) (set_depth b)
  formula_depth (t.reach fs a b) = 1 + max (fields_depth fs) (max (term_depth a) (term_depth b))
  formula_depth (t.tree fs) = 1 + fields_depth fs
  formula_depth (t.mark k a) = 1 + formula_depth a

  pub fields_depth : FieldTrees → ℕ
  fields_depth t.none = 0
  fields_depth (t.more f fs) = max (field_depth f) (fields_depth fs)
