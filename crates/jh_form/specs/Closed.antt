-- Trees without loose bound variables.
use Rattle.std.specs.Prelude.{ℕ, ◌+◌, nat_lt, Bool, true, ◌&&◌}
use Rattle.jh_form.specs.Tree.{TermTree, IntTree, SetTree, FieldTree, ValueTree, FormulaTree, FieldTrees}
use Rattle.jh_form.specs.Tree as t

-- Each bound variable belongs to a binder of the tree, or to one of d binders around it.
unfoldable mutual
  pub is_closed_term : TermTree → ℕ → Bool
  is_closed_term (t.bound k) d = nat_lt k d
  is_closed_term (t.free_object x) d = true
  is_closed_term t.null d = true
  is_closed_term (t.read_object a b) d = is_closed_field a d && is_closed_term b d

  pub is_closed_int : IntTree → ℕ → Bool
  is_closed_int (t.const z) d = true
  is_closed_int (t.free_number x) d = true
  is_closed_int (t.read_number a b) d = is_closed_field a d && is_closed_term b d
  is_closed_int (t.add a b) d = is_closed_int a d && is_closed_int b d
  is_closed_int (t.sub a b) d = is_closed_int a d && is_closed_int b d
  is_closed_int (t.neg a) d = is_closed_int a d
  is_closed_int (t.scale z a) d = is_closed_int a d
  is_closed_int (t.card a) d = is_closed_set a d

  pub is_closed_set : SetTree → ℕ → Bool
  is_closed_set (t.free_set x) d = true
  is_closed_set (t.read_set a b) d = is_closed_field a d && is_closed_term b d
  is_closed_set t.empty d = true
  is_closed_set t.univ d = true
  is_closed_set (t.single a) d = is_closed_term a d
  is_closed_set (t.union a b) d = is_closed_set a d && is_closed_set b d
  is_closed_set (t.inter a b) d = is_closed_set a d && is_closed_set b d
  is_closed_set (t.diff a b) d = is_closed_set a d && is_closed_set b d
  is_closed_set (t.compl a) d = is_closed_set a d
  is_closed_set (t.compr a) d = is_closed_formula a (d + 1)

  pub is_closed_field : FieldTree → ℕ → Bool
  is_closed_field (t.free_field x) d = true
  is_closed_field (t.update a b c) d = is_closed_field a d && is_closed_term b d && is_closed_value c d

  pub is_closed_value : ValueTree → ℕ → Bool
  is_closed_value (t.of_object a) d = is_closed_term a d
  is_closed_value (t.of_number a) d = is_closed_int a d
  is_closed_value (t.of_truth a) d = is_closed_formula a d
  is_closed_value (t.of_set a) d = is_closed_set a d
  is_closed_value (t.of_field a) d = is_closed_field a d

  pub is_closed_formula : FormulaTree → ℕ → Bool
  is_closed_formula t.true_formula d = true
  is_closed_formula t.false_formula d = true
  is_closed_formula (t.free_truth x) d = true
  is_closed_formula (t.read_truth a b) d = is_closed_field a d && is_closed_term b d
  is_closed_formula (t.negation a) d = is_closed_formula a d
  is_closed_formula (t.and a b) d = is_closed_formula a d && is_closed_formula b d
  is_closed_formula (t.or a b) d = is_closed_formula a d && is_closed_formula b d
  is_closed_formula (t.implies a b) d = is_closed_formula a d && is_closed_formula b d
  is_closed_formula (t.iff a b) d = is_closed_formula a d && is_closed_formula b d
  is_closed_formula (t.all a) d = is_closed_formula a (d + 1)
  is_closed_formula (t.ex a) d = is_closed_formula a (d + 1)
  is_closed_formula (t.eq_object a b) d = is_closed_term a d && is_closed_term b d
  is_closed_formula (t.eq_number a b) d = is_closed_int a d && is_closed_int b d
  is_closed_formula (t.eq_set a b) d = is_closed_set a d && is_closed_set b d
  is_closed_formula (t.less a b) d = is_closed_int a d && is_closed_int b d
  is_closed_formula (t.less_equal a b) d = is_closed_int a d && is_closed_int b d
  is_closed_formula (t.divides z a) d = is_closed_int a d
  is_closed_formula (t.member a b) d = is_closed_term a d && is_closed_set b d
  is_closed_formula (t.subset a b) d = is_closed_set a d && is_closed_set b d
  is_closed_formula (t.reach fs a b) d = is_closed_fields fs d && is_closed_term a d && is_closed_term b d
  is_closed_formula (t.tree fs) d = is_closed_fields fs d
  is_closed_formula (t.mark k a) d = is_closed_formula a d

  pub is_closed_fields : FieldTrees → ℕ → Bool
  is_closed_fields t.none d = true
  is_closed_fields (t.more f fs) d = is_closed_field f d && is_closed_fields fs d
