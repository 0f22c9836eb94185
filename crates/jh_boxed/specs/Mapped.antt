-- A tree with each leaf exchanged for what a map of leaves gives for it.
use Rattle.std.specs.Prelude.{ℕ, ◌+◌}
use Rattle.jh_name.specs.declared.naming.Name.{Name}
use Rattle.jh_form.specs.Tree.{TermTree, IntTree, SetTree, FieldTree, ValueTree, FormulaTree, FieldTrees}
use Rattle.jh_form.specs.Tree as t

-- What stands for each leaf, at the number of binders that were passed on the way to it.
pub record LeafMap : Type 0 where
  pub object_at : Name → ℕ → TermTree
  pub number_at : Name → ℕ → IntTree
  pub truth_at : Name → ℕ → FormulaTree
  pub set_at : Name → ℕ → SetTree
  pub field_at : Name → ℕ → FieldTree
  pub bound_at : ℕ → ℕ → TermTree

unfoldable mutual
  pub mapped_term : TermTree → LeafMap → ℕ → TermTree
  mapped_term (t.bound k) l d = l.bound_at k d
  mapped_term (t.free_object x) l d = l.object_at x d
  mapped_term t.null l d = t.null
  mapped_term (t.read_object a b) l d = t.read_object (mapped_field a l d) (mapped_term b l d)

  pub mapped_int : IntTree → LeafMap → ℕ → IntTree
  mapped_int (t.const z) l d = t.const z
  mapped_int (t.free_number x) l d = l.number_at x d
  mapped_int (t.read_number a b) l d = t.read_number (mapped_field a l d) (mapped_term b l d)
  mapped_int (t.add a b) l d = t.add (mapped_int a l d) (mapped_int b l d)
  mapped_int (t.sub a b) l d = t.sub (mapped_int a l d) (mapped_int b l d)
  mapped_int (t.neg a) l d = t.neg (mapped_int a l d)
  mapped_int (t.scale z a) l d = t.scale z (mapped_int a l d)
  mapped_int (t.card a) l d = t.card (mapped_set a l d)

  pub mapped_set : SetTree → LeafMap → ℕ → SetTree
  mapped_set (t.free_set x) l d = l.set_at x d
  mapped_set (t.read_set a b) l d = t.read_set (mapped_field a l d) (mapped_term b l d)
  mapped_set t.empty l d = t.empty
  mapped_set t.univ l d = t.univ
  mapped_set (t.single a) l d = t.single (mapped_term a l d)
  mapped_set (t.union a b) l d = t.union (mapped_set a l d) (mapped_set b l d)
  mapped_set (t.inter a b) l d = t.inter (mapped_set a l d) (mapped_set b l d)
  mapped_set (t.diff a b) l d = t.diff (mapped_set a l d) (mapped_set b l d)
  mapped_set (t.compl a) l d = t.compl (mapped_set a l d)
  mapped_set (t.compr a) l d = t.compr (mapped_formula a l (d + 1))

  pub mapped_field : FieldTree → LeafMap → ℕ → FieldTree
  mapped_field (t.free_field x) l d = l.field_at x d
  mapped_field (t.update a b c) l d = t.update (mapped_field a l d) (mapped_term b l d) (mapped_value c l d)

  pub mapped_value : ValueTree → LeafMap → ℕ → ValueTree
  mapped_value (t.of_object a) l d = t.of_object (mapped_term a l d)
  mapped_value (t.of_number a) l d = t.of_number (mapped_int a l d)
  mapped_value (t.of_truth a) l d = t.of_truth (mapped_formula a l d)
  mapped_value (t.of_set a) l d = t.of_set (mapped_set a l d)
  mapped_value (t.of_field a) l d = t.of_field (mapped_field a l d)

  pub mapped_formula : FormulaTree → LeafMap → ℕ → FormulaTree
  mapped_formula t.true_formula l d = t.true_formula
  mapped_formula t.false_formula l d = t.false_formula
  mapped_formula (t.free_truth x) l d = l.truth_at x d
  mapped_formula (t.read_truth a b) l d = t.read_truth (mapped_field a l d) (mapped_term b l d)
  mapped_formula (t.negation a) l d = t.negation (mapped_formula a l d)
  mapped_formula (t.and a b) l d = t.and (mapped_formula a l d) (mapped_formula b l d)
  mapped_formula (t.or a b) l d = t.or (mapped_formula a l d) (mapped_formula b l d)
  mapped_formula (t.implies a b) l d = t.implies (mapped_formula a l d) (mapped_formula b l d)
  mapped_formula (t.iff a b) l d = t.iff (mapped_formula a l d) (mapped_formula b l d)
  mapped_formula (t.all a) l d = t.all (mapped_formula a l (d + 1))
  mapped_formula (t.ex a) l d = t.ex (mapped_formula a l (d + 1))
  mapped_formula (t.eq_object a b) l d = t.eq_object (mapped_term a l d) (mapped_term b l d)
  mapped_formula (t.eq_number a b) l d = t.eq_number (mapped_int a l d) (mapped_int b l d)
  mapped_formula (t.eq_set a b) l d = t.eq_set (mapped_set a l d) (mapped_set b l d)
  mapped_formula (t.less a b) l d = t.less (mapped_int a l d) (mapped_int b l d)
  mapped_formula (t.less_equal a b) l d = t.less_equal (mapped_int a l d) (mapped_int b l d)
  mapped_formula (t.divides z a) l d = t.divides z (mapped_int a l d)
  mapped_formula (t.member a b) l d = t.member (mapped_term a l d) (mapped_set b l d)
  mapped_formula (t.subset a b) l d = t.subset (mapped_set a l d) (mapped_set b l d)
  mapped_formula (t.reach fs a b) l d = t.reach (mapped_fields fs l d) (mapped_term a l d) (mapped_term b l d)
  mapped_formula (t.tree fs) l d = t.tree (mapped_fields fs l d)
  mapped_formula (t.mark k a) l d = t.mark k (mapped_formula a l d)

  pub mapped_fields : FieldTrees → LeafMap → ℕ → FieldTrees
  mapped_fields t.none l d = t.none
  mapped_fields (t.more f fs) l d = t.more (mapped_field f l d) (mapped_fields fs l d)

-- the leaves that change nothing
abbrev pub unchanged : LeafMap
unchanged = record {
  object_at = λ x d. t.free_object x;
  number_at = λ x d. t.free_number x;
  truth_at = λ x d. t.free_truth x;
  set_at = λ x d. t.free_set x;
  field_at = λ x d. t.free_field x;
  bound_at = λ k d. t.bound k;
}
