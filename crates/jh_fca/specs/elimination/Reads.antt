-- Where a formula reads a field.
use Rattle.std.specs.Prelude.{Bool, false, if◌then◌else◌, List, [], ◌∷◌, ◌++◌}
use Rattle.std.specs.List.{list_any, flat_map}
use Rattle.jh_name.specs.declared.naming.Name.{Name}
use Rattle.jh_form.specs.Tree.{TermTree, IntTree, SetTree, FieldTree, ValueTree, FormulaTree, FieldTrees}
use Rattle.jh_form.specs.Tree as t
use Rattle.jh_boxed.specs.Mapped.{mapped_term}
use Rattle.jh_boxed_operations.specs.comparison.Exchanged.{equal_trees}
use Rattle.jh_normal_forms.specs.declared.parts.order.Order.TheVariants as order
use Rattle.jh_normal_forms.specs.parts.Standing.{formula_parts}
use Rattle.jh_substitution.specs.simultaneous.Lifted.{lifting}
use Rattle.jh_substitution.specs.instantiation.Putting.{putting}
use Rattle.jh_fca.specs.elimination.Constraints.{is_name}

-- ---- reads at any kind

unfoldable pub is_read : Name → ValueTree → Bool
is_read f (t.of_object (t.read_object g a)) = is_name f g
is_read f (t.of_number (t.read_number g a)) = is_name f g
is_read f (t.of_truth (t.read_truth g a)) = is_name f g
is_read f (t.of_set (t.read_set g a)) = is_name f g
is_read f v = false

-- whether a formula, or a part of it, reads the field
unfoldable pub holds_read : Name → FormulaTree → Bool
holds_read f a = list_any (is_read f) (formula_parts a order.InnerFirst)

-- ---- reads of objects

-- a term without the variable of the binder round it: the numbers of the other variables fall by one
abbrev pub fallen : TermTree → TermTree
fallen a = mapped_term a (putting t.null) 0

-- The term as it is outside the binder round it; there is none where it speaks of the binder's variable.
unfoldable pub outside : TermTree → List TermTree
outside a = if equal_trees (t.of_object (mapped_term (fallen a) (lifting 1) 0)) (t.of_object a) then fallen a ∷ [] else []

-- The terms t of the reads f(t) of objects in a tree, in the order in which they stand, those inside a read before the read itself.
-- What speaks of a variable that is bound inside the tree is left out. For example those of `f (f a) = b` are a and `f a`, and
-- the one of `x : {v. f v = f x}` is x.
unfoldable mutual
  pub term_reads : TermTree → Name → List TermTree
  term_reads (t.bound k) f = []
  term_reads (t.free_object x) f = []
  term_reads t.null f = []
  term_reads (t.read_object a b) f = field_reads a f ++ (term_reads b f ++ (if is_name f a then b ∷ [] else []))

  pub int_reads : IntTree → Name → List TermTree
  int_reads (t.const z) f = []
  int_reads (t.free_number x) f = []
  int_reads (t.read_number a b) f = field_reads a f ++ term_reads b f
  int_reads (t.add a b) f = int_reads a f ++ int_reads b f
  int_reads (t.sub a b) f = int_reads a f ++ int_reads b f
  int_reads (t.neg a) f = int_reads a f
  int_reads (t.scale z a) f = int_reads a f
  int_reads (t.card a) f = set_reads a f

  pub set_reads : SetTree → Name → List TermTree
  set_reads (t.free_set x) f = []
  set_reads (t.read_set a b) f = field_reads a f ++ term_reads b f
  set_reads t.empty f = []
  set_reads t.univ f = []
  set_reads (t.single a) f = term_reads a f
  set_reads (t.union a b) f = set_reads a f ++ set_reads b f
  set_reads (t.inter a b) f = set_reads a f ++ set_reads b f
  set_reads (t.diff a b) f = set_reads a f ++ set_reads b f
  set_reads (t.compl a) f = set_reads a f
  set_reads (t.compr a) f = flat_map outside (formula_reads a f)

  pub field_reads : FieldTree → Name → List TermTree
  field_reads (t.free_field x) f = []
  field_reads (t.update a b c) f = field_reads a f ++ (term_reads b f ++ value_reads c f)

  pub value_reads : ValueTree → Name → List TermTree
  value_reads (t.of_object a) f = term_reads a f
  value_reads (t.of_number a) f = int_reads a f
  value_reads (t.of_truth a) f = formula_reads a f
  value_reads (t.of_set a) f = set_reads a f
  value_reads (t.of_field a) f = field_reads a f

  pub formula_reads : FormulaTree → Name → List TermTree
  formula_reads t.true_formula f = []
  formula_reads t.false_formula f = []
  formula_reads (t.free_truth x) f = []
  formula_reads (t.read_truth a b) f = field_reads a f ++ term_reads b f
  formula_reads (t.negation a) f = formula_reads a f
  formula_reads (t.and a b) f = formula_reads a f ++ formula_reads b f
  formula_reads (t.or a b) f = formula_reads a f ++ formula_reads b f
  formula_reads (t.implies a b) f = formula_reads a f ++ formula_reads b f
  formula_reads (t.iff a b) f = formula_reads a f ++ formula_reads b f
  formula_reads (t.all a) f = flat_map outside (formula_reads a f)
  formula_reads (t.ex a) f = flat_map outside (formula_reads a f)
  formula_reads (t.eq_object a b) f = term_reads a f ++ term_reads b f
  formula_reads (t.eq_number a b) f = int_reads a f ++ int_reads b f
  formula_reads (t.eq_set a b) f = set_reads a f ++ set_reads b f
  formula_reads (t.less a b) f = int_reads a f ++ int_reads b f
  formula_reads (t.less_equal a b) f = int_reads a f ++ int_reads b f
  formula_reads (t.divides z a) f = int_reads a f
  formula_reads (t.member a b) f = term_reads a f ++ set_reads b f
  formula_reads (t.subset a b) f = set_reads a f ++ set_reads b f
  formula_reads (t.reach a b c) f = fields_reads a f ++ (term_reads b f ++ term_reads c f)
  formula_reads (t.tree a) f = fields_reads a f
  formula_reads (t.mark m a) f = formula_reads a f

  pub fields_reads : FieldTrees → Name → List TermTree
  fields_reads t.none f = []
  fields_reads (t.more a b) f = field_reads a f ++ fields_reads b f
