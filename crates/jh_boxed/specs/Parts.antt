-- The parts of a tree.
use Rattle.std.specs.Prelude.{ℤ}
use Rattle.jh_form.specs.declared.mark.Mark.{Mark}
use Rattle.jh_form.specs.Tree.{TermTree, IntTree, SetTree, FieldTree, ValueTree, FormulaTree, FieldTrees}
use Rattle.jh_form.specs.Tree as t

-- a field of a list
pub data Among : FieldTree → FieldTrees → Type 0 where
  first : (f : FieldTree) (fs : FieldTrees) → Among f (t.more f fs)
  later : (f g : FieldTree) (fs : FieldTrees) → Among f fs → Among f (t.more g fs)

-- a part that stands directly under a node
pub data IsChild : ValueTree → ValueTree → Type 0 where
  read_object-a : (a : FieldTree) (b : TermTree) → IsChild (t.of_field a) (t.of_object (t.read_object a b))
  read_object-b : (a : FieldTree) (b : TermTree) → IsChild (t.of_object b) (t.of_object (t.read_object a b))
  read_number-a : (a : FieldTree) (b : TermTree) → IsChild (t.of_field a) (t.of_number (t.read_number a b))
  read_number-b : (a : FieldTree) (b : TermTree) → IsChild (t.of_object b) (t.of_number (t.read_number a b))
  add-a : (a : IntTree) (b : IntTree) → IsChild (t.of_number a) (t.of_number (t.add a b))
  add-b : (a : IntTree) (b : IntTree) → IsChild (t.of_number b) (t.of_number (t.add a b))
  sub-a : (a : IntTree) (b : IntTree) → IsChild (t.of_number a) (t.of_number (t.sub a b))
  sub-b : (a : IntTree) (b : IntTree) → IsChild (t.of_number b) (t.of_number (t.sub a b))
  neg : (a : IntTree) → IsChild (t.of_number a) (t.of_number (t.neg a))
  scale : (z : ℤ) (a : IntTree) → IsChild (t.of_number a) (t.of_number (t.scale z a))
  card : (a : SetTree) → IsChild (t.of_set a) (t.of_number (t.card a))
  read_set-a : (a : FieldTree) (b : TermTree) → IsChild (t.of_field a) (t.of_set (t.read_set a b))
  read_set-b : (a : FieldTree) (b : TermTree) → IsChild (t.of_object b) (t.of_set (t.read_set a b))
  single : (a : TermTree) → IsChild (t.of_object a) (t.of_set (t.single a))
  union-a : (a : SetTree) (b : SetTree) → IsChild (t.of_set a) (t.of_set (t.union a b))
  union-b : (a : SetTree) (b : SetTree) → IsChild (t.of_set b) (t.of_set (t.union a b))
  inter-a : (a : SetTree) (b : SetTree) → IsChild (t.of_set a) (t.of_set (t.inter a b))
  inter-b : (a : SetTree) (b : SetTree) → IsChild (t.of_set b) (t.of_set (t.inter a b))
  diff-a : (a : SetTree) (b : SetTree) → IsChild (t.of_set a) (t.of_set (t.diff a b))
  diff-b : (a : SetTree) (b : SetTree) → IsChild (t.of_set b) (t.of_set (t.diff a b))
  compl : (a : SetTree) → IsChild (t.of_set a) (t.of_set (t.compl a))
  compr : (a : FormulaTree) → IsChild (t.of_truth a) (t.of_set (t.compr a))
  update-a : (a : FieldTree) (b : TermTree) (c : ValueTree) → IsChild (t.of_field a) (t.of_field (t.update a b c))
  update-b : (a : FieldTree) (b : TermTree) (c : ValueTree) → IsChild (t.of_object b) (t.of_field (t.update a b c))
  update-c : (a : FieldTree) (b : TermTree) (c : ValueTree) → IsChild c (t.of_field (t.update a b c))
  read_truth-a : (a : FieldTree) (b : TermTree) → IsChild (t.of_field a) (t.of_truth (t.read_truth a b))
  read_truth-b : (a : FieldTree) (b : TermTree) → IsChild (t.of_object b) (t.of_truth (t.read_truth a b))
  negation : (a : FormulaTree) → IsChild (t.of_truth a) (t.of_truth (t.negation a))
  and-a : (a : FormulaTree) (b : FormulaTree) → IsChild (t.of_truth a) (t.of_truth (t.and a b))
  and-b : (a : FormulaTree) (b : FormulaTree) → IsChild (t.of_truth b) (t.of_truth (t.and a b))
  or-a : (a : FormulaTree) (b : FormulaTree) → IsChild (t.of_truth a) (t.of_truth (t.or a b))
  or-b : (a : FormulaTree) (b : FormulaTree) → IsChild (t.of_truth b) (t.of_truth (t.or a b))
  implies-a : (a : FormulaTree) (b : FormulaTree) → IsChild (t.of_truth a) (t.of_truth (t.implies a b))
  implies-b : (a : FormulaTree) (b : FormulaTree) → IsChild (t.of_truth b) (t.of_truth (t.implies a b))
  iff-a : (a : FormulaTree) (b : FormulaTree) → IsChild (t.of_truth a) (t.of_truth (t.iff a b))
  iff-b : (a : FormulaTree) (b : FormulaTree) → IsChild (t.of_truth b) (t.of_truth (t.iff a b))
  all : (a : FormulaTree) → IsChild (t.of_truth a) (t.of_truth (t.all a))
  ex : (a : FormulaTree) → IsChild (t.of_truth a) (t.of_truth (t.ex a))
  eq_object-a : (a : TermTree) (b : TermTree) → IsChild (t.of_object a) (t.of_truth (t.eq_object a b))
  eq_object-b : (a : TermTree) (b : TermTree) → IsChild (t.of_object b) (t.of_truth (t.eq_object a b))
  eq_number-a : (a : IntTree) (b : IntTree) → IsChild (t.of_number a) (t.of_truth (t.eq_number a b))
  eq_number-b : (a : IntTree) (b : IntTree) → IsChild (t.of_number b) (t.of_truth (t.eq_number a b))
  eq_set-a : (a : SetTree) (b : SetTree) → IsChild (t.of_set a) (t.of_truth (t.eq_set a b))
  eq_set-b : (a : SetTree) (b : SetTree) → IsChild (t.of_set b) (t.of_truth (t.eq_set a b))
  less-a : (a : IntTree) (b : IntTree) → IsChild (t.of_number a) (t.of_truth (t.less a b))
  less-b : (a : IntTree) (b : IntTree) → IsChild (t.of_number b) (t.of_truth (t.less a b))
  less_equal-a : (a : IntTree) (b : IntTree) → IsChild (t.of_number a) (t.of_truth (t.less_equal a b))
  less_equal-b : (a : IntTree) (b : IntTree) → IsChild (t.of_number b) (t.of_truth (t.less_equal a b))
  divides : (z : ℤ) (a : IntTree) → IsChild (t.of_number a) (t.of_truth (t.divides z a))
  member-a : (a : TermTree) (b : SetTree) → IsChild (t.of_object a) (t.of_truth (t.member a b))
  member-b : (a : TermTree) (b : SetTree) → IsChild (t.of_set b) (t.of_truth (t.member a b))
  subset-a : (a : SetTree) (b : SetTree) → IsChild (t.of_set a) (t.of_truth (t.subset a b))
  subset-b : (a : SetTree) (b : SetTree) → IsChild (t.of_set b) (t.of_truth (t.subset a b))
  reach-field : (f : FieldTree) (fs : FieldTrees) (a : TermTree) (b : TermTree) → Among f fs → IsChild (t.of_field f) (t.of_truth (t.reach fs a b))
  reach-a : (fs : FieldTrees) (a : TermTree) (b : TermTree) → IsChild (t.of_object a) (t.of_truth (t.reach fs a b))
  reach-b : (fs : FieldTrees) (a : TermTree) (b : TermTree) → IsChild (t.of_object b) (t.of_truth (t.reach fs a b))
  tree-field : (f : FieldTree) (fs : FieldTrees) → Among f fs → IsChild (t.of_field f) (t.of_truth (t.tree fs))
  mark : (k : Mark) (a : FormulaTree) → IsChild (t.of_truth a) (t.of_truth (t.mark k a))

-- a part of a tree, at any depth
pub data IsPart : ValueTree → ValueTree → Type 0 where
  child : (a b : ValueTree) → IsChild a b → IsPart a b
  within : (a b c : ValueTree) → IsPart a b → IsChild b c → IsPart a c
