-- Written by tools/enter.py.
-- What the arms of entering cite, for each sort.
use Rattle.jh_form.proofs.Steps.{term_tree-Bound, term_tree-Free, term_tree-Null, term_tree-Read, int_tree-Const, int_tree-Free, int_tree-Read, int_tree-Add, int_tree-Sub, int_tree-Neg, int_tree-Scale, int_tree-Card, set_tree-Free, set_tree-Read, set_tree-Empty, set_tree-Univ, set_tree-Single, set_tree-Union, set_tree-Inter, set_tree-Diff, set_tree-Compl, set_tree-Compr, field_tree-Free, field_tree-Update, formula_tree-True, formula_tree-False, formula_tree-Free, formula_tree-Read, formula_tree-Not, formula_tree-And, formula_tree-Or, formula_tree-Implies, formula_tree-Iff, formula_tree-All, formula_tree-Ex, formula_tree-EqObj, formula_tree-EqInt, formula_tree-EqSet, formula_tree-Less, formula_tree-LessEq, formula_tree-Divides, formula_tree-Member, formula_tree-Subset, formula_tree-Reach, formula_tree-Tree, formula_tree-Mark, value_tree-Obj, value_tree-Int, value_tree-Bool, value_tree-Set, value_tree-Field}
use Rattle.jh_arena.proofs.table.NodeSteps.{fits-Bound, tree-Bound, fits-FreeObject, tree-FreeObject, fits-Null, tree-Null, fits-ReadObject, tree-ReadObject, fits-Const, tree-Const, fits-FreeNumber, tree-FreeNumber, fits-ReadNumber, tree-ReadNumber, fits-Add, tree-Add, fits-Sub, tree-Sub, fits-Neg, tree-Neg, fits-Scale, tree-Scale, fits-Card, tree-Card, fits-FreeSet, tree-FreeSet, fits-ReadSet, tree-ReadSet, fits-Empty, tree-Empty, fits-Univ, tree-Univ, fits-Single, tree-Single, fits-Union, tree-Union, fits-Inter, tree-Inter, fits-Diff, tree-Diff, fits-Compl, tree-Compl, fits-Compr, tree-Compr, fits-FreeField, tree-FreeField, fits-Update, tree-Update, fits-True, tree-True, fits-False, tree-False, fits-FreeTruth, tree-FreeTruth, fits-ReadTruth, tree-ReadTruth, fits-Negation, tree-Negation, fits-And, tree-And, fits-Or, tree-Or, fits-Implies, tree-Implies, fits-Iff, tree-Iff, fits-All, tree-All, fits-Ex, tree-Ex, fits-EqObject, tree-EqObject, fits-EqNumber, tree-EqNumber, fits-EqSet, tree-EqSet, fits-Less, tree-Less, fits-LessEqual, tree-LessEqual, fits-Divides, tree-Divides, fits-Member, tree-Member, fits-Subset, tree-Subset, fits-Mark, tree-Mark}
use Rattle.jh_arena.proofs.table.Listed.{node-stays, extends-trans}
use Rattle.jh_import.proofs.entering.Fields.{fits-listed-Reach, tree-listed-Reach, fits-listed-Tree, tree-listed-Tree}

pub ruleset object_steps = (term_tree-Bound, fits-Bound, tree-Bound, term_tree-Free, fits-FreeObject, tree-FreeObject, term_tree-Null, fits-Null, tree-Null, term_tree-Read, fits-ReadObject, tree-ReadObject, node-stays, extends-trans)

pub ruleset number_steps = (int_tree-Const, fits-Const, tree-Const, int_tree-Free, fits-FreeNumber, tree-FreeNumber, int_tree-Read, fits-ReadNumber, tree-ReadNumber, int_tree-Add, fits-Add, tree-Add, int_tree-Sub, fits-Sub, tree-Sub, int_tree-Neg, fits-Neg, tree-Neg, int_tree-Scale, fits-Scale, tree-Scale, int_tree-Card, fits-Card, tree-Card, node-stays, extends-trans)

pub ruleset set_steps = (set_tree-Free, fits-FreeSet, tree-FreeSet, set_tree-Read, fits-ReadSet, tree-ReadSet, set_tree-Empty, fits-Empty, tree-Empty, set_tree-Univ, fits-Univ, tree-Univ, set_tree-Single, fits-Single, tree-Single, set_tree-Union, fits-Union, tree-Union, set_tree-Inter, fits-Inter, tree-Inter, set_tree-Diff, fits-Diff, tree-Diff, set_tree-Compl, fits-Compl, tree-Compl, set_tree-Compr, fits-Compr, tree-Compr, node-stays, extends-trans)

pub ruleset field_steps = (field_tree-Free, fits-FreeField, tree-FreeField, field_tree-Update, fits-Update, tree-Update, node-stays, extends-trans)

pub ruleset truth_steps = (formula_tree-True, fits-True, tree-True, formula_tree-False, fits-False, tree-False, formula_tree-Free, fits-FreeTruth, tree-FreeTruth, formula_tree-Read, fits-ReadTruth, tree-ReadTruth, formula_tree-Not, fits-Negation, tree-Negation, formula_tree-And, fits-And, tree-And, formula_tree-Or, fits-Or, tree-Or, formula_tree-Implies, fits-Implies, tree-Implies, formula_tree-Iff, fits-Iff, tree-Iff, formula_tree-All, fits-All, tree-All, formula_tree-Ex, fits-Ex, tree-Ex, formula_tree-EqObj, fits-EqObject, tree-EqObject, formula_tree-EqInt, fits-EqNumber, tree-EqNumber, formula_tree-EqSet, fits-EqSet, tree-EqSet, formula_tree-Less, fits-Less, tree-Less, formula_tree-LessEq, fits-LessEqual, tree-LessEqual, formula_tree-Divides, fits-Divides, tree-Divides, formula_tree-Member, fits-Member, tree-Member, formula_tree-Subset, fits-Subset, tree-Subset, formula_tree-Reach, formula_tree-Tree, formula_tree-Mark, fits-Mark, tree-Mark, fits-listed-Reach, tree-listed-Reach, fits-listed-Tree, tree-listed-Tree, node-stays, extends-trans)

pub ruleset value_steps = (value_tree-Obj, value_tree-Int, value_tree-Bool, value_tree-Set, value_tree-Field, node-stays, extends-trans)

pub ruleset list_steps = (node-stays, extends-trans)
