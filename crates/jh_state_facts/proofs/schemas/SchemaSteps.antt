-- What the arms of the code cite.
use Rattle.jh_arena.proofs.table.NodeSteps.{fits-Bound, tree-Bound, fits-Null, tree-Null, fits-FreeObject, tree-FreeObject, fits-ReadObject, tree-ReadObject, fits-Const, tree-Const, fits-FreeNumber, tree-FreeNumber, fits-ReadNumber, tree-ReadNumber, fits-FreeSet, tree-FreeSet, fits-ReadSet, tree-ReadSet, fits-Empty, tree-Empty, fits-Inter, tree-Inter, fits-FreeField, tree-FreeField, fits-FreeTruth, tree-FreeTruth, fits-ReadTruth, tree-ReadTruth, fits-Negation, tree-Negation, fits-And, tree-And, fits-Or, tree-Or, fits-Implies, tree-Implies, fits-Iff, tree-Iff, fits-All, tree-All, fits-EqObject, tree-EqObject, fits-EqNumber, tree-EqNumber, fits-EqSet, tree-EqSet, fits-Member, tree-Member, fits-Subset, tree-Subset}
use Rattle.jh_arena.proofs.table.Listed.{node-stays, extends-trans}

pub ruleset field_steps = (fits-FreeField, tree-FreeField)

pub ruleset object_steps = (fits-Bound, tree-Bound, fits-Null, tree-Null, fits-FreeObject, tree-FreeObject, fits-ReadObject, tree-ReadObject, node-stays, extends-trans)

pub ruleset number_steps = (fits-Bound, tree-Bound, fits-Const, tree-Const, fits-FreeNumber, tree-FreeNumber, fits-ReadNumber, tree-ReadNumber, node-stays, extends-trans)

pub ruleset set_steps = (fits-Bound, tree-Bound, fits-Empty, tree-Empty, fits-FreeSet, tree-FreeSet, fits-ReadSet, tree-ReadSet, fits-Inter, tree-Inter, node-stays, extends-trans)

pub ruleset truth_steps = (fits-Bound, tree-Bound, fits-FreeTruth, tree-FreeTruth, fits-ReadTruth, tree-ReadTruth, fits-Negation, tree-Negation, fits-And, tree-And, fits-Or, tree-Or, fits-Implies, tree-Implies, fits-Iff, tree-Iff, fits-All, tree-All, fits-EqObject, tree-EqObject, fits-EqNumber, tree-EqNumber, fits-EqSet, tree-EqSet, fits-Member, tree-Member, fits-Subset, tree-Subset, node-stays, extends-trans)
