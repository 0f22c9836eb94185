-- What nodes are made of: a shape over nodes that are known, and nodes of a table that has grown.
use Rattle.jh_arena.proofs.table.NodeSteps.{fits-Bound, tree-Bound, fits-True, tree-True, fits-False, tree-False, fits-EqObject, tree-EqObject, fits-EqNumber, tree-EqNumber, fits-EqSet, tree-EqSet, fits-Iff, tree-Iff, fits-Implies, tree-Implies, fits-Or, tree-Or, fits-And, tree-And, fits-Negation, tree-Negation, fits-All, tree-All, fits-Ex, tree-Ex, fits-Member, tree-Member, fits-ReadObject, tree-ReadObject, fits-ReadNumber, tree-ReadNumber, fits-ReadTruth, tree-ReadTruth, fits-ReadSet, tree-ReadSet}

pub ruleset make_steps = (fits-Bound, tree-Bound, fits-True, tree-True, fits-False, tree-False, fits-EqObject, tree-EqObject, fits-EqNumber, tree-EqNumber, fits-EqSet, tree-EqSet, fits-Iff, tree-Iff, fits-Implies, tree-Implies, fits-Or, tree-Or, fits-And, tree-And, fits-Negation, tree-Negation, fits-All, tree-All, fits-Ex, tree-Ex, fits-Member, tree-Member, fits-ReadObject, tree-ReadObject, fits-ReadNumber, tree-ReadNumber, fits-ReadTruth, tree-ReadTruth, fits-ReadSet, tree-ReadSet)
