-- What the arms of operators cite.
use Rattle.jh_arena.proofs.table.NodeSteps.{fits-True, tree-True, fits-EqObject, tree-EqObject, fits-EqNumber, tree-EqNumber, fits-EqSet, tree-EqSet, fits-Iff, tree-Iff, fits-Implies, tree-Implies, fits-Or, tree-Or, fits-And, tree-And, fits-Union, tree-Union, fits-Inter, tree-Inter, fits-Add, tree-Add, fits-Member, tree-Member, fits-Less, tree-Less, fits-LessEqual, tree-LessEqual, fits-Subset, tree-Subset, fits-Diff, tree-Diff, fits-Sub, tree-Sub, fits-Compl, tree-Compl, fits-Neg, tree-Neg, fits-Scale, tree-Scale, fits-Negation, tree-Negation}

pub ruleset operator_steps = (fits-True, tree-True, fits-EqObject, tree-EqObject, fits-EqNumber, tree-EqNumber, fits-EqSet, tree-EqSet, fits-Iff, tree-Iff, fits-Implies, tree-Implies, fits-Or, tree-Or, fits-And, tree-And, fits-Union, tree-Union, fits-Inter, tree-Inter, fits-Add, tree-Add, fits-Member, tree-Member, fits-Less, tree-Less, fits-LessEqual, tree-LessEqual, fits-Subset, tree-Subset, fits-Diff, tree-Diff, fits-Sub, tree-Sub, fits-Compl, tree-Compl, fits-Neg, tree-Neg, fits-Scale, tree-Scale, fits-Negation, tree-Negation)
