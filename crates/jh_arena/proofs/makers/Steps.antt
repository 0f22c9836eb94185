-- What the makers of leaves cite.
use Rattle.jh_arena.proofs.table.NodeSteps.{fits-Bound, tree-Bound, fits-FreeObject, tree-FreeObject, fits-FreeNumber, tree-FreeNumber, fits-FreeTruth, tree-FreeTruth, fits-FreeSet, tree-FreeSet, fits-FreeField, tree-FreeField}
use Rattle.jh_arena.proofs.table.Listed.{node-stays, extends-trans}

pub ruleset leaf_steps = (fits-Bound, tree-Bound, fits-FreeObject, tree-FreeObject, fits-FreeNumber, tree-FreeNumber, fits-FreeTruth, tree-FreeTruth, fits-FreeSet, tree-FreeSet, fits-FreeField, tree-FreeField, node-stays, extends-trans)
