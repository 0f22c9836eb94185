-- What the arms of resolving cite.
use Rattle.jh_arena.proofs.table.NodeSteps.{fits-Negation, tree-Negation, fits-Card, tree-Card, fits-Divides, tree-Divides, fits-Compr, tree-Compr, fits-All, tree-All, fits-Ex, tree-Ex, fits-Single, tree-Single, fits-Union, tree-Union, fits-Empty, tree-Empty, fits-Null, tree-Null, fits-True, tree-True, fits-False, tree-False, fits-Univ, tree-Univ, fits-Const, tree-Const}
use Rattle.jh_resolution.proofs.Coercions.{inside-grows}
use Rattle.jh_resolution.proofs.Meant.{held-grows}

pub ruleset resolve_steps = (held-grows, inside-grows, fits-Negation, tree-Negation, fits-Card, tree-Card, fits-Divides, tree-Divides, fits-Compr, tree-Compr, fits-All, tree-All, fits-Ex, tree-Ex, fits-Single, tree-Single, fits-Union, tree-Union, fits-Empty, tree-Empty, fits-Null, tree-Null, fits-True, tree-True, fits-False, tree-False, fits-Univ, tree-Univ, fits-Const, tree-Const)
