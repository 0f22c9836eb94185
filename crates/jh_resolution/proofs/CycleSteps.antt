-- What the arms of resolving cite where they call on.
use Rattle.jh_arena.proofs.table.NodeSteps.{fits-Null, fits-True, fits-False, fits-Univ}
use Rattle.jh_arena.proofs.table.Listed.{extends-trans, node-inside}
use Rattle.jh_resolution.proofs.Coercions.{inside-grows}
use Rattle.jh_resolution.proofs.Meant.{held-grows}

pub ruleset cycle_steps = (held-grows, inside-grows, node-inside, extends-trans, fits-Null, fits-True, fits-False, fits-Univ)
