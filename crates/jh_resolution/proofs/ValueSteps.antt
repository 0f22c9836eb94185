-- What values cite.
use Rattle.jh_arena.proofs.table.NodeSteps.{fits-Bound, tree-Bound}
use Rattle.jh_resolution.proofs.Coercions.{inside-grows}
use Rattle.jh_resolution.proofs.Meant.{held-grows}
use Rattle.jh_resolution.proofs.NameSteps.{object-on}

pub ruleset value_steps = (held-grows, inside-grows, object-on, fits-Bound, tree-Bound)
