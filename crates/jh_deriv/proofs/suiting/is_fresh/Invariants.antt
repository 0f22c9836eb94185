use Rattle.jh_arena.specs.table.Nodes.{nodes}
use Rattle.jh_deriv.proofs.Following.{FreshFrom}
use Rattle.jh_deriv.proofs.suiting.is_fresh.Given as goal

abbrev pub invariant-loop-fact : goal.invariant-loop-fact
invariant-loop-fact l = FreshFrom (nodes l.table) l.facts l.name l.fact-index
