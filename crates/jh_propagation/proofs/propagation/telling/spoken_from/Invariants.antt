use Rattle.std.proofs.Common.{drop, take}
use Rattle.jh_arena.specs.table.Nodes.{nodes}
use Rattle.jh_propagation.specs.propagation.Speaking.{AreSpoken}
use Rattle.jh_propagation.proofs.propagation.telling.spoken_from.Given as goal

abbrev pub invariant-loop-place : goal.invariant-loop-place
invariant-loop-place l = AreSpoken (nodes l.table) (nodes l.problem.table) (drop l.start (take l.place l.trail)) l.batch.items
