use Rattle.jh_arena.specs.table.Nodes.{nodes}
use Rattle.jh_propagation.specs.trail.Occurring.{AreBegun, AreGathered}
use Rattle.jh_propagation.proofs.trail.occurring.gather_all.Given as goal

abbrev pub invariant-loop-place : goal.invariant-loop-place
invariant-loop-place l = record {
  gathered : AreGathered l.found.atoms.items l.found.rows.items;
  begun : AreBegun (nodes l.table) l.instances l.place l.found.rows.items;
}
