use Rattle.std.proofs.Common.{◌≡◌, ◌-◌, length, drop}
use Rattle.jh_arena.specs.table.Nodes.{nodes}
use Rattle.jh_explanations.specs.Keeping.{AreTried, IsReady}
use Rattle.jh_explanations.proofs.shortening.shortened.Given as goal

-- The last decisions were tried.
abbrev pub invariant-loop-index : goal.invariant-loop-index
invariant-loop-index l = record {
  table : l.classes.table ≡ l.fn.classes.table;
  ready : IsReady l.problem l.classes l.trail;
  tried : AreTried (nodes l.problem.table) l.problem l.decisions (drop (length l.decisions - l.index) l.decisions) l.steps.items;
}
