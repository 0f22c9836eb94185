use Rattle.std.proofs.Common.{◌≡◌, ◌⊎◌, ◌-◌, List, [], length}
use Rattle.jh_closure.specs.union_find.Merges.{class_of}
use Rattle.jh_closure.specs.declared.union_find.merge.Cause.{Cause}
use Rattle.jh_closure.specs.declared.congruence_closure.equation.Equation.{Equation}
use Rattle.jh_closure.specs.congruence_closure.Nodes.{Has}
use Rattle.jh_closure.specs.congruence_closure.Closing.{IsTable, AreRight, Keeps}
use Rattle.jh_closure.specs.congruence_closure.Cores.{IsGrown}
use Rattle.jh_closure.specs.congruence_closure.Tables.{found}
use Rattle.jh_closure.proofs.congruence_closure.settling.settle.Given as goal

abbrev pub invariant-loop-cause : goal.invariant-loop-cause
invariant-loop-cause l = record {
  grown : IsGrown l.nodes l.fn.core l.core;
  table : IsTable l.nodes (class_of l.core.forest.merges) (found l.core.table.nodes.entries) l.pending.items [];
  right : (said : List Equation) → AreRight l.nodes said l.fn.core.forest.merges l.fn.pending.items → AreRight l.nodes said l.core.forest.merges l.pending.items;
  keeps : Keeps (length l.nodes) (class_of l.fn.core.forest.merges) (class_of l.core.forest.merges);
  joined : (q : Cause) → Has l.fn.pending.items q → Has l.pending.items q ⊎ (class_of l.core.forest.merges q.left ≡ class_of l.core.forest.merges q.right);
}

abbrev pub decreases-loop-cause : goal.decreases-loop-cause
decreases-loop-cause l = length l.nodes - length l.core.forest.merges
