use Rattle.std.proofs.Common.{◌≡◌, ◌⊎◌, [], length}
use Rattle.jh_closure.specs.union_find.Merges.{class_of}
use Rattle.jh_closure.specs.declared.union_find.merge.Cause.{Cause}
use Rattle.jh_closure.specs.congruence_closure.Nodes.{Has}
use Rattle.jh_closure.specs.congruence_closure.Closing.{IsTable}
use Rattle.jh_closure.specs.congruence_closure.Tables.{found}
use Rattle.jh_closure.proofs.congruence_closure.settling.next_apart.Given as goal

abbrev pub invariant-loop-cause : goal.invariant-loop-cause
invariant-loop-cause l = record {
  table : IsTable l.nodes (class_of l.core.forest.merges) (found l.core.table.nodes.entries) l.pending.items [];
  among : (q : Cause) → Has l.pending.items q → Has l.fn.pending.items q;
  kept : (q : Cause) → Has l.fn.pending.items q → Has l.pending.items q ⊎ (class_of l.core.forest.merges q.left ≡ class_of l.core.forest.merges q.right);
}

abbrev pub decreases-loop-cause : goal.decreases-loop-cause
decreases-loop-cause l = length l.pending.items
