use Rattle.std.proofs.Common.{◌≡◌, ◌⊎◌, drop}
use Rattle.jh_closure.specs.union_find.Merges.{class_of}
use Rattle.jh_closure.specs.declared.union_find.merge.Cause.{Cause}
use Rattle.jh_closure.specs.congruence_closure.Nodes.{Has}
use Rattle.jh_closure.specs.congruence_closure.Closing.{IsTable, AreAlike, alike}
use Rattle.jh_closure.specs.congruence_closure.Cores.{Begins}
use Rattle.jh_closure.specs.congruence_closure.Tables.{found}
use Rattle.jh_closure.proofs.congruence_closure.settling.sign_all.Given as goal

abbrev pub invariant-loop-index : goal.invariant-loop-index
invariant-loop-index l = record {
  table : IsTable l.nodes (class_of l.forest.merges) (found l.table.nodes.entries) l.pending.items (drop l.index l.dirty);
  alike : (p : Cause) → Has l.pending.items p → Has l.fn.pending.items p ⊎ ((p ≡ alike p.left p.right) × AreAlike l.nodes (class_of l.forest.merges) p.left p.right);
  waits : (p : Cause) → Has l.fn.pending.items p → Has l.pending.items p;
  entries : Begins l.fn.table.nodes.entries l.table.nodes.entries;
}
