use Rattle.std.proofs.Common.{◌≡◌, List, length, take}
use Rattle.jh_closure.specs.declared.congruence_closure.node.Node.{Node}
use Rattle.jh_closure.specs.congruence_closure.Uses.{AreUses}
use Rattle.jh_closure.proofs.congruence_closure.classes.cut.Given as goal

abbrev pub invariant-loop-core : goal.invariant-loop-core
invariant-loop-core l = record {
  count : length l.core.uses.items ≡ l.core.forest.count;
  uses : (ns : List Node) → AreUses ns l.fn.core.forest.merges l.fn.core.uses.items → AreUses ns l.core.forest.merges l.core.uses.items;
  merges : take l.merges l.core.forest.merges ≡ take l.merges l.fn.core.forest.merges;
  same : l.core.forest.count ≡ l.fn.core.forest.count;
  entries : l.core.table.nodes.entries ≡ l.fn.core.table.nodes.entries;
}

abbrev pub decreases-loop-core : goal.decreases-loop-core
decreases-loop-core l = length l.core.forest.merges
