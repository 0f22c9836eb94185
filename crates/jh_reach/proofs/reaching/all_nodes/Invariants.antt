use Rattle.std.proofs.Common.{take}
use Rattle.std.specs.List.{flat_map}
use Rattle.jh_arena.specs.table.Growth.{Extends}
use Rattle.jh_reach.specs.Axioms.{axioms_of}
use Rattle.jh_reach.specs.Named.{backbone_tree}
use Rattle.jh_reach.specs.Standing.{AreFormulas}
use Rattle.jh_reach.proofs.reaching.all_nodes.Given as goal

abbrev pub invariant-loop-backbone : goal.invariant-loop-backbone
invariant-loop-backbone l = record {
  grows : Extends l.fn.table l.table;
  nodes : AreFormulas l.table l.made.items (flat_map (λ b. axioms_of (backbone_tree b)) (take l.backbone-index l.backbones));
}
