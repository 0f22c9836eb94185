use Rattle.std.proofs.Common.{List, take}
use Rattle.std.specs.List.{flat_map}
use Rattle.jh_arena.specs.table.Growth.{Extends}
use Rattle.jh_reach.specs.Axioms.{BackboneTree, axioms_of}
use Rattle.jh_reach.specs.Standing.{AreFormulas}
use Rattle.jh_local_form.specs.field_lists.Leading.{AreBackbones}
use Rattle.jh_local_form.proofs.field_lists.reaching.all_axioms.Given as goal

-- the axioms of the first backbones
abbrev pub invariant-loop-place : goal.invariant-loop-place
invariant-loop-place l = record {
  axioms : (bs : List BackboneTree) → AreBackbones l.initial.table l.made bs → AreFormulas l.table l.axioms.items (flat_map axioms_of (take l.place bs));
  grows : Extends l.initial.table l.table;
}
