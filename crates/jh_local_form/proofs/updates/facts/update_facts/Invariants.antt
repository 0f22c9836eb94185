use Rattle.std.proofs.Common.{List, take}
use Rattle.std.specs.List.{flat_map}
use Rattle.jh_form.specs.Tree.{ValueTree}
use Rattle.jh_arena.specs.table.Growth.{Extends}
use Rattle.jh_reach.specs.Standing.{AreFormulas}
use Rattle.jh_fca.specs.local_form.Named.{update_fact}
use Rattle.jh_local_form.specs.updates.Updating.{IsNaming}
use Rattle.jh_local_form.proofs.updates.facts.update_facts.Given as goal

-- what the first names say
abbrev pub invariant-loop-place : goal.invariant-loop-place
invariant-loop-place l = record {
  told : (us : List ValueTree) → IsNaming l.initial.table l.names us → AreFormulas l.table l.facts.items (flat_map (update_fact us l.names.first) (take l.place us));
  grows : Extends l.initial.table l.table;
}
