use Rattle.std.proofs.Common.{◌≡◌, List, true, drop}
use Rattle.jh_arena.specs.table.Entries.{are_fields}
use Rattle.jh_arena.specs.table.Growth.{Extends}
use Rattle.jh_arena.specs.table.Nodes.{nodes}
use Rattle.jh_reach.specs.Axioms.{BackboneTree}
use Rattle.jh_fca.specs.local_form.Chains.{ChangeTree}
use Rattle.jh_local_form.specs.field_lists.Changing.{AreChanges}
use Rattle.jh_local_form.specs.field_lists.Leading.{AreBackbones, IsLed}
use Rattle.jh_local_form.proofs.field_lists.leading.add_led.Given as goal

-- what was made, with where the fields lead by the changes that are left, is what is to be made
abbrev pub invariant-loop-place : goal.invariant-loop-place
invariant-loop-place l = record {
  led : (cs : List ChangeTree) (whole : List BackboneTree) → AreChanges (nodes l.initial.table) l.changes cs → IsLed l.initial.table l.initial.made.items l.initial.fields.items cs whole → IsLed l.table l.made.items l.fields.items (drop l.place cs) whole;
  fields : are_fields (nodes l.table) l.fields.items ≡ true;
  made : (bs : List BackboneTree) × AreBackbones l.table l.made.items bs;
  grows : Extends l.initial.table l.table;
}
