use Rattle.std.proofs.Common.{map, take}
use Rattle.std.specs.List.{flat_map}
use Rattle.jh_arena.specs.table.Growth.{Extends}
use Rattle.jh_semantics.specs.WellFormed.{field_facts}
use Rattle.jh_state_facts.specs.well_formedness.Facts.{AddsFacts}
use Rattle.jh_state_facts.specs.well_formedness.States.{member_in}
use Rattle.jh_state_facts.proofs.well_formedness.members.push_fields.Given as goal

-- those before the place are added
abbrev pub invariant-loop-place : goal.invariant-loop-place
invariant-loop-place l = record {
  grows : Extends l.initial.table l.table;
  facts : AddsFacts l.table l.initial.facts.items l.facts.items (flat_map (field_facts l.classes) (map (member_in l.classes) (take l.place l.members)));
}
