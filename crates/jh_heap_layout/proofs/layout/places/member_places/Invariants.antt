use Rattle.std.proofs.Common.{List, take, filter}
use Rattle.jh_arena.specs.table.Growth.{Grows}
use Rattle.jh_semantics.specs.Code.{Text}
use Rattle.jh_state_facts.specs.well_formedness.States.{members_in}
use Rattle.jh_heap_layout.specs.layout.Chosen.{is_chosen}
use Rattle.jh_heap_layout.specs.layout.Lasting.{HasPlaces}
use Rattle.jh_heap_layout.proofs.layout.places.member_places.Given as goal

abbrev pub invariant-loop-member : goal.invariant-loop-member
invariant-loop-member l = record {
  names : Grows l.initial.names l.names;
  places : (classes : List Text) → HasPlaces l.names l.made.items (filter (is_chosen l.fn.statics) (members_in classes (take l.member-index l.fn.members)));
}
