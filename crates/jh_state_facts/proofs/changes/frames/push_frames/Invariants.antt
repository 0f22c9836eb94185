use Rattle.std.proofs.Common.{ℕ, List, map, take}
use Rattle.std.specs.List.{flat_map}
use Rattle.jh_form.specs.Tree as tree
use Rattle.jh_arena.specs.table.Growth.{Extends}
use Rattle.jh_command_terms.specs.jh_guard.Frames.{frame_fact}
use Rattle.jh_state_facts.specs.schemas.Meant.{name_in}
use Rattle.jh_state_facts.specs.well_formedness.Facts.{AddsFacts}
use Rattle.jh_state_facts.specs.changes.Added.{chosen_at}
use Rattle.jh_state_facts.proofs.changes.frames.push_frames.Given as goal

-- the frame facts of the members at the places before the index are added
abbrev pub invariant-loop-index : goal.invariant-loop-index
invariant-loop-index l = record {
  grows : Extends l.initial.table l.table;
  facts : (classes : List (List ℕ)) → AddsFacts l.table l.initial.facts.items l.facts.items (flat_map (λ i. map (frame_fact (tree.free_set (name_in l.fn.old_alloc)) l.fn.turn) (chosen_at classes l.members i)) (map (λ i. i) (take l.index l.places)));
}
