use Rattle.std.proofs.Common.{map, take, [], ◌∷◌}
use Rattle.std.specs.List.{flat_map}
use Rattle.jh_form.specs.Tree as tree
use Rattle.jh_arena.specs.table.Growth.{Extends}
use Rattle.jh_semantics.specs.WellFormed.{set_of}
use Rattle.jh_state_facts.specs.well_formedness.Facts.{AddsFacts}
use Rattle.jh_state_facts.specs.well_formedness.States.{texts_in}
use Rattle.jh_state_facts.proofs.well_formedness.classes.push_apart_from.Given as goal

abbrev pub invariant-loop-place : goal.invariant-loop-place
invariant-loop-place l = record {
  grows : Extends l.initial.table l.table;
  facts : AddsFacts l.table l.initial.facts.items l.facts.items (flat_map (λ d. tree.eq_set (tree.inter (set_of l.fn.class) (set_of d)) tree.empty ∷ []) (map (λ x. x) (take l.place (texts_in l.others))));
}
