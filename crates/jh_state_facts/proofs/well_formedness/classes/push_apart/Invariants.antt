use Rattle.std.proofs.Common.{ℕ, List, drop}
use Rattle.jh_arena.specs.table.Entries.{Listing}
use Rattle.jh_arena.specs.table.Growth.{Extends}
use Rattle.jh_semantics.specs.WellFormed.{apart}
use Rattle.jh_state_facts.specs.well_formedness.Facts.{AddsFacts}
use Rattle.jh_state_facts.specs.well_formedness.States.{texts_in}
use Rattle.jh_state_facts.proofs.well_formedness.classes.push_apart.Given as goal

-- what adds the facts that are left adds all
abbrev pub invariant-loop-place : goal.invariant-loop-place
invariant-loop-place l = record {
  grows : Extends l.initial.table l.table;
  rest : (u : Listing) (new : List ℕ) → Extends l.table u → AddsFacts u l.facts.items new (apart (drop l.place (texts_in l.texts))) → AddsFacts u l.initial.facts.items new (apart (texts_in l.texts));
}
