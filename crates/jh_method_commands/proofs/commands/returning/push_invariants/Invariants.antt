use Rattle.std.proofs.Common.{[], ◌∷◌, map, take}
use Rattle.std.specs.List.{flat_map}
use Rattle.jh_arena.specs.table.Growth.{Extends}
use Rattle.jh_semantics.specs.typed_code.Statements.{claim_in}
use Rattle.jh_state_facts.specs.well_formedness.Facts.{AddsFacts}
use Rattle.jh_method_commands.specs.environment.Outlines.{source_of}
use Rattle.jh_method_commands.specs.commands.Made.{Outlined, invariant_formula}
use Rattle.jh_method_commands.proofs.commands.returning.push_invariants.Given as goal

-- those before the place are added
abbrev pub invariant-loop-place : goal.invariant-loop-place
invariant-loop-place l = record {
  outlined : Outlined l.table l.outline;
  grows : Extends l.initial.table l.table;
  facts : AddsFacts l.table l.initial.facts.items l.facts.items (flat_map (λ y. invariant_formula y ∷ []) (map (claim_in (source_of l.outline)) (take l.place l.claims)));
}
