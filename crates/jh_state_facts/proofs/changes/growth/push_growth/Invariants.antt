use Rattle.std.proofs.Common.{map, take}
use Rattle.jh_arena.specs.table.Growth.{Extends}
use Rattle.jh_state_facts.specs.changes.Added.{AddsCommands, sorted_of, grew}
use Rattle.jh_state_facts.proofs.changes.growth.push_growth.Given as goal

abbrev pub invariant-loop-place : goal.invariant-loop-place
invariant-loop-place l = record {
  grows : Extends l.initial.table l.table;
  commands : AddsCommands l.table l.initial.commands.items l.commands.items (map (grew l.turn) (map sorted_of (take l.place l.sets)));
}
