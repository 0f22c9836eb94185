use Rattle.std.proofs.Common.{take}
use Rattle.jh_arena.specs.table.Growth.{Extends}
use Rattle.jh_command_terms.specs.jh_guard.Steps.{copies}
use Rattle.jh_state_facts.specs.changes.Added.{AddsCommands, sorted_in}
use Rattle.jh_state_facts.proofs.changes.changing.push_copies.Given as goal

-- the copies of the names before the place are added
abbrev pub invariant-loop-place : goal.invariant-loop-place
invariant-loop-place l = record {
  grows : Extends l.initial.table l.table;
  commands : AddsCommands l.table l.initial.commands.items l.commands.items (copies (sorted_in (take l.place l.names)) l.turn);
}
