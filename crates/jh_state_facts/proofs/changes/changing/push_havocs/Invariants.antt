use Rattle.std.proofs.Common.{◌≡◌, ◌+◌, List, drop}
use Rattle.jh_command_terms.specs.declared.command.command.Command.{Command}
use Rattle.jh_command_terms.specs.jh_guard.Steps.{havocs}
use Rattle.jh_state_facts.specs.changes.Added.{AddsCommands, sorted_in}
use Rattle.jh_state_facts.proofs.changes.changing.push_havocs.Given as goal

-- what adds the havocs that are left adds all
abbrev pub invariant-loop-place : goal.invariant-loop-place
invariant-loop-place l = record {
  turn : l.next ≡ l.place + l.turn;
  rest : (new : List Command) → AddsCommands l.table l.commands.items new (havocs (sorted_in (drop l.place l.names)) l.next) → AddsCommands l.table l.initial.commands.items new (havocs (sorted_in l.names) l.turn);
}
