use Rattle.std.proofs.Common.{◌≡◌, List, map, drop}
use Rattle.jh_arena.specs.table.Entries.{Listing}
use Rattle.jh_arena.specs.table.Growth.{Extends}
use Rattle.jh_call_commands.specs.jh_command_terms.declared.command.command.Command.{Command}
use Rattle.jh_semantics.specs.typed_code.Statements.{codes_in}
use Rattle.jh_state_facts.specs.changes.Added.{AddsCommands}
use Rattle.jh_method_commands.specs.environment.Outlines.{source_of}
use Rattle.jh_method_commands.specs.commands.Made.{Outlined, all_commands, turn_behind_all}
use Rattle.jh_method_commands.specs.commands.Sides.{IsLonger}
use Rattle.jh_method_commands.proofs.commands.statements.+push_one.Given as goal

-- what adds the commands of the statements that are left adds all; the turn behind these is that behind all; the locals only became more
abbrev pub invariant-push_all-loop-stmt : goal.invariant-push_all-loop-stmt
invariant-push_all-loop-stmt l = record {
  outlined : Outlined l.table l.outline;
  grows : Extends l.initial.table l.table;
  longer : IsLonger l.initial.scope.items l.scope.items;
  commands : (u : Listing) (new : List Command) → Extends l.table u →
      AddsCommands u l.commands.items new (all_commands l.outline l.this l.scope.items (codes_in (source_of l.outline) (drop l.stmt-index l.stmts)) l.next) →
      AddsCommands u l.initial.commands.items new (all_commands l.outline l.this l.initial.scope.items (codes_in (source_of l.outline) l.stmts) l.turn);
  turn : turn_behind_all l.outline l.this l.scope.items (codes_in (source_of l.outline) (drop l.stmt-index l.stmts)) l.next ≡ turn_behind_all l.outline l.this l.initial.scope.items (codes_in (source_of l.outline) l.stmts) l.turn;
}
