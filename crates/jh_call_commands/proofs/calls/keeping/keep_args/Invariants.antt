use Rattle.std.proofs.Common.{List, map, drop}
use Rattle.jh_form.specs.Tree.{ValueTree}
use Rattle.jh_command_terms.specs.declared.command.command.Command.{Command}
use Rattle.jh_semantics.specs.typed_code.Statements.{local_in}
use Rattle.jh_state_facts.specs.changes.Added.{AddsCommands}
use Rattle.jh_call_commands.specs.calls.Called.{AreValues}
use Rattle.jh_call_commands.proofs.calls.KeepSteps.{keep_values}
use Rattle.jh_call_commands.proofs.calls.keeping.keep_args.Given as goal

-- what keeps the arguments that are left keeps all
abbrev pub invariant-loop-place : goal.invariant-loop-place
invariant-loop-place l = record {
  rest : (new : List Command) (vs : List ValueTree) → AreValues l.table l.args vs → AddsCommands l.table l.commands.items new (keep_values (map local_in (drop l.place l.params)) (drop l.place vs) l.next) →
      AddsCommands l.table l.initial.commands.items new (keep_values (map local_in l.params) vs l.turn);
}
