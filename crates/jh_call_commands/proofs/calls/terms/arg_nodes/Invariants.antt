use Rattle.std.proofs.Common.{map, take}
use Rattle.jh_arena.specs.table.Growth.{Extends}
use Rattle.jh_guard.specs.Terms.{value_term}
use Rattle.jh_guard.specs.Calls.{all_checks}
use Rattle.jh_semantics.specs.typed_code.Codes.{any_code}
use Rattle.jh_command_terms.specs.terms.Checks.{AddsChecks}
use Rattle.jh_call_commands.specs.calls.Called.{AreValues}
use Rattle.jh_call_commands.proofs.calls.terms.arg_nodes.Given as goal

-- the arguments before the place
abbrev pub invariant-loop-place : goal.invariant-loop-place
invariant-loop-place l = record {
  grows : Extends l.initial.table l.table;
  values : AreValues l.table l.made.items (map value_term (map any_code (take l.place l.args)));
  checks : AddsChecks l.table l.initial.checks.items l.checks.items (all_checks (map any_code (take l.place l.args)));
}
