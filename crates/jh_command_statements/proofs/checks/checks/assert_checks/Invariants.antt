use Rattle.std.proofs.Common.{List, take}
use Rattle.jh_arena.specs.table.Growth.{Extends}
use Rattle.jh_guard.specs.Terms.{Check}
use Rattle.jh_guard.specs.Steps.{assert_checks}
use Rattle.jh_command_terms.specs.terms.Checks.{AreChecks}
use Rattle.jh_state_facts.specs.changes.Added.{AddsCommands}
use Rattle.jh_command_statements.proofs.checks.checks.assert_checks.Given as goal

-- the checks before the place are asserted
abbrev pub invariant-loop-place : goal.invariant-loop-place
invariant-loop-place l = record {
  grows : Extends l.initial.table l.table;
  commands : (cs : List Check) → AreChecks l.initial.table l.checks cs → AddsCommands l.table l.initial.commands.items l.commands.items (assert_checks (take l.place cs));
}
