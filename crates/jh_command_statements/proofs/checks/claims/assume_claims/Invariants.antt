use Rattle.std.proofs.Common.{map, take}
use Rattle.jh_ast.specs.Programs.{ProgramTree}
use Rattle.jh_arena.specs.table.Growth.{Extends}
use Rattle.jh_wp.specs.Command as w
use Rattle.jh_guard.specs.Steps.{claim_fact}
use Rattle.jh_semantics.specs.typed_code.Statements.{claim_in}
use Rattle.jh_state_facts.specs.changes.Added.{AddsCommands}
use Rattle.jh_command_statements.specs.checks.Told.{AreFormulas}
use Rattle.jh_command_statements.proofs.checks.claims.assume_claims.Given as goal

-- the claims before the place are added
abbrev pub invariant-loop-place : goal.invariant-loop-place
invariant-loop-place l = record {
  grows : Extends l.initial.table l.table;
  commands : (p : ProgramTree) → AreFormulas p l.initial.table l.formulas → AddsCommands l.table l.initial.commands.items l.commands.items (map (λ claim. w.assume (claim_fact claim)) (map (claim_in p) (take l.place l.claims)));
}
