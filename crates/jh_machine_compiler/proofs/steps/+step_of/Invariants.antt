use Rattle.std.proofs.Common.{true, drop}
use Rattle.jh_ast.specs.Programs.{ProgramTree}
use Rattle.jh_arena.specs.table.Growth.{Grows, Extends}
use Rattle.jh_command_statements.specs.checks.Told.{AreFormulas}
use Rattle.jh_machine_compiler.specs.Sources.{numbered_in}
use Rattle.jh_machine_compiler.proofs.StepSteps.{Covers}
use Rattle.jh_machine_compiler.proofs.steps.+step_of.Given as goal

-- what is made, with the steps of the statements that are left, is that of all
abbrev pub invariant-steps_of-loop-code : goal.invariant-steps_of-loop-code
invariant-steps_of-loop-code l = record {
  names : Grows l.initial.names l.names;
  table : Extends l.initial.table l.table;
  covers : (p : ProgramTree) → AreFormulas p l.initial.table l.source.formulas.now → Covers p (numbered_in l.source) true l.names l.table l.codes (drop l.code-index l.codes) l.made.items;
}
