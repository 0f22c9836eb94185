use Rattle.std.proofs.Common.{map, take}
use Rattle.jh_ast.specs.Programs.{ProgramTree}
use Rattle.jh_arena.specs.table.Growth.{Grows, Extends}
use Rattle.jh_semantics.specs.typed_code.Statements.{method_in}
use Rattle.jh_command_statements.specs.checks.Told.{AreFormulas}
use Rattle.jh_machine_compiler.specs.Sources.{numbered_in}
use Rattle.jh_machine_compiler.specs.Lasting.{MakesBodies}
use Rattle.jh_machine_compiler.proofs.bodies.all_bodies.Given as goal

abbrev pub invariant-loop-method : goal.invariant-loop-method
invariant-loop-method l = record {
  names : Grows l.initial.names l.names;
  table : Extends l.initial.table l.table;
  bodies : (p : ProgramTree) → AreFormulas p l.initial.table l.source.formulas.now → MakesBodies (numbered_in l.source) l.names l.table (map (method_in p) (take l.method-index l.source.methods.now)) l.made.items;
}
