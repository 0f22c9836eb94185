use Rattle.std.proofs.Common.{map, take}
use Rattle.jh_arena.specs.table.Growth.{Grows}
use Rattle.jh_semantics.specs.typed_code.Codes.{any_code}
use Rattle.jh_machine_compiler.specs.Lasting.{AreArguments}
use Rattle.jh_machine_compiler.proofs.calls.arguments_of.Given as goal

abbrev pub invariant-loop-code : goal.invariant-loop-code
invariant-loop-code l = record {
  names : Grows l.initial.names l.names;
  arguments : AreArguments l.names (map any_code (take l.code-index l.codes)) l.made.items;
}
