use Rattle.std.proofs.Common.{take}
use Rattle.jh_arena.specs.table.Growth.{Grows}
use Rattle.jh_machine_compiler.specs.Lasting.{HasParams}
use Rattle.jh_machine_compiler.proofs.bodies.params_of.Given as goal

abbrev pub invariant-loop-param : goal.invariant-loop-param
invariant-loop-param l = record {
  names : Grows l.initial.names l.names;
  params : HasParams l.names (take l.param-index l.params) l.made.items;
}
