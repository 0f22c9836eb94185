use Rattle.std.proofs.Common.{◌≡◌, ◌≤◌, drop, length, List, map}
use Rattle.jh_semantics.specs.Code.{Local}
use Rattle.jh_semantics.specs.Locals.{with_args}
use Rattle.jh_store.specs.memory.Held.{state_of}
use Rattle.jh_operands.specs.Scalars.{datum_of}
use Rattle.jh_machine_code.specs.code.Steps.{AreParams}
use Rattle.jh_machine.specs.locals.Locals.{AllInside}
use Rattle.jh_machine.proofs.locals.locals.put_args.Given as goal

-- the parameters from a place on have their arguments
abbrev pub invariant-given : goal.invariant-given
invariant-given l = record {
  names : l.memory.names ≡ l.initial.memory.names;
  last : l.memory.last ≡ l.initial.memory.last;
  params : l.left ≤ length l.fn.params;
  args : l.left ≤ length l.fn.args;
  state : (ls : List Local) → AreParams l.initial.memory.names l.fn.params ls → AllInside l.initial.memory.last l.fn.args →
      state_of l.memory ≡ with_args (drop l.left ls) (map datum_of (drop l.left l.fn.args)) (state_of l.initial.memory);
}

abbrev pub decreases-given : goal.decreases-given
decreases-given l = l.left
