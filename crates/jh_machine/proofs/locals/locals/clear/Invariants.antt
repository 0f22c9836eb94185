use Rattle.std.proofs.Common.{◌≡◌, drop}
use Rattle.jh_store.specs.memory.Held.{state_of, nothing}
use Rattle.jh_machine.specs.locals.Locals.{AreLocals, with_names_of}
use Rattle.jh_machine.proofs.locals.locals.clear.Given as goal

-- what is still to be cleared makes the whole
abbrev pub invariant-loop-place : goal.invariant-loop-place
invariant-loop-place l = record {
  names : l.memory.names ≡ l.initial.memory.names;
  last : l.memory.last ≡ l.initial.memory.last;
  state : AreLocals l.initial.memory.names l.fn.locals →
      with_names_of l.initial.memory.names (drop l.place l.fn.locals) (nothing l.initial.memory.last) (state_of l.memory) ≡ with_names_of l.initial.memory.names l.fn.locals (nothing l.initial.memory.last) (state_of l.initial.memory);
}
