use Rattle.std.proofs.Common.{◌≡◌, drop}
use Rattle.jh_semantics.specs.State.{State}
use Rattle.jh_store.specs.memory.Held.{state_of}
use Rattle.jh_machine.specs.locals.Locals.{AreLocals, AreSaved, AreInside, with_names_of}
use Rattle.jh_machine.proofs.locals.locals.restore.Given as goal

-- what is still to be put back makes the whole
abbrev pub invariant-loop-place : goal.invariant-loop-place
invariant-loop-place l = record {
  names : l.memory.names ≡ l.initial.memory.names;
  last : l.memory.last ≡ l.initial.memory.last;
  state : (t : State) → AreLocals l.initial.memory.names l.fn.locals → AreInside l.initial.memory.last l.fn.saved → AreSaved l.initial.memory.names t l.fn.locals l.fn.saved →
      with_names_of l.initial.memory.names (drop l.place l.fn.locals) t (state_of l.memory) ≡ with_names_of l.initial.memory.names l.fn.locals t (state_of l.initial.memory);
}
