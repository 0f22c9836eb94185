use Rattle.std.proofs.Common.{drop, List, ◌++◌}
use Rattle.jh_store.specs.memory.Held.{state_of}
use Rattle.jh_machine.specs.locals.Locals.{AreLocals, AreSaved, AreInside}
use Rattle.jh_machine.specs.declared.locals.locals.Saved.{Saved}
use Rattle.jh_machine.proofs.locals.locals.save.Given as goal

-- what is saved, with what is still to be, is all
abbrev pub invariant-loop-place : goal.invariant-loop-place
invariant-loop-place l = record {
  saved : AreLocals l.fn.memory.names l.fn.locals → (vs : List Saved) → AreSaved l.fn.memory.names (state_of l.fn.memory) (drop l.place l.fn.locals) vs →
      AreSaved l.fn.memory.names (state_of l.fn.memory) l.fn.locals (l.made.items ++ vs);
  inside : AreInside l.fn.memory.last l.made.items;
}
