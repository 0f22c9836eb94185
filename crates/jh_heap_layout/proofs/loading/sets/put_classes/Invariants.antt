use Rattle.std.proofs.Common.{◌≡◌, ◌-◌, List, drop}
use Rattle.jh_semantics.specs.Code.{Text}
use Rattle.jh_store.specs.memory.Held.{state_of}
use Rattle.jh_heap_layout.specs.loading.Places.{AreNumbers}
use Rattle.jh_heap_layout.specs.loading.Steps.{class_put}
use Rattle.jh_heap_layout.proofs.loading.Folds.{with_all}
use Rattle.jh_heap_layout.proofs.loading.sets.put_classes.Given as goal

-- the classes from some place on have their objects
abbrev pub invariant-loop-turn : goal.invariant-loop-turn
invariant-loop-turn l = record {
  names : l.memory.names ≡ l.fn.memory.names;
  last : l.memory.last ≡ l.fn.memory.last;
  state : (cs : List Text) → AreNumbers l.fn.memory.names l.fn.numbers cs → state_of l.memory ≡ with_all class_put (drop (l.count - l.turn) cs) (drop (l.count - l.turn) l.fn.classes) (state_of l.fn.memory);
}
