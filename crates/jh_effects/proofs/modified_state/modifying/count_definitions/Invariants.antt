use Rattle.std.proofs.Common.{◌≡◌, length}
use Rattle.jh_effects.specs.modified_state.Modifying.{AreCounted}
use Rattle.jh_effects.proofs.modified_state.Counting.{AreBelow}
use Rattle.jh_effects.proofs.modified_state.modifying.count_definitions.Given as goal

abbrev pub invariant-loop-at : goal.invariant-loop-at
invariant-loop-at l = record {
  counted : AreCounted l.start l.numbers l.definitions;
  below : AreBelow l.numbers l.definitions l.at;
  classes : length l.numbers.maps.items ≡ l.classes;
}
