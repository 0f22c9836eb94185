use Rattle.jh_effects.specs.written_state.Arising.{AreNumbers}
use Rattle.jh_effects.proofs.written_state.Numbers.{Keep}
use Rattle.jh_effects.proofs.written_state.numbering.number_list.Given as goal

abbrev pub invariant-loop-key : goal.invariant-loop-key
invariant-loop-key l = record {
  numbers : AreNumbers l.keys.keys l.made.items l.yielded;
  keeps : Keep l.initial.keys.keys l.keys.keys;
}
