use Rattle.jh_effects.specs.written_state.Arising.{AreTold}
use Rattle.jh_effects.proofs.written_state.Numbers.{Keep}
use Rattle.jh_effects.proofs.written_state.numbering.number_given.Given as goal

abbrev pub invariant-loop-next : goal.invariant-loop-next
invariant-loop-next l = record {
  told : AreTold l.keys.keys l.made.items l.yielded;
  keeps : Keep l.initial.keys.keys l.keys.keys;
}
