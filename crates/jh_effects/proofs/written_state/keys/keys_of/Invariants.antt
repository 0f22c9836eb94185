use Rattle.std.proofs.Common.{◌≡◌, map}
use Rattle.jh_effects.specs.written_state.Keys.{key_of_state}
use Rattle.jh_effects.proofs.written_state.keys.keys_of.Given as goal

abbrev pub invariant-loop-state : goal.invariant-loop-state
invariant-loop-state l = l.made.items ≡ map key_of_state l.yielded
