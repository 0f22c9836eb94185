use Rattle.std.proofs.Common.{◌≡◌, ◌↔◌, drop}
use Rattle.jh_digits.specs.systems.Solution.{spelled}
use Rattle.jh_digits.proofs.systems.checking.is_zero.Given as goal

abbrev pub invariant-loop-layer : goal.invariant-loop-layer
invariant-loop-layer l = (spelled l.layers l.column ≡ 0) ↔ (spelled (drop l.layer-index l.layers) l.column ≡ 0)
