use Rattle.std.proofs.Common.{◌<◌, ℕ}
use Rattle.jh_digits.specs.systems.Solution.{need_of, spelled, IsMet}
use Rattle.jh_digits.proofs.systems.checking.are_needs_met.Given as goal

abbrev pub invariant-loop-need : goal.invariant-loop-need
invariant-loop-need l = (k : ℕ) → k < l.need-index → IsMet (need_of l.system k) (spelled l.layers)
