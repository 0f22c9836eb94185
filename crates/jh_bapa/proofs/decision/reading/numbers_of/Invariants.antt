use Rattle.std.proofs.Common.{◌≡◌, ◌+◌, ◌*◌, pos, ◌-ℤ◌, map}
use Rattle.jh_digits.specs.solver.Solution as system
use Rattle.jh_query.specs.queries.Sizing.{whole_value}
use Rattle.jh_bapa.specs.decision.Lists.{listed}
use Rattle.jh_bapa.proofs.decision.reading.numbers_of.Given as goal

abbrev pub invariant-loop-number : goal.invariant-loop-number
invariant-loop-number l = map whole_value l.wholes.items ≡ listed l.number (λ k. pos (system.spelled l.digits.layers (l.start + 2 * k)) -ℤ pos (system.spelled l.digits.layers (l.start + (2 * k + 1))))
