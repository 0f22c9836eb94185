use Rattle.std.proofs.Common.{◌≡◌, ◌*◌, ◌+◌, ◌^◌, min}
use Rattle.jh_digits.specs.systems.Nodes.{count_max}
use Rattle.jh_digits.proofs.solver.counting.bare_nodes.Given as goal

abbrev pub invariant-loop : goal.invariant-loop
invariant-loop l = l.count ≡ min ((l.system.columns + 1) * 2 ^ l.counter) count_max
