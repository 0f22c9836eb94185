use Rattle.std.proofs.Common.{◌≡◌, ◌*◌, ◌+◌, ◌^◌, length, min}
use Rattle.jh_digits.specs.systems.Nodes.{widths, count_max}
use Rattle.jh_digits.proofs.solver.counting.nodes.Given as goal

abbrev pub invariant-loop-row : goal.invariant-loop-row
invariant-loop-row l = l.count ≡ min ((l.system.columns + 1) * 2 ^ length l.system.needs * widths l.system l.row) count_max
