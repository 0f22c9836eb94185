use Rattle.std.proofs.Common.{◌<◌, ◌≤◌, ℕ, length, take}
use Rattle.jh_closure.specs.congruence_closure.Nodes.{Has}
use Rattle.jh_cong.proofs.classes.telling.left_below.Given as goal

abbrev pub invariant-loop-left : goal.invariant-loop-left
invariant-loop-left l = record {
  inside : l.left ≤ length l.numbers;
  kept : (k : ℕ) → k < l.count → Has l.numbers k → Has (take l.left l.numbers) k;
}

abbrev pub decreases-loop-left : goal.decreases-loop-left
decreases-loop-left l = l.left
