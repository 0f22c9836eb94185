use Rattle.std.proofs.Common.{◌≡◌, ◌≤◌, ◌++◌, drop, length}
use Rattle.jh_splitting.specs.Left.{closed_goals}
use Rattle.jh_splitting.proofs.goals.wait_for_all.Given as goal

abbrev pub invariant-goals : goal.invariant-goals
invariant-goals l = record {
  within : l.at ≤ length l.fn.nodes;
  waits : l.waiting.items ≡ l.initial.waiting.items ++ closed_goals l.fn.goal (drop l.at l.fn.nodes);
}

abbrev pub decreases-goals : goal.decreases-goals
decreases-goals l = l.at
