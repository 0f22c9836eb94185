use Rattle.std.proofs.Common.{◌≡◌, ◌≤◌, length, drop}
use Rattle.jh_query.specs.queries.Sizing.{spelled}
use Rattle.jh_query.proofs.queries.counting.spelled.Given as goal

abbrev pub invariant-loop-place : goal.invariant-loop-place
invariant-loop-place l = record {
  inside : l.place ≤ length l.digits;
  number : l.number ≡ spelled (drop l.place l.digits);
}

abbrev pub decreases-loop-place : goal.decreases-loop-place
decreases-loop-place l = l.place
