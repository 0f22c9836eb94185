use Rattle.std.proofs.Common.{◌≡◌, ◌≤◌, ◌<◌, ◌^◌, drop, length}
use Rattle.jh_query.specs.queries.Sizing.{spelled}
use Rattle.jh_report.proofs.causes.digits.value_of.Given as goal

-- the value is that of the digits that were read
abbrev pub invariant-digits : goal.invariant-digits
invariant-digits l = record {
  within : l.at ≤ length l.digits;
  value : l.value ≡ spelled (drop l.at l.digits);
  small : l.value < 2 ^ 128;
}

abbrev pub decreases-digits : goal.decreases-digits
decreases-digits l = l.at
