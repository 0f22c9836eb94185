use Rattle.std.proofs.Common.{◌≡◌, ◌≤◌, ◌++◌, drop, length, string_bytes}
use Rattle.jh_report.specs.causes.Digits.{binary, is_text}
use Rattle.jh_report.proofs.causes.digits.add_binary.Given as goal

-- the digits that were read are written
abbrev pub invariant-digits : goal.invariant-digits
invariant-digits l = record {
  within : l.at ≤ length l.digits;
  text : string_bytes l.text ≡ string_bytes l.initial.text ++ binary (drop l.at l.digits);
  started : l.started ≡ is_text (binary (drop l.at l.digits));
}

abbrev pub decreases-digits : goal.decreases-digits
decreases-digits l = l.at
