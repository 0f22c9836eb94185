use Rattle.std.proofs.Common.{◌≡◌, ◌≤◌, length, suc, []}
use Rattle.jh_parse.specs.programs.MemberReading.{heads_at}
use Rattle.jh_parse.proofs.programs.classes.heads.Given as goal

-- what is read from here on is what is read from the beginning on
abbrev pub invariant-each : goal.invariant-each
invariant-each l = record {
  whole : heads_at l.tokens l.turns l.seen.items l.at ≡ heads_at l.tokens (suc (length l.tokens)) [] l.fn.from;
  behind : l.fn.from ≤ l.at;
  inside : l.at ≤ length l.tokens;
}

abbrev pub decreases-each : goal.decreases-each
decreases-each l = l.turns
