use Rattle.std.proofs.Common.{◌≡◌, ◌≤◌, length}
use Rattle.jh_parse.specs.expressions.Reading as read
use Rattle.jh_parse.proofs.expressions.Rests.{with_rest}
use Rattle.jh_parse.proofs.expressions.calls.listed.Given as goal

abbrev pub decreases-more : goal.decreases-more
decreases-more l = l.turns

-- what is made, with what is read from here on, is all that is read
abbrev pub invariant-more : goal.invariant-more
invariant-more l = record {
  whole : with_rest l.tokens l.made.items l.turns l.at ≡ read.listed_at l.tokens (length l.tokens) l.fn.from;
  behind : l.fn.from ≤ l.at;
  inside : l.at ≤ length l.tokens;
}
