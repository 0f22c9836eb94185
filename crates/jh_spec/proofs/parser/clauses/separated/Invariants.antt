use Rattle.std.proofs.Common.{◌≡◌, ◌≤◌, length}
use Rattle.jh_spec.specs.parser.PartReading as part
use Rattle.jh_spec.specs.parser.PartReads.{listed_at}
use Rattle.jh_spec.proofs.parser.Separated.{with_rest}
use Rattle.jh_spec.proofs.parser.clauses.separated.Given as goal

-- what is made, with what is read from here on, is all that is read
abbrev pub invariant-each : goal.invariant-each
invariant-each l = record {
  whole : with_rest l.tokens (listed_at l.tokens l.fn.listed) l.made.items l.turns l.at ≡ part.separated_at l.tokens (listed_at l.tokens l.fn.listed) (length l.tokens) l.fn.from;
  behind : l.fn.from ≤ l.at;
  inside : l.at ≤ length l.tokens;
}

abbrev pub decreases-each : goal.decreases-each
decreases-each l = l.turns
