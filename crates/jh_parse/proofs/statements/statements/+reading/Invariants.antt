use Rattle.std.proofs.Common.{◌≡◌, ◌≤◌, ◌+◌, ◌*◌, length}
use Rattle.jh_parse.specs.statements.Reading as read
use Rattle.jh_parse.proofs.statements.Rests.{with_rest}
use Rattle.jh_parse.proofs.statements.statements.+reading.Given as goal

abbrev pub decreases-statement : goal.decreases-statement
decreases-statement l = 6 * l.room + 0

abbrev pub decreases-block : goal.decreases-block
decreases-block l = 6 * l.room + 4

abbrev pub decreases-branch : goal.decreases-branch
decreases-branch l = 6 * l.room + 4

abbrev pub decreases-otherwise : goal.decreases-otherwise
decreases-otherwise l = 6 * l.room + 3

abbrev pub decreases-repeated : goal.decreases-repeated
decreases-repeated l = 6 * l.room + 3

abbrev pub decreases-part : goal.decreases-part
decreases-part l = 6 * l.room + 1

abbrev pub decreases-piece : goal.decreases-piece
decreases-piece l = 6 * l.room + 1

abbrev pub decreases-several : goal.decreases-several
decreases-several l = 6 * l.room + 2

abbrev pub decreases-inside : goal.decreases-inside
decreases-inside l = 6 * l.room + 3

abbrev pub decreases-several-each : goal.decreases-several-each
decreases-several-each l = l.turns

-- what is made, with what is read from here on, is all that is read
abbrev pub invariant-several-each : goal.invariant-several-each
invariant-several-each l = record {
  whole : with_rest l.tokens (read.inside l.tokens l.room) l.made.items l.turns l.after l.at ≡ read.several_of l.tokens (read.inside l.tokens l.room) (length l.tokens) l.fn.number l.fn.from;
  behind : l.fn.from ≤ l.at;
  inside : l.at ≤ length l.tokens;
}
