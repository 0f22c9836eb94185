use Rattle.std.proofs.Common.{◌≡◌, ◌≤◌, length}
use Rattle.jh_ast.specs.Bare.{labelled_part}
use Rattle.jh_operators.specs.lookahead.Standing.{is_spec_close_at}
use Rattle.jh_operators.proofs.lookahead.Lists.{with_rest}
use Rattle.jh_spec.specs.parser.PartReading as part
use Rattle.jh_spec.proofs.parser.lists.loop_part.Given as goal

-- what is made, with what is read from here on, is all that is read
abbrev pub invariant-each : goal.invariant-each
invariant-each l = record {
  whole : with_rest (is_spec_close_at l.tokens) (part.loop_item_at l.tokens) labelled_part l.made.items l.turns l.after l.at ≡ part.loop_at l.tokens l.fn.number l.fn.from;
  behind : l.fn.from ≤ l.at;
  inside : l.at ≤ length l.tokens;
}

abbrev pub decreases-each : goal.decreases-each
decreases-each l = l.turns
