use Rattle.std.proofs.Common.{◌≡◌, ◌≤◌, length}
use Rattle.jh_ast.specs.Bare.{class_part}
use Rattle.jh_operators.specs.lookahead.Standing.{is_end_at}
use Rattle.jh_operators.proofs.lookahead.Lists.{with_rest}
use Rattle.jh_parse.specs.programs.MemberReading as read
use Rattle.jh_parse.proofs.programs.classes.classes.Given as goal

-- what is made, with what is read from here on, is all that is read
abbrev pub invariant-each : goal.invariant-each
invariant-each l = record {
  whole : with_rest (is_end_at l.tokens) (read.class_at l.tokens) class_part l.made.items l.turns l.after l.at ≡ read.classes_at l.tokens;
  inside : l.at ≤ length l.tokens;
}

abbrev pub decreases-each : goal.decreases-each
decreases-each l = l.turns
