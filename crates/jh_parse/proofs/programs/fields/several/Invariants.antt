use Rattle.std.proofs.Common.{◌≡◌, ◌≤◌, length}
use Rattle.jh_ast.specs.Bare.{field_part}
use Rattle.jh_parse.specs.programs.MemberReading as read
use Rattle.jh_parse.specs.programs.Separated as comma
use Rattle.jh_parse.proofs.programs.Commas.{with_rest}
use Rattle.jh_parse.proofs.programs.fields.several.Given as goal

-- what is made, with what is read from here on, is all that is read
abbrev pub invariant-each : goal.invariant-each
invariant-each l = record {
  whole : with_rest l.tokens (read.one_at l.tokens l.jtype l.fn.fixed) field_part l.made.items l.turns l.at ≡ comma.separated_at l.tokens (read.one_at l.tokens l.jtype l.fn.fixed) (length l.tokens) l.fn.from;
  behind : l.fn.from ≤ l.at;
  inside : l.at ≤ length l.tokens;
}

abbrev pub decreases-each : goal.decreases-each
decreases-each l = l.turns
