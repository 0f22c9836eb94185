use Rattle.std.proofs.Common.{◌≡◌, ◌≤◌, length}
use Rattle.jh_ast.specs.declared.word.Param.{Param}
use Rattle.jh_parse.specs.statements.Reading as read
use Rattle.jh_parse.specs.programs.Separated as comma
use Rattle.jh_parse.proofs.programs.Commas.{with_rest}
use Rattle.jh_parse.proofs.programs.methods.several.Given as goal

-- what is made, with what is read from here on, is all that is read
abbrev pub invariant-each : goal.invariant-each
invariant-each l = record {
  whole : with_rest l.tokens (read.declared_at l.tokens) (λ (x : Param). x) l.made.items l.turns l.at ≡ comma.separated_at l.tokens (read.declared_at l.tokens) (length l.tokens) l.fn.from;
  behind : l.fn.from ≤ l.at;
  inside : l.at ≤ length l.tokens;
}

abbrev pub decreases-each : goal.decreases-each
decreases-each l = l.turns
