use Rattle.std.proofs.Common.{◌≡◌, ◌≤◌, length}
use Rattle.jh_lex.specs.declared.lexer.symbol.Symbol.TheVariants as symbol
use Rattle.jh_operators.specs.lookahead.Standing.{is_at}
use Rattle.jh_parse.specs.programs.MemberReading.{member_at, members_at}
use Rattle.jh_parse.specs.programs.MemberReads.{draft_tree, with_members, after_members}
use Rattle.jh_parse.proofs.programs.Drafts.{members-none, members-more}
use Rattle.jh_parse.proofs.programs.Gathered.{with_rest}
use Rattle.jh_parse.proofs.programs.members.members.Given as goal

-- what is there, with what is read from here on, is what was there with all that is read
abbrev pub invariant-each : goal.invariant-each
invariant-each l = record {
  whole : with_rest (λ k. is_at l.tokens k symbol.RightBrace) (member_at l.tokens) with_members members-none members-more (draft_tree l.draft) l.turns l.after l.at ≡ after_members (draft_tree l.fn.draft) (members_at l.tokens l.fn.number l.fn.from);
  behind : l.fn.from ≤ l.at;
  inside : l.at ≤ length l.tokens;
}

abbrev pub decreases-each : goal.decreases-each
decreases-each l = l.turns
