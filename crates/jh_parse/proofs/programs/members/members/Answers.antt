use Rattle.std.proofs.Common.{ℕ, sym, ◌∙◌, refl, arith}
use Rattle.std.proofs.lemmas.Result.{err_from_is_err_and}
use Rattle.jh_lex.specs.declared.lexer.symbol.Symbol.TheVariants as symbol
use Rattle.jh_operators.specs.lookahead.Standing.{is_at}
use Rattle.jh_operators.proofs.lookahead.Lists.{error-passes}
use Rattle.jh_parse.specs.programs.MemberReading.{member_at, members_at}
use Rattle.jh_parse.specs.programs.MemberReads.{draft_tree, with_members}
use Rattle.jh_parse.proofs.programs.Drafts.{members-none, members-more}
use Rattle.jh_parse.proofs.programs.Gathered.{gathered-next, gathered-all, gathered-none, gathered-short}
use Rattle.jh_parse.proofs.programs.members.members.Goals as goal

-- nothing is added yet
pub each-init : goal.each-init
unfolding members_at
each-init c = record {
  whole = refl;
  behind = omega arith;
  inside = c.requires;
}

-- one more
pub each-preserved : goal.each-preserved
each-preserved c = record {
  whole = sym (gathered-next (λ k. is_at c.args.tokens.now k symbol.RightBrace) (member_at c.args.tokens.now) with_members members-none members-more c.each.turns c.each.after c.each.at c.in_ok-next.next c.in_ok-next.number (draft_tree c.each.draft) (draft_tree c.member.new.draft) (omega (arith, c.if-turns-eq0.false)) (sym c.is_symbol.ensures.value ∙ c.each-test.true) c.in_ok-next.ensures.value) ∙ c.each.invariant.whole;
  behind = omega (arith, c.in_ok-next.ensures.within, c.each.invariant.behind);
  inside = omega (arith, c.in_ok-next.ensures.within);
}

-- there is no turn left
pub returns-then-turns-eq0-clause-value : goal.returns-then-turns-eq0-clause-value
returns-then-turns-eq0-clause-value c = gathered-short (λ k. is_at c.args.tokens.now k symbol.RightBrace) (member_at c.args.tokens.now) with_members members-none members-more c.each.turns c.each.after c.each.at (draft_tree c.each.draft) _ (omega (arith, c.if-turns-eq0.true)) (sym c.is_symbol.ensures.value ∙ c.each-test.true) c.each.invariant.whole

-- nothing stands there
pub returns-in_err-next-clause-value : goal.returns-in_err-next-clause-value
returns-in_err-next-clause-value c =
    let p = err_from_is_err_and c.from_residual.result c.from_residual.ensures.1 in
    rw (p.1, p.2) (error-passes {X = ℕ × ℕ} {U = ℕ × ℕ} (λ r. (draft_tree c.member.new.draft, r.0, r.1)) (λ r. (draft_tree c.member.new.draft, r.0, r.1)) c.in_err-next.field-0.0 c.in_err-next.ensures.value (λ e.
    gathered-none (λ k. is_at c.args.tokens.now k symbol.RightBrace) (member_at c.args.tokens.now) with_members members-none members-more c.each.turns c.each.after c.each.at (draft_tree c.each.draft) _ (sym c.is_symbol.ensures.value ∙ c.each-test.true) e c.each.invariant.whole))

-- the closing brace
pub returns-clause-value : goal.returns-clause-value
returns-clause-value c = gathered-all (λ k. is_at c.args.tokens.now k symbol.RightBrace) (member_at c.args.tokens.now) with_members members-none members-more c.each.turns c.each.after c.each.at (draft_tree c.each.draft) _ (sym c.is_symbol.ensures.value ∙ c.each-test.false) c.each.invariant.whole
