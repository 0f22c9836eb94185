use Rattle.std.proofs.Common.{ℕ, length, List, ap, sym, ◌∙◌, arith}
use Rattle.std.proofs.lemmas.Result.{err_from_is_err_and}
use Rattle.std.specs.Prelude.{Option, option_map, Some}
use Rattle.jh_lex.specs.declared.lexer.symbol.Symbol.{Symbol}
use Rattle.jh_operators.specs.lookahead.Answers.{IsWithin}
use Rattle.jh_operators.proofs.lookahead.Lists.{error-passes}
use Rattle.jh_parse.proofs.programs.Heads.{if_some, heads-next, heads-all, heads-none, heads-short}
use Rattle.jh_parse.proofs.programs.classes.heads.Goals as goal

-- what stands there is refused
pub returns-in_err-head-clause-value : goal.returns-in_err-head-clause-value
returns-in_err-head-clause-value c =
    let p = err_from_is_err_and c.from_residual.result c.from_residual.ensures.1 in
    rw (p.1, p.2) (error-passes {X = Option ℕ} {Y = Option (List Symbol × ℕ)} {U = ℕ} {V = ℕ} (λ next. option_map (λ j. (c.head.new.seen.items, j)) next) (λ next. next) c.in_err-head.field-0.0 c.in_err-head.ensures.value (λ e.
    sym c.each.invariant.whole ∙ heads-none c.args.tokens.now c.each.turns c.each.at c.each.seen.items e))

-- no more stands there
pub returns-in-None-clause-value : goal.returns-in-None-clause-value
returns-in-None-clause-value c = sym c.each.invariant.whole ∙ heads-all c.args.tokens.now c.each.turns c.each.at c.each.seen.items (omega (arith, c.each-test.true)) (c.in_ok-head.ensures.value ∙ ap (λ o. Some (option_map (λ (j : ℕ). (c.head.new.seen.items, j)) o)) c.in-None.is)

-- one more stands there
pub each-preserved : goal.each-preserved
each-preserved c = let within : IsWithin (length c.args.tokens.now) c.each.at c.in-Some.next = if_some (λ j. IsWithin (length c.args.tokens.now) c.each.at j) c.in-Some.is c.in_ok-head.ensures.within in record {
  whole = sym (heads-next c.args.tokens.now c.each.turns c.each.at c.in-Some.next c.each.seen.items c.head.new.seen.items (omega (arith, c.each-test.true)) (c.in_ok-head.ensures.value ∙ ap (λ o. Some (option_map (λ (j : ℕ). (c.head.new.seen.items, j)) o)) c.in-Some.is)) ∙ c.each.invariant.whole;
  behind = omega (arith, within, c.each.invariant.behind);
  inside = omega (arith, within);
}

-- there is no turn left
pub returns-clause-value : goal.returns-clause-value
returns-clause-value c = sym c.each.invariant.whole ∙ heads-short c.args.tokens.now c.each.turns c.each.at c.each.seen.items (omega (arith, c.each-test.false))
