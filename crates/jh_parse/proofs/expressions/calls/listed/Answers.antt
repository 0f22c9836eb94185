use Rattle.std.proofs.Common.{length, arith, sym, ◌∙◌, ap, ℕ, map, Vec, Global}
use Rattle.jh_ast.specs.declared.expr.Expr.{Expr}
use Rattle.jh_ast.specs.Bare.{expr_tree}
use Rattle.std.proofs.lemmas.Result.{err_from_is_err_and}
use Rattle.jh_operators.proofs.lookahead.Lists.{error-passes}
use Rattle.jh_parse.proofs.expressions.Rests.{with_rest, listed-next, listed-last, listed-none, listed-short, listed-begin}
use Rattle.jh_parse.proofs.expressions.calls.listed.Goals as goal

pub more-init : goal.more-init
more-init c = record {
  whole = ap (λ made. with_rest c.args.tokens.now made (length c.args.tokens.now) c.args.from) c.new-made.ensures.items ∙ listed-begin c.args.tokens.now (length c.args.tokens.now) c.args.from;
  behind = omega arith;
  inside = c.requires;
}

pub returns-in_err-argument-clause-value : goal.returns-in_err-argument-clause-value
returns-in_err-argument-clause-value c =
    let p = err_from_is_err_and c.from_residual.result c.from_residual.ensures.1 in
    rw (p.1, p.2) (error-passes {X = Expr × ℕ} {U = Vec Expr Global × ℕ} (λ r. (expr_tree r.0, r.1)) (λ r. (map expr_tree r.0.items, r.1)) c.in_err-argument.field-0.0 c.in_err-argument.ensures.value (λ e. listed-none c.args.tokens.now c.more.turns c.more.at c.more.made.items _ e c.more.invariant.whole))

pub returns-then-not-is_symbol-clause-value : goal.returns-then-not-is_symbol-clause-value
returns-then-not-is_symbol-clause-value c =
    listed-last c.args.tokens.now c.more.turns c.more.at c.in_ok-argument.next c.in_ok-argument.argument c.more.made.items c.push.new.self.items _ (omega arith) c.in_ok-argument.ensures.value (sym c.is_symbol.ensures.value ∙ c.if-not-is_symbol.true) c.in_ok-push.ensures.items c.more.invariant.whole

pub more-preserved : goal.more-preserved
more-preserved c = record {
  whole = sym (listed-next c.args.tokens.now c.more.turns c.more.at c.in_ok-argument.next c.in_ok-argument.argument c.more.made.items c.push.new.self.items (omega arith) c.in_ok-argument.ensures.value (sym c.is_symbol.ensures.value ∙ c.if-not-is_symbol.false) c.in_ok-push.ensures.items) ∙ c.more.invariant.whole;
  behind = omega (arith, c.more.invariant.behind, c.in_ok-argument.ensures.within);
  inside = omega (arith, c.is_symbol.ensures.within, c.if-not-is_symbol.false);
}

pub returns-clause-value : goal.returns-clause-value
returns-clause-value c = listed-short c.args.tokens.now c.more.turns c.more.at c.more.made.items _ (omega arith) c.more.invariant.whole
