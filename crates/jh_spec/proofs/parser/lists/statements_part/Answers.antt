use Rattle.std.proofs.Common.{length, map, ℕ, ap, sym, ◌∙◌, arith}
use Rattle.std.proofs.lemmas.Result.{err_from_is_err_and}
use Rattle.jh_ast.specs.Bare.{stmt_tree}
use Rattle.jh_ast.specs.declared.stmt.Stmt.{Stmt}
use Rattle.std.specs.declared.alloc.Global.{Global}
use Rattle.std.specs.declared.vec.Vec.{Vec}
use Rattle.jh_operators.specs.lookahead.Standing.{is_spec_close_at}
use Rattle.jh_operators.proofs.lookahead.Lists.{many-begin, many-next, many-all, many-none, many-short, error-passes, with_rest}
use Rattle.jh_spec.specs.parser.PartReading as part
use Rattle.jh_spec.proofs.parser.lists.statements_part.Goals as goal

-- nothing is made yet
pub each-init : goal.each-init
each-init c = record {
  whole = ap (λ l. with_rest (is_spec_close_at c.args.tokens.now) (part.statement_at c.args.tokens.now) stmt_tree l (length c.args.tokens.now) c.args.number c.args.from) c.new-made.ensures.items ∙ many-begin (is_spec_close_at c.args.tokens.now) (part.statement_at c.args.tokens.now) stmt_tree (length c.args.tokens.now) c.args.number c.args.from;
  behind = omega arith;
  inside = c.requires;
}

-- one more
pub each-preserved : goal.each-preserved
each-preserved c = record {
  whole = sym (many-next (is_spec_close_at c.args.tokens.now) (part.statement_at c.args.tokens.now) stmt_tree c.each.turns c.each.after c.each.at c.in_ok-one.next c.in_ok-one.number c.in_ok-one.one c.each.made.items c.push.new.self.items (omega (arith, c.if-turns-eq0.false)) (sym c.is_spec_close.ensures.value ∙ c.each-test.true) c.in_ok-one.ensures.value c.in_ok-push.ensures.items) ∙ c.each.invariant.whole;
  behind = omega (arith, c.in_ok-one.ensures.within, c.each.invariant.behind);
  inside = omega (arith, c.in_ok-one.ensures.within);
}

-- there is no turn left
pub returns-then-turns-eq0-clause-value : goal.returns-then-turns-eq0-clause-value
returns-then-turns-eq0-clause-value c = many-short (is_spec_close_at c.args.tokens.now) (part.statement_at c.args.tokens.now) stmt_tree c.each.turns c.each.after c.each.at c.each.made.items _ (omega (arith, c.if-turns-eq0.true)) (sym c.is_spec_close.ensures.value ∙ c.each-test.true) c.each.invariant.whole

-- nothing stands there
pub returns-in_err-one-clause-value : goal.returns-in_err-one-clause-value
returns-in_err-one-clause-value c =
    let p = err_from_is_err_and c.from_residual.result c.from_residual.ensures.1 in
    rw (p.1, p.2) (error-passes {X = Stmt × ℕ × ℕ} {U = Vec Stmt Global × ℕ × ℕ} (λ r. (stmt_tree r.0, r.1, r.2)) (λ r. (map stmt_tree r.0.items, r.1, r.2)) c.in_err-one.field-0.0 c.in_err-one.ensures.value (λ e.
    many-none (is_spec_close_at c.args.tokens.now) (part.statement_at c.args.tokens.now) stmt_tree c.each.turns c.each.after c.each.at c.each.made.items _ (sym c.is_spec_close.ensures.value ∙ c.each-test.true) e c.each.invariant.whole))

-- the list ends
pub returns-clause-value : goal.returns-clause-value
returns-clause-value c = many-all (is_spec_close_at c.args.tokens.now) (part.statement_at c.args.tokens.now) stmt_tree c.each.turns c.each.after c.each.at c.each.made.items _ (sym c.is_spec_close.ensures.value ∙ c.each-test.false) c.each.invariant.whole
