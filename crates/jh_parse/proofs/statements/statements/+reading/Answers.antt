use Rattle.std.proofs.Common.{length, map, ℕ, ap, sym, ◌∙◌, arith, Vec, Global}
use Rattle.std.proofs.lemmas.Result.{err_from_is_err_and}
use Rattle.jh_ast.specs.declared.stmt.Stmt.{Stmt}
use Rattle.jh_ast.specs.Bare.{expr_tree, stmt_tree, stmt_trees}
use Rattle.jh_operators.proofs.lookahead.Lists.{error-passes}
use Rattle.jh_parse.specs.statements.Reading as read
use Rattle.jh_parse.proofs.statements.Rests.{with_rest, several-next, several-all, several-none, several-short, several-begin, else-without, else-none, else-with}
use Rattle.jh_parse.proofs.statements.statements.+reading.Goals as goal

-- nothing is made yet
pub several-each-init : goal.several-each-init
several-each-init t c = record {
  whole = ap (λ l. with_rest c.args.tokens.now (read.inside c.args.tokens.now c.args.room) l (length c.args.tokens.now) c.args.number c.args.from) c.new-made.ensures.items ∙ several-begin c.args.tokens.now (read.inside c.args.tokens.now c.args.room) (length c.args.tokens.now) c.args.number c.args.from;
  behind = omega arith;
  inside = c.requires.at_place;
}

-- one more piece
pub several-each-preserved : goal.several-each-preserved
several-each-preserved t c = record {
  whole = sym (several-next c.args.tokens.now (read.inside c.args.tokens.now c.args.room) c.each.turns c.each.after c.each.at c.in_ok-next.next c.in_ok-next.number c.each.made.items c.piece.new.made.items (omega (arith, c.if-turns-eq0.false)) (sym c.is_symbol.ensures.value ∙ c.each-test.true) c.in_ok-next.ensures.value) ∙ c.each.invariant.whole;
  behind = omega (arith, c.in_ok-next.ensures.within, c.each.invariant.behind);
  inside = omega (arith, c.in_ok-next.ensures.within);
}

-- there is no turn left
pub several-returns-then-turns-eq0-clause-value : goal.several-returns-then-turns-eq0-clause-value
several-returns-then-turns-eq0-clause-value t c = several-short c.args.tokens.now (read.inside c.args.tokens.now c.args.room) c.each.turns c.each.after c.each.at c.each.made.items _ (omega (arith, c.if-turns-eq0.true)) (sym c.is_symbol.ensures.value ∙ c.each-test.true) c.each.invariant.whole

-- nothing stands there
pub several-returns-in_err-next-clause-value : goal.several-returns-in_err-next-clause-value
several-returns-in_err-next-clause-value t c =
    let p = err_from_is_err_and c.from_residual.result c.from_residual.ensures.1 in
    rw (p.1, p.2) (error-passes {X = ℕ × ℕ} {U = Vec Stmt Global × ℕ × ℕ} (λ r. (map stmt_tree c.piece.new.made.items, r.0, r.1)) (λ r. (stmt_trees r.0.items, r.1, r.2)) c.in_err-next.field-0.0 c.in_err-next.ensures.value (λ e.
    several-none c.args.tokens.now (read.inside c.args.tokens.now c.args.room) c.each.turns c.each.after c.each.at c.each.made.items _ (sym c.is_symbol.ensures.value ∙ c.each-test.true) e c.each.invariant.whole))

-- the closing brace
pub several-returns-clause-value : goal.several-returns-clause-value
several-returns-clause-value t c = several-all c.args.tokens.now (read.inside c.args.tokens.now c.args.room) c.each.turns c.each.after c.each.at c.each.made.items _ (sym c.is_symbol.ensures.value ∙ c.each-test.false) c.each.invariant.whole

-- a branch without a second part
pub otherwise-returns-then-not-is_symbol-clause-value : goal.otherwise-returns-then-not-is_symbol-clause-value
otherwise-returns-then-not-is_symbol-clause-value t c =
    else-without c.args.tokens.now (read.inside c.args.tokens.now c.args.room) c.args.at (expr_tree c.args.condition.value) (stmt_tree c.args.then.value) c.args.number c.args.next (stmt_tree c.one_way-made.result) (sym c.is_symbol.ensures.value ∙ c.if-not-is_symbol.true) c.one_way-made.ensures

-- no second part stands there
pub otherwise-returns-in_err-other-clause-value : goal.otherwise-returns-in_err-other-clause-value
otherwise-returns-in_err-other-clause-value t c =
    let p = err_from_is_err_and c.from_residual.result c.from_residual.ensures.1 in
    rw (p.1, p.2) (error-passes {X = Stmt × ℕ × ℕ} {U = Stmt × ℕ × ℕ} (λ r. (stmt_tree r.0, r.1, r.2)) (λ r. (stmt_tree r.0, r.1, r.2)) c.in_err-other.field-0.0 c.in_err-other.ensures.value (λ e.
    else-none c.args.tokens.now (read.inside c.args.tokens.now c.args.room) c.args.at (expr_tree c.args.condition.value) (stmt_tree c.args.then.value) c.args.number c.args.next (sym c.is_symbol.ensures.value ∙ c.if-not-is_symbol.false) e))

-- a branch with a second part
pub otherwise-returns-clause-value : goal.otherwise-returns-clause-value
otherwise-returns-clause-value t c =
    else-with c.args.tokens.now (read.inside c.args.tokens.now c.args.room) c.args.at (expr_tree c.args.condition.value) (stmt_tree c.args.then.value) c.args.number c.args.next (stmt_tree c.in_ok-made.made) (stmt_tree c.in_ok-other.other) c.in_ok-other.next c.in_ok-other.number (sym c.is_symbol.ensures.value ∙ c.if-not-is_symbol.false) c.in_ok-other.ensures.value c.in_ok-made.ensures
