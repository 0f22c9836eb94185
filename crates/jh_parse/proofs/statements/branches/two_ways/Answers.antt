use Rattle.std.proofs.Common.{ap, refl, ◌∙◌}
use Rattle.jh_ast.specs.declared.expr.Expr.{Expr}
use Rattle.jh_ast.specs.Bare.{expr_tree, stmt_tree}
use Rattle.jh_ast.specs.Stmts as stmt
use Rattle.jh_operators.specs.lookahead.Standing.{place_at}
use Rattle.jh_parse.proofs.statements.Rests.{branch-with}
use Rattle.jh_parse.proofs.statements.branches.two_ways.Goals as goal

-- src/branches.rt
pub returns : goal.returns
returns c =
    let p = place_at c.args.tokens.now c.args.at in
    branch-with p c.into_inner.result c.args.then c.in_ok-other.other c.args.then.value c.args.other c.at_place.result c.at_place.ensures refl c.in_ok-other.ensures
    ∙ ap (λ (e : Expr). stmt.branch p (expr_tree e) (stmt_tree c.args.then.value) (stmt.more (stmt_tree c.args.other) stmt.none)) c.into_inner.ensures
