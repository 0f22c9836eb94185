use Rattle.std.proofs.Common.{ap, refl, ◌∙◌}
use Rattle.jh_ast.specs.declared.expr.Expr.{Expr}
use Rattle.jh_ast.specs.Bare.{expr_tree, stmt_tree}
use Rattle.jh_ast.specs.Stmts as stmt
use Rattle.jh_operators.specs.lookahead.Standing.{place_at}
use Rattle.jh_parse.proofs.statements.Rests.{branch-without}
use Rattle.jh_parse.proofs.statements.branches.one_way.Goals as goal

-- src/branches.rt
pub returns : goal.returns
returns c =
    let p = place_at c.args.tokens.now c.args.at in
    branch-without p c.into_inner.result c.args.then c.args.then.value c.at_place.result c.at_place.ensures refl ∙ ap (λ (e : Expr). stmt.branch p (expr_tree e) (stmt_tree c.args.then.value) stmt.none) c.into_inner.ensures
