use Rattle.jh_ast.specs.Bare.{expr_tree}
use Rattle.jh_rules.specs.Rules.{rule_20}
use Rattle.jh_symbols.proofs.scopes.expressions.as_boolean.Goals as goal

-- src/expressions.rt
pub returns-in-Some : goal.returns-in-Some
returns-in-Some c = λ j h. c.after.ensures j (rule_20 (expr_tree c.args.expr.now)) c.in-Some.ty h c.in-Some.is c.needs_boolean.ensures
