use Rattle.jh_ast.specs.Bare.{expr_tree}
use Rattle.jh_rules.specs.Faults.{both, ◌>>=◌}
use Rattle.jh_rules.specs.Rules.{rule_20}
use Rattle.jh_symbols.proofs.scopes.expressions.booleans.Goals as goal

-- src/expressions.rt
pub returns : goal.returns
returns c = λ j m h k. c.instead.ensures (both (j >>= rule_20 (expr_tree c.args.left.now)) (m >>= rule_20 (expr_tree c.args.right.now))) (c.both.ensures _ _ (c.as_boolean.ensures j h) (c.as_boolean-2.ensures m k))
