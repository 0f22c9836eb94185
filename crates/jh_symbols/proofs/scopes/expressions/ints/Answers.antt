use Rattle.jh_ast.specs.Bare.{expr_tree}
use Rattle.jh_rules.specs.Faults.{both, ◌>>=◌}
use Rattle.jh_rules.specs.Rules.{rule_18}
use Rattle.jh_symbols.proofs.scopes.expressions.ints.Goals as goal

-- src/expressions.rt
pub returns : goal.returns
returns c = λ j m h k. c.instead.ensures (both (j >>= rule_18 (expr_tree c.args.left.now)) (m >>= rule_18 (expr_tree c.args.right.now))) (c.both.ensures _ _ (c.as_int.ensures j h) (c.as_int-2.ensures m k))
