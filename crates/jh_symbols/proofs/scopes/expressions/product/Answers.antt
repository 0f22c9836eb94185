use Rattle.jh_ast.specs.Bare.{expr_tree}
use Rattle.jh_rules.specs.declared.types.Ty.TheVariants as ty
use Rattle.jh_rules.specs.Faults.{both}
use Rattle.jh_rules.specs.Rules.{rule_18}
use Rattle.jh_symbols.specs.scopes.Asking as asking
use Rattle.jh_symbols.proofs.scopes.expressions.product.Goals as goal

-- src/expressions.rt
pub returns : goal.returns
returns c = λ j m h k. c.instead.ensures (both (asking.two rule_18 (expr_tree c.args.left.now) j (expr_tree c.args.right.now) m ty.Int) (asking.literal_of c.args.place (expr_tree c.args.left.now) j (expr_tree c.args.right.now) m)) (c.both.ensures _ _ (c.ints-operands.ensures j m h k) (c.known_literal-literal.ensures j m h k))
