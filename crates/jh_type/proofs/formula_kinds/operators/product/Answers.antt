use Rattle.jh_ast.specs.Bare.{form_tree}
use Rattle.jh_name.specs.declared.place.Kind.TheVariants as k
use Rattle.jh_rules.specs.Faults.{both}
use Rattle.jh_type.specs.formula_kinds.Parts as parts
use Rattle.jh_type.specs.declared.formula_kinds.operators.Wanted.TheVariants as w
use Rattle.jh_type.proofs.formula_kinds.operators.product.Goals as goal

pub returns : goal.returns
returns c = λ j m h n. c.instead.ensures (both (parts.literal_of c.args.place (form_tree c.args.left.now) j (form_tree c.args.right.now) m) (parts.two w.Number w.Number (form_tree c.args.left.now) j m k.Int)) (c.both.ensures _ _ (c.known_literal-literal.ensures j m h n) (c.two-operands.ensures j m h n))
