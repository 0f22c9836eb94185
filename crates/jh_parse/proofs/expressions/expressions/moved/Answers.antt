use Rattle.std.proofs.Common.{ap, ◌∙◌}
use Rattle.jh_ast.specs.Bare.{expr_body_tree}
use Rattle.jh_ast.proofs.Moves.{expr-moved}
use Rattle.jh_parse.proofs.expressions.expressions.moved.Goals as goal

pub returns : goal.returns
returns c = ap (λ p. expr_body_tree p c.args.inner.body) c.place.ensures ∙ expr-moved _ c.args.inner.place c.args.inner.body
