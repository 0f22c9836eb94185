use Rattle.std.proofs.Common.{ap, ◌∙◌}
use Rattle.jh_ast.specs.declared.spec.SpecTree.{SpecTree}
use Rattle.jh_ast.specs.Bare.{form_body_tree}
use Rattle.jh_ast.proofs.Moves.{form-moved}
use Rattle.jh_spec.proofs.parser.formulas.moved.Goals as goal

pub returns : goal.returns
returns c = ap (λ (t : SpecTree). form_body_tree c.place.result t.body) c.deref_mut.ensures.value ∙ ap (λ p. form_body_tree p c.args.inner.value.body) c.place.ensures ∙ form-moved _ c.args.inner.value.place c.args.inner.value.body
