use Rattle.std.proofs.Common.{ℕ, ap, sym, ◌∙◌}
use Rattle.std.specs.Prelude.{Some}
use Rattle.std.proofs.lemmas.Option.{none-some}
use Rattle.std.specs.declared.alloc.Global.{Global}
use Rattle.std.specs.declared.boxed.Box.{Box}
use Rattle.jh_ast.specs.declared.spec.SpecTree.{SpecTree}
use Rattle.jh_ast.specs.Bare.{form_tree}
use Rattle.jh_spec.specs.parser.Reading.{formula_at}
use Rattle.jh_spec.proofs.parser.Refusals.{refused-none}
use Rattle.jh_operators.proofs.lookahead.Options.{of_found}
use Rattle.jh_spec.proofs.parser.Complete.{formula-complete}
use Rattle.jh_spec.proofs.parser.Sound.{formula-sound}
use Rattle.jh_spec.proofs.parser.answering.shallow_formula.Goals as goal

pub returns-in-Ok : goal.returns-in-Ok
returns-in-Ok c = (c.requires.shallow, of_found (formula-sound c.args.tokens.now c.args.at) (form_tree c.into_inner.result, c.in-Ok.next) (c.in-Ok.ensures.value ∙ ap (λ (t : SpecTree). Some (form_tree t, c.in-Ok.next)) (sym c.into_inner.ensures)))

pub returns-in-Err-Refused : goal.returns-in-Err-Refused
returns-in-Err-Refused c = (c.requires.shallow, λ t s. none-some t (sym (refused-none {X = Box SpecTree Global × ℕ} (λ r. (form_tree r.0.value, r.1)) (formula_at c.args.tokens.now c.args.at) c.in-Err-Refused.field-0 c.in-Err-Refused.near c.in-Err-Refused.field-0-is c.in-Err-Refused.ensures.value) ∙ formula-complete c.args.tokens.now c.args.at t.1 t.0 s), c.start_near.ensures)
