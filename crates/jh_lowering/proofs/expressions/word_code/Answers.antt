use Rattle.std.proofs.Common.{◌≡◌, sym, ap, ◌∙◌, subst, IfOk, Some, None}
use Rattle.jh_rules.specs.Words.{text_of}
use Rattle.jh_symbols.specs.scopes.Lookings.{declared_by, scope_by}
use Rattle.jh_semantics.specs.Code as code
use Rattle.jh_lowering.specs.Lowering.{boxed_code, source_of}
use Rattle.jh_lowering.proofs.Resolving.{field-is, word-is}
use Rattle.jh_lowering.proofs.expressions.word_code.Goals as goal

pub returns-in-None-field_of : goal.returns-in-None-field_of
returns-in-None-field_of c = subst (λ (x : code.AnyCode). IfOk c.null_code.result (λ made. boxed_code made ≡ x)) (word-is (source_of c.args.context.now) (scope_by c.args.at.now) c.args.word.now None None (ap (scope_by c.args.at.now).local (sym c.text-text.ensures) ∙ sym c.local.ensures ∙ c.in-None.is) (field-is c.args.context.now c.requires c.args.at.now.class (text_of c.args.word.now) None (sym c.in-None-field_of.is ∙ c.field_of.ensures ∙ ap (λ x. (declared_by c.args.context.now.lookups.now).field_of c.args.at.now.class x) c.text-text.ensures))) c.null_code.ensures

pub returns-in-Some-field_of : goal.returns-in-Some-field_of
returns-in-Some-field_of c = subst (λ (x : code.AnyCode). IfOk c.own_code.result (λ made. boxed_code made ≡ x)) (word-is (source_of c.args.context.now) (scope_by c.args.at.now) c.args.word.now None (Some c.in-Some-field_of.entry) (ap (scope_by c.args.at.now).local (sym c.text-text.ensures) ∙ sym c.local.ensures ∙ c.in-None.is) (field-is c.args.context.now c.requires c.args.at.now.class (text_of c.args.word.now) (Some c.in-Some-field_of.entry) (sym c.in-Some-field_of.is ∙ c.field_of.ensures ∙ ap (λ x. (declared_by c.args.context.now.lookups.now).field_of c.args.at.now.class x) c.text-text.ensures))) c.own_code.ensures
