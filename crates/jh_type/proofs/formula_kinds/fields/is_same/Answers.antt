use Rattle.std.proofs.Common.{sym, ap, ◌∙◌}
use Rattle.jh_rules.specs.Rules.{rule_27_field, same_state}
use Rattle.jh_rules.specs.Names.{own_name}
use Rattle.jh_rules.specs.Words.{text_of}
use Rattle.jh_symbols.specs.scopes.Lookings.{declared_by}
use Rattle.jh_type.proofs.formula_kinds.Repeats.{same-none, same-some}
use Rattle.jh_type.proofs.formula_kinds.fields.is_same.Goals as goal

pub returns-in-None : goal.returns-in-None
returns-in-None c = sym (same-none (same_state (c.args.entry, c.args.own.now)) (own_name (text_of c.args.word.now)) (rule_27_field (declared_by c.args.lookups.now) c.args.class c.args.word.now).known (sym c.field_named.ensures.known ∙ c.in-None.is))

pub returns-in-Some : goal.returns-in-Some
returns-in-Some c = c.same_state.ensures ∙ ap (λ x. same_state (c.args.entry, c.args.own.now) (c.in-Some.other, x)) (c.own_name.ensures ∙ ap own_name c.text.ensures) ∙ sym (same-some (same_state (c.args.entry, c.args.own.now)) (own_name (text_of c.args.word.now)) (rule_27_field (declared_by c.args.lookups.now) c.args.class c.args.word.now).known c.in-Some.other (sym c.field_named.ensures.known ∙ c.in-Some.is))
