use Rattle.jh_rules.specs.Rules.{rule_27_field, rule_30_field}
use Rattle.jh_symbols.specs.scopes.Lookings.{declared_by}
use Rattle.jh_type.proofs.formula_kinds.fields.field_state.Goals as goal

pub returns-in-None : goal.returns-in-None
returns-in-None c = c.stop.ensures (rule_27_field (declared_by c.args.lookups.now) c.args.class c.args.word.now) (rule_30_field c.args.word.now) c.field_named-found.ensures c.in-None.is

pub returns-in-Some : goal.returns-in-Some
returns-in-Some c = c.after.ensures (rule_27_field (declared_by c.args.lookups.now) c.args.class c.args.word.now) (rule_30_field c.args.word.now) _ c.field_named-found.ensures c.in-Some.is c.object_field.ensures
