use Rattle.std.proofs.Common.{sym, ap, ◌∙◌, refl}
use Rattle.jh_ast.specs.Bare.{field_part}
use Rattle.jh_rules.specs.Found.{least, lesser}
use Rattle.jh_rules.specs.Statements as statements
use Rattle.jh_symbols.specs.scopes.Lookings.{declared_by}
use Rattle.jh_symbols.proofs.scopes.Lists.{least-next, least-end}
use Rattle.jh_type.proofs.checker.Leasts.{flat-mapped}
use Rattle.jh_type.proofs.checker.faults.all_fields.Goals as goal

pub loop-field-init : goal.loop-field-init
loop-field-init c = refl

pub loop-field-preserved : goal.loop-field-preserved
loop-field-preserved c = least-next (λ x. (statements.field_faults (declared_by c.args.lookups.now)) (field_part x)) c.args.fields.now c.loop-field.field-index c.field-item.result c.loop-field.found c.lesser-found.result c.loop-field-test.true c.field-item.is (c.lesser-found.ensures ∙ ap (lesser c.loop-field.found) c.field_fault.ensures) ∙ c.loop-field.invariant

pub returns : goal.returns
returns c = sym (least-end (λ x. (statements.field_faults (declared_by c.args.lookups.now)) (field_part x)) c.args.fields.now c.loop-field.field-index c.loop-field.found c.loop-field-test.false) ∙ c.loop-field.invariant ∙ ap least (sym (flat-mapped (statements.field_faults (declared_by c.args.lookups.now)) field_part c.args.fields.now))
