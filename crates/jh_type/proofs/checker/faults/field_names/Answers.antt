use Rattle.std.proofs.Common.{sym, ap, ◌∙◌, refl}
use Rattle.jh_ast.specs.declared.program.Field.{Field}
use Rattle.jh_rules.specs.Found.{lesser}
use Rattle.jh_symbols.specs.scopes.Firsts.{is_behind}
use Rattle.jh_symbols.proofs.scopes.Lists.{least-next, least-end}
use Rattle.jh_type.specs.checker.Parts as parts
use Rattle.jh_type.proofs.checker.faults.field_names.Goals as goal

pub loop-field-init : goal.loop-field-init
loop-field-init c = refl

pub loop-field-preserved : goal.loop-field-preserved
loop-field-preserved c = least-next (λ (x : Field). parts.member_faults (is_behind c.args.words.now) x.name) c.args.fields.now c.loop-field.field-index c.field-item.result c.loop-field.found c.lesser-found.result c.loop-field-test.true c.field-item.is (c.lesser-found.ensures ∙ ap (lesser c.loop-field.found) c.member_fault.ensures) ∙ c.loop-field.invariant

pub returns : goal.returns
returns c = sym (least-end (λ (x : Field). parts.member_faults (is_behind c.args.words.now) x.name) c.args.fields.now c.loop-field.field-index c.loop-field.found c.loop-field-test.false) ∙ c.loop-field.invariant
