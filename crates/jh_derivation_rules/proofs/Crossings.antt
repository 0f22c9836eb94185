-- Derivations may go to other threads and be shared by them. Each kind of operand is shown once, and not once for each
-- step that has one, which is more than one search may take.
use denote.Param.Send.{IsSend, IsSync, sendable}
use Rattle.std.proofs.Crossing.{crosses}
use Rattle.std.specs.contracts.option.Option as Option
use Rattle.jh_name.proofs.naming.Name.TheSendSync as name
use Rattle.jh_name.proofs.place.Kind.TheSendSync as kind
use Rattle.jh_name.proofs.row.Row.TheSendSync as row
use Rattle.jh_name.specs.contracts.row.Row as Row
use Rattle.jh_form.proofs.form.FieldTerm.TheLaws.TheKnot as knot
use Rattle.jh_form.proofs.mark.Mark.TheSendSync as mark
use Rattle.jh_form.specs.contracts.form.FieldTerm as FieldTerm
use Rattle.jh_form.specs.contracts.form.Formula as Formula
use Rattle.jh_form.specs.contracts.form.Term as Term
use Rattle.jh_form.specs.contracts.form.Value as Value
use Rattle.jh_derivation_rules.specs.contracts.step.Base as Base
use Rattle.jh_derivation_rules.specs.contracts.step.DerivStep as DerivStep
use Rattle.jh_derivation_rules.specs.contracts.step.Derivation as Derivation

ruleset sends = (name.the_field_send, row.the_send, mark.the_field_send, crosses, knot.crosses, sendable)

formula_send : IsSend (Formula.the_field).row
formula_send = search sends depth 20

field_send : IsSend (FieldTerm.the_field).row
field_send = search sends depth 20

term_send : IsSend (Term.the_field).row
term_send = search sends depth 20

value_send : IsSend (Value.the_field).row
value_send = search sends depth 20

fields_send : IsSend (Row.the_field FieldTerm.the_row).row
fields_send = search sends depth 20

pub base_send : IsSend Base.the_row
base_send = search (field_send, term_send, sendable) depth 20

bases_send : IsSend (Option.the_field Base.the_row).row
bases_send = search (base_send, sendable)

pub step_send : IsSend DerivStep.the_row
step_send = search (formula_send, field_send, term_send, value_send, fields_send, bases_send, name.the_field_send, kind.the_field_send, sendable) depth 60 fits 20000

pub derivation_send : IsSend Derivation.the_row
derivation_send = search (row.the_send, step_send, sendable) depth 20

ruleset syncs = (name.the_field_sync, row.the_sync, mark.the_field_sync, crosses, knot.crosses, sendable)

formula_sync : IsSync (Formula.the_field).row
formula_sync = search syncs depth 20

field_sync : IsSync (FieldTerm.the_field).row
field_sync = search syncs depth 20

term_sync : IsSync (Term.the_field).row
term_sync = search syncs depth 20

value_sync : IsSync (Value.the_field).row
value_sync = search syncs depth 20

fields_sync : IsSync (Row.the_field FieldTerm.the_row).row
fields_sync = search syncs depth 20

pub base_sync : IsSync Base.the_row
base_sync = search (field_sync, term_sync, sendable) depth 20

bases_sync : IsSync (Option.the_field Base.the_row).row
bases_sync = search (base_sync, sendable)

pub step_sync : IsSync DerivStep.the_row
step_sync = search (formula_sync, field_sync, term_sync, value_sync, fields_sync, bases_sync, name.the_field_sync, kind.the_field_sync, sendable) depth 60 fits 20000

pub derivation_sync : IsSync Derivation.the_row
derivation_sync = search (row.the_sync, step_sync, sendable) depth 20
