-- What the ground search says may go to other threads and be shared by them.
use denote.Param.Send.{IsSend, IsSync, sendable}
use Rattle.std.proofs.Crossing.{crosses}
use Rattle.jh_name.proofs.naming.Name.TheSendSync as name
use Rattle.jh_name.proofs.row.Row.TheSendSync as row
use Rattle.jh_form.proofs.form.FieldTerm.TheLaws.TheKnot as knot
use Rattle.jh_form.proofs.mark.Mark.TheSendSync as mark
use Rattle.jh_closure.specs.contracts.structures.literal.Literal as Literal
use Rattle.jh_derivation_rules.proofs.Crossings.{step_send, step_sync}
use Rattle.jh_derivation_rules.specs.contracts.step.Derivation as Derivation
use Rattle.jh_local.specs.contracts.answer.LocalCause as LocalCause
use Rattle.jh_local.specs.contracts.answer.Searched as Searched

literal_send : IsSend Literal.the_row
literal_send = search (name.the_field_send, row.the_send, mark.the_field_send, crosses, knot.crosses, sendable) depth 20

pub derivation_send : IsSend (Derivation.the_field).row
derivation_send = search (row.the_send, step_send, sendable) depth 20

pub cause_send : IsSend (LocalCause.the_field).row
cause_send = search (row.the_send, literal_send, sendable) depth 40 fits 20000

pub searched_send : IsSend Searched.the_row
searched_send = search (derivation_send, cause_send, sendable) depth 40 fits 20000

literal_sync : IsSync Literal.the_row
literal_sync = search (name.the_field_sync, row.the_sync, mark.the_field_sync, crosses, knot.crosses, sendable) depth 20

pub derivation_sync : IsSync (Derivation.the_field).row
derivation_sync = search (row.the_sync, step_sync, sendable) depth 20

pub cause_sync : IsSync (LocalCause.the_field).row
cause_sync = search (row.the_sync, literal_sync, sendable) depth 40 fits 20000

pub searched_sync : IsSync Searched.the_row
searched_sync = search (derivation_sync, cause_sync, sendable) depth 40 fits 20000
