use Rattle.jh_machine_code.proofs.numbering.Standing.{stands_still}
use Rattle.jh_machine_code.proofs.numbering.ObjectSteps.{object_read}
use Rattle.jh_machine_code.proofs.numbering.objects.+object_expr.Goals as goal

-- src/objects.rt
pub returns-in_ok-receiver-in-Read-2-clause-is : goal.returns-in_ok-receiver-in-Read-2-clause-is
returns-in_ok-receiver-in-Read-2-clause-is t c =
    object_read {f = c.in-Read.field} {u = c.in-Read.receiver} {q = c.in-Read.place} {r = c.in_ok-receiver-in-Read-2.receiver} c.in-Read.is (stands_still c.object_expr.ensures.grows c.in_ok-field-in-Read.ensures.is) c.deref.ensures
    c.in_ok-receiver-in-Read-2.ensures.ok c.in_ok-receiver-in-Read.ensures.is
