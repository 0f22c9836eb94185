use Rattle.std.proofs.Common.{refl, sym, ◌∙◌}
use Rattle.jh_reply.specs.Causes.{number_of, reply_due}
use Rattle.jh_reply.proofs.Findings.{delivered-by}
use Rattle.jahob.proofs.top.deliver.Goals as goal

pub returns-then-is_on_out : goal.returns-then-is_on_out
returns-then-is_on_out g c =
    delivered-by (reply_due c.args.reply.now) _ c.text.result.now (number_of c.status.result) _ _ _ (sym c.if-is_on_out.true ∙ c.is_on_out.ensures) c.text.ensures c.status.ensures
    (c.written.ensures, record { written = refl; faults = refl })

pub returns-else-is_on_out : goal.returns-else-is_on_out
returns-else-is_on_out g c =
    delivered-by (reply_due c.args.reply.now) _ c.text-else-is_on_out.result.now (number_of c.status-else-is_on_out.result) _ _ _ (sym c.if-is_on_out.false ∙ c.is_on_out.ensures) c.text-else-is_on_out.ensures c.status-else-is_on_out.ensures
    (c.written-else-is_on_out.ensures, record { written = refl; faults = refl })
