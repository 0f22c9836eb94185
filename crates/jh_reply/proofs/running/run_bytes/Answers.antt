use Rattle.std.proofs.Common.{inl}
use Rattle.jh_reply.proofs.running.run_bytes.Goals as goal

-- src/running.rt
pub returns-in-Err-clause-fits : goal.returns-in-Err-clause-fits
returns-in-Err-clause-fits g c = inl (c.reply_to_refusal.ensures c.args.bytes.now c.in-Err.ensures.why)
