use Rattle.std.proofs.Common.{subst, sym}
use Rattle.jh_reply.specs.Causes.{IsFaultReply}
use Rattle.jh_reply.proofs.reply.reply_to_fault.Goals as goal

-- src/reply.rt
pub returns-in-Failed : goal.returns-in-Failed
returns-in-Failed c = subst (λ e. IsFaultReply c.args.file.now e c.said.result) (sym c.in-Failed.is) (c.said.ensures _ c.fault_line.ensures)

-- src/reply.rt
pub returns-in-TooLong : goal.returns-in-TooLong
returns-in-TooLong c = subst (λ e. IsFaultReply c.args.file.now e c.said-in-TooLong.result) (sym c.in-TooLong.is) (c.said-in-TooLong.ensures _ c.fault_line-in-TooLong.ensures)
