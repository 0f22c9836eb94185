use Rattle.std.proofs.Common.{subst, sym}
use Rattle.jh_reply.specs.Causes.{Says, stop_status, stop_text}
use Rattle.jh_reply.proofs.running.reply_to_stop.Goals as goal

-- src/running.rt
pub returns-in-Null : goal.returns-in-Null
returns-in-Null c = subst (λ s. Says (stop_status s) (stop_text s) c.said.result) (sym c.in-Null.is) (c.said.ensures _ c.stopped_line.ensures)

-- src/running.rt
pub returns-in-AssertFailed : goal.returns-in-AssertFailed
returns-in-AssertFailed c = subst (λ s. Says (stop_status s) (stop_text s) c.said-in-AssertFailed.result) (sym c.in-AssertFailed.is) (c.said-in-AssertFailed.ensures _ c.stopped_line-in-AssertFailed.ensures)

-- src/running.rt
pub returns-in-NoObject : goal.returns-in-NoObject
returns-in-NoObject c = subst (λ s. Says (stop_status s) (stop_text s) c.said-in-NoObject.result) (sym c.in-NoObject.is) (c.said-in-NoObject.ensures _ c.stopped_line-in-NoObject.ensures)

-- src/running.rt
pub returns-in-StepsOut : goal.returns-in-StepsOut
returns-in-StepsOut c = subst (λ s. Says (stop_status s) (stop_text s) c.said-in-StepsOut.result) (sym c.in-StepsOut.is) (c.said-in-StepsOut.ensures _ c.steps_out_line.ensures)

-- src/running.rt
pub returns-in-Overflow : goal.returns-in-Overflow
returns-in-Overflow c = subst (λ s. Says (stop_status s) (stop_text s) c.said-in-Overflow.result) (sym c.in-Overflow.is) (c.said-in-Overflow.ensures _ c.stopped_line-in-Overflow.ensures)
