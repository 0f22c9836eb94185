use Rattle.std.proofs.Common.{subst, sym}
use Rattle.jh_reply.specs.Causes.{Says, heap_status, heap_text}
use Rattle.jh_reply.proofs.running.reply_to_heap_error.Goals as goal

-- src/running.rt
pub returns-in-BadLine : goal.returns-in-BadLine
returns-in-BadLine c = subst (λ e. Says (heap_status e) (heap_text e) c.said.result) (sym c.in-BadLine.is) (c.said.ensures _ c.bad_line.ensures)

-- src/running.rt
pub returns-in-NotWellFormed : goal.returns-in-NotWellFormed
returns-in-NotWellFormed c = subst (λ e. Says (heap_status e) (heap_text e) c.said-in-NotWellFormed.result) (sym c.in-NotWellFormed.is) (c.said-in-NotWellFormed.ensures _ c.ill_line.ensures)
