use denote.Param.Send.{sendable}
use Rattle.jh_prove.proofs.prover.Crossings.{answer_send, answer_sync}
use Rattle.jh_prove.proofs.prover.answer.answers_can_be_shared.Goals as goal

pub can_be_shared-requires-send-T : goal.can_be_shared-requires-send-T
can_be_shared-requires-send-T c κs = search (answer_send, sendable)

pub can_be_shared-requires-sync-T : goal.can_be_shared-requires-sync-T
can_be_shared-requires-sync-T c κs = search (answer_sync, sendable)
