use denote.Param.Send.{sendable}
use Rattle.jh_local.proofs.Crossings.{searched_send, searched_sync}
use Rattle.jh_local.proofs.answer.searched_can_be_shared.Goals as goal

pub can_be_shared-requires-send-T : goal.can_be_shared-requires-send-T
can_be_shared-requires-send-T c κs = search (searched_send, sendable)

pub can_be_shared-requires-sync-T : goal.can_be_shared-requires-sync-T
can_be_shared-requires-sync-T c κs = search (searched_sync, sendable)
