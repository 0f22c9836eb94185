use denote.Param.Send.{sendable}
use Rattle.jh_derivation_rules.proofs.Crossings.{derivation_send, derivation_sync, step_send, step_sync, base_send, base_sync}
use Rattle.jh_derivation_rules.proofs.step.derivations_can_be_shared.Goals as goal

pub can_be_shared-requires-send-T : goal.can_be_shared-requires-send-T
can_be_shared-requires-send-T c κs = search (derivation_send, sendable)

pub can_be_shared-requires-sync-T : goal.can_be_shared-requires-sync-T
can_be_shared-requires-sync-T c κs = search (derivation_sync, sendable)

pub can_be_shared-requires-2-send-T : goal.can_be_shared-requires-2-send-T
can_be_shared-requires-2-send-T c κs = search (step_send, sendable)

pub can_be_shared-requires-2-sync-T : goal.can_be_shared-requires-2-sync-T
can_be_shared-requires-2-sync-T c κs = search (step_sync, sendable)

pub can_be_shared-requires-3-send-T : goal.can_be_shared-requires-3-send-T
can_be_shared-requires-3-send-T c κs = search (base_send, sendable)

pub can_be_shared-requires-3-sync-T : goal.can_be_shared-requires-3-sync-T
can_be_shared-requires-3-sync-T c κs = search (base_sync, sendable)
