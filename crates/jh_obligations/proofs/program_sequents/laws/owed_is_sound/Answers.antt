use Rattle.jh_obligations.proofs.program_sequents.Valid.{owed-sound}
use Rattle.jh_obligations.proofs.program_sequents.laws.owed_is_sound.Goals as goal

-- src/laws.rt
pub returns : goal.returns
returns c = owed-sound c.split_is_exact.ensures c.accepted_is_sound.ensures
