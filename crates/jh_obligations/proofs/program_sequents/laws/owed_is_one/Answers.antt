use Rattle.jh_obligations.proofs.program_sequents.Unique.{one-owed}
use Rattle.jh_obligations.proofs.program_sequents.laws.owed_is_one.Goals as goal

-- src/laws.rt
pub returns : goal.returns
returns c = one-owed
