use Rattle.jh_logic.proofs.text.Places.{is-written}
use Rattle.jh_logic.proofs.text.laws.spelled_is_written.Goals as goal

pub returns : goal.returns
returns c = is-written
