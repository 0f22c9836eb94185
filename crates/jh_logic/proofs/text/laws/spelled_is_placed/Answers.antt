use Rattle.jh_logic.proofs.text.Places.{is-placed}
use Rattle.jh_logic.proofs.text.laws.spelled_is_placed.Goals as goal

pub returns : goal.returns
returns c = is-placed
