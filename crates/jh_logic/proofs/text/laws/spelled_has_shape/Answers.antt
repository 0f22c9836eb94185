use Rattle.jh_logic.proofs.text.Members.{has-shape}
use Rattle.jh_logic.proofs.text.laws.spelled_has_shape.Goals as goal

pub returns : goal.returns
returns c = has-shape
