use Rattle.jh_logic.proofs.text.Members.{has-shape}
use Rattle.jh_logic.proofs.text.Places.{is-placed}
use Rattle.jh_logic.proofs.text.laws.spelled_is_accepted.Goals as goal

pub returns : goal.returns
returns c = λ ts p shape rises spells fine. record { shape = has-shape ts p shape spells; placed = is-placed ts p rises spells; fine = fine }
