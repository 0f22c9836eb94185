use Rattle.jh_form.proofs.Coincidences.{datum-agrees}
use Rattle.jh_form.proofs.laws.names_decide_meaning.Goals as goal

pub returns : goal.returns
returns c p m n both = datum-agrees p m n both
