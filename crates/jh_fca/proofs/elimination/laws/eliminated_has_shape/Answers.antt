use Rattle.jh_fca.proofs.elimination.Local.{eliminated-has-shape}
use Rattle.jh_fca.proofs.elimination.laws.eliminated_has_shape.Goals as goal

pub returns : goal.returns
returns c = eliminated-has-shape
