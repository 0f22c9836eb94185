use Rattle.jh_fca.proofs.local_form.Shaped.{local-shape}
use Rattle.jh_fca.proofs.local_form.laws.local_has_shape.Goals as goal

pub returns : goal.returns
returns c = local-shape c.eliminated_has_shape.ensures
