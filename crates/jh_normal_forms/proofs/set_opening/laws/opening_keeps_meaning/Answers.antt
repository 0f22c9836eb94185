use Rattle.jh_normal_forms.proofs.set_opening.SetsOpen.{opened-means}
use Rattle.jh_normal_forms.proofs.set_opening.laws.opening_keeps_meaning.Goals as goal

pub returns : goal.returns
returns c = opened-means
