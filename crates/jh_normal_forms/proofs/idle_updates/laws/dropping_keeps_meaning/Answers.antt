use Rattle.jh_normal_forms.proofs.idle_updates.Droppings.{dropped-means}
use Rattle.jh_normal_forms.proofs.idle_updates.laws.dropping_keeps_meaning.Goals as goal

pub returns : goal.returns
returns c = dropped-means
