use Rattle.jh_models.proofs.ground_models.Clashing.{clash-unmade}
use Rattle.jh_models.proofs.ground_models.laws.clash_is_sound.Goals as goal

pub returns : goal.returns
returns c = clash-unmade
