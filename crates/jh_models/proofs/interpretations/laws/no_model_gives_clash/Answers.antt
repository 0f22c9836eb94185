use Rattle.jh_models.proofs.interpretations.Modelled.{no-model-clash}
use Rattle.jh_models.proofs.interpretations.laws.no_model_gives_clash.Goals as goal

pub returns : goal.returns
returns c = no-model-clash
