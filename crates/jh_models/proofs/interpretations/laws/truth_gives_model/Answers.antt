use Rattle.jh_models.proofs.interpretations.Modelled.{truth-model}
use Rattle.jh_models.proofs.interpretations.laws.truth_gives_model.Goals as goal

pub returns : goal.returns
returns c = λ is k m h. truth-model m is k h
