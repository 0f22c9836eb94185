use Rattle.jh_models.proofs.ground_models.Growing.{propagated-more, propagated-twice}
use Rattle.jh_models.proofs.ground_models.laws.propagation_grows.Goals as goal

pub returns : goal.returns
returns c = record { more = propagated-more; twice = propagated-twice }
