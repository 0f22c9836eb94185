use Rattle.jh_models.proofs.ground_models.Fixing.{fixed-listed, fixed-open}
use Rattle.jh_models.proofs.ground_models.laws.fixpoint_is_open.Goals as goal

pub returns : goal.returns
returns c = record {
  only = λ is ls had h. fixed-listed is ls had h.begins h.fixed;
  is_open = λ is ls had h. fixed-open is ls had h.begins h.fixed;
}
