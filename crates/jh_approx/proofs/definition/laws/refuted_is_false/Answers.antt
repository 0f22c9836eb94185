use Rattle.jh_approx.proofs.definition.Refuting.{refuted-false}
use Rattle.jh_approx.proofs.definition.laws.refuted_is_false.Goals as goal

pub returns : goal.returns
returns c = refuted-false c.classes_may_be_renamed.ensures.same
