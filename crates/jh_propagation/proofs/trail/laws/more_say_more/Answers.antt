use Rattle.jh_models.proofs.ground_models.Growing.{false-more, true-more, some-false-more}
use Rattle.jh_propagation.proofs.trail.laws.more_say_more.Goals as goal

pub returns : goal.returns
returns c = record { makes_false = false-more; makes_true = true-more; some_false = some-false-more }
