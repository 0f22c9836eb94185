use Rattle.jh_propagation.proofs.trail.Connectives.{other-alone, other-beside}
use Rattle.jh_propagation.proofs.trail.laws.others_say_nothing.Goals as goal

pub returns : goal.returns
returns c = record { alone = other-alone; beside = λ ls k l i none h. other-beside ls k i none l h }
