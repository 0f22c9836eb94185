use Rattle.jh_spec.proofs.parser.Complete.{at_most_one}
use Rattle.jh_spec.proofs.parser.answering.at_most_one_formula.Goals as goal

pub returns : goal.returns
returns c = at_most_one
