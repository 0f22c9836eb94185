use Rattle.jh_approx.proofs.free_name_tests.Parts.{free-decide}
use Rattle.jh_approx.proofs.free_name_tests.laws.free_names_decide.Goals as goal

pub returns : goal.returns
returns c = free-decide
