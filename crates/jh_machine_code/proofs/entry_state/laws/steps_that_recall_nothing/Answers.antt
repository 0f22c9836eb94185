use Rattle.jh_machine_code.proofs.entry_state.Unkept.{nothing-recalled}
use Rattle.jh_machine_code.proofs.entry_state.laws.steps_that_recall_nothing.Goals as goal

pub returns : goal.returns
returns c = nothing-recalled
