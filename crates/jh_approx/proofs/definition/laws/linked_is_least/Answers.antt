use Rattle.jh_approx.proofs.definition.Linkings.{linked-least}
use Rattle.jh_approx.proofs.definition.laws.linked_is_least.Goals as goal

pub returns : goal.returns
returns c = linked-least
