use Rattle.jh_semantics.specs.LoweredProgram.{ModifiesOf}
use Rattle.jh_logic.proofs.logic.Soundness.{sound}
use Rattle.jh_logic.proofs.logic.laws.valid_makes_sound.Goals as goal

pub returns : goal.returns
returns c = λ source p ws fitting contracts covers valid names. sound p ws fitting contracts covers valid (ModifiesOf source) names
