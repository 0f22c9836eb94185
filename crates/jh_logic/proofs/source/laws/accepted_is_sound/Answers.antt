use Rattle.jh_logic.proofs.source.Fits.{is-sound}
use Rattle.jh_logic.proofs.source.laws.accepted_is_sound.Goals as goal

pub returns : goal.returns
returns c = is-sound
