use Rattle.jh_substitution.proofs.exchange.Keeping.{varied-keeps}
use Rattle.jh_substitution.proofs.exchange.laws.varied_keeps_meaning.Goals as goal

pub returns : goal.returns
returns c = varied-keeps
