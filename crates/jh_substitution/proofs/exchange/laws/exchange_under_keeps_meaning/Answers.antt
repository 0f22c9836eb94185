use Rattle.jh_substitution.proofs.exchange.Keeping.{exchange-under-keeps}
use Rattle.jh_substitution.proofs.exchange.laws.exchange_under_keeps_meaning.Goals as goal

pub returns : goal.returns
returns c = exchange-under-keeps
