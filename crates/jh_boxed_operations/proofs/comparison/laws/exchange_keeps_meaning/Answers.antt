use Rattle.jh_boxed_operations.proofs.comparison.ExchangeMeanings.{exchange-keeps}
use Rattle.jh_boxed_operations.proofs.comparison.laws.exchange_keeps_meaning.Goals as goal

pub returns : goal.returns
returns c = exchange-keeps
