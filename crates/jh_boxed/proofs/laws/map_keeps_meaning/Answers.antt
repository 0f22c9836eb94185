use Rattle.jh_boxed.proofs.Meanings.{datum-mapped}
use Rattle.jh_boxed.proofs.laws.map_keeps_meaning.Goals as goal

pub returns : goal.returns
returns c l m n view keeps = datum-mapped l m n view keeps
