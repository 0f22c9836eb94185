use Rattle.jh_gen_laws.proofs.tokens.Sources.{made-is-cut}
use Rattle.jh_gen_laws.proofs.tokens.laws.made_is_cut.Goals as goal

pub returns : goal.returns
returns c = made-is-cut
