use Rattle.jh_gen_laws.proofs.typing.Faultless.{made-is-acyclic}
use Rattle.jh_gen_laws.proofs.typing.laws.made_is_acyclic.Goals as goal

pub returns : goal.returns
returns c = made-is-acyclic
