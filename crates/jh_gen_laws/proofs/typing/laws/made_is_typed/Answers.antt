use Rattle.jh_gen_laws.proofs.typing.Faultless.{made-is-typed}
use Rattle.jh_gen_laws.proofs.typing.laws.made_is_typed.Goals as goal

pub returns : goal.returns
returns c = made-is-typed
