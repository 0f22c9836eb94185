use Rattle.jh_gen_laws.proofs.spelling.Programs.{made-is-spelled}
use Rattle.jh_gen_laws.proofs.spelling.laws.made_is_spelled.Goals as goal

pub returns : goal.returns
returns c = made-is-spelled
