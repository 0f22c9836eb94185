use Rattle.jh_gen_laws.proofs.sequent_count.Programs.{made-owes-few}
use Rattle.jh_gen_laws.proofs.sequent_count.laws.made_owes_few.Goals as goal

pub returns : goal.returns
returns c = made-owes-few
