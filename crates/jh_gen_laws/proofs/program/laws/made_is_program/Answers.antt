use Rattle.jh_gen_laws.proofs.program.Programs.{is-program}
use Rattle.jh_gen_laws.proofs.program.laws.made_is_program.Goals as goal

pub returns : goal.returns
returns c = is-program c.made_is_cut.ensures c.made_is_spelled.ensures c.made_is_typed.ensures c.made_is_acyclic.ensures c.made_owes_few.ensures
