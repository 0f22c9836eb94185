use Rattle.jh_parse.proofs.programs.MemberComplete.{at_most_one_program}
use Rattle.jh_parse.proofs.programs.laws.at_most_one_program.Goals as goal

pub returns : goal.returns
returns c = at_most_one_program
