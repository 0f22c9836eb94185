use Rattle.jh_lex.proofs.lexer.Unique.{one_list}
use Rattle.jh_lex.proofs.lexer.lexing.at_most_one_list.Goals as goal

pub returns : goal.returns
returns c = one_list
