use Rattle.jh_lex.proofs.lexer.Unique.{one_fault, fault_or_list}
use Rattle.jh_lex.proofs.lexer.lexing.at_most_one_fault.Goals as goal

pub returns-clause-one : goal.returns-clause-one
returns-clause-one c = one_fault

pub returns-clause-none : goal.returns-clause-none
returns-clause-none c = fault_or_list
