use Rattle.jh_lex.proofs.lexer.Shaped.{source_has_shape, source_closes, source_ends}
use Rattle.jh_lex.proofs.lexer.lexing.shape_of_tokens.Goals as goal

pub returns-clause-shape : goal.returns-clause-shape
returns-clause-shape c = source_has_shape

pub returns-clause-closed : goal.returns-clause-closed
returns-clause-closed c = source_closes

pub returns-clause-ends : goal.returns-clause-ends
returns-clause-ends c = source_ends
