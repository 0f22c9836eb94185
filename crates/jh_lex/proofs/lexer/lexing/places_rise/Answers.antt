use Rattle.jh_lex.proofs.lexer.Rises.{source_rises}
use Rattle.jh_lex.proofs.lexer.lexing.places_rise.Goals as goal

pub returns : goal.returns
returns c = source_rises
