use Rattle.std.proofs.Common.{List, Result, length}
use Rattle.jh_lex.specs.lexer.Reports.{ReadsText}
use Rattle.jh_lex.specs.lexer.Texts.{CodeStep}
use Rattle.jh_lex.specs.declared.lexer.error.LexError.{LexError}
use Rattle.jh_lex.specs.declared.lexer.token.Token.{Token}
use Rattle.jh_lex.proofs.lexer.code.code.Given as goal

-- what reads the rest reads the whole
abbrev pub invariant-loop-at : goal.invariant-loop-at
invariant-loop-at l = (new : List Token) (r : Result (Unit {0}) LexError) → ReadsText CodeStep l.at.place l.at.rest.now l.out.items new r → ReadsText CodeStep l.initial.at.place l.initial.at.rest.now l.initial.out.items new r

abbrev pub decreases-loop-at : goal.decreases-loop-at
decreases-loop-at l = length l.at.rest.now
