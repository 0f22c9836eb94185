use Rattle.std.proofs.Common.{◌≡◌, drop, max}
use Rattle.jh_lex.specs.lexer.Lengths.{sign_length}
use Rattle.jh_lex.proofs.lexer.lexeme.sign_len.Given as goal

abbrev pub invariant-loop-symbol : goal.invariant-loop-symbol
invariant-loop-symbol l = max l.longest (sign_length (drop l.symbol-index l.table) l.text) ≡ sign_length l.table l.text
