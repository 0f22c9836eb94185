use Rattle.std.proofs.Common.{◌≡◌, take}
use Rattle.jh_lex.specs.lexer.Places.{after}
use Rattle.jh_lex.proofs.lexer.cursor.after.Given as goal

abbrev pub invariant-loop-c : goal.invariant-loop-c
invariant-loop-c l = l.at ≡ after l.fn.place (take l.c-index l.text)
