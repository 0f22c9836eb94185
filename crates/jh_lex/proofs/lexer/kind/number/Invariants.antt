use Rattle.std.proofs.Common.{◌≡◌, ◌<◌, ◌^◌, take}
use Rattle.jh_lex.specs.lexer.Lexemes.{value}
use Rattle.jh_lex.proofs.lexer.kind.number.Given as goal

abbrev pub invariant-loop-c : goal.invariant-loop-c
invariant-loop-c l = record { small : l.value < 2 ^ 63; front : l.value ≡ value (take l.c-index l.digits) }
