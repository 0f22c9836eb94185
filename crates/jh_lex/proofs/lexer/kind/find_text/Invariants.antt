use Rattle.std.proofs.Common.{◌≡◌, drop}
use Rattle.jh_lex.specs.lexer.Symbols.{find_text}
use Rattle.jh_lex.proofs.lexer.kind.find_text.Given as goal

abbrev pub invariant-loop-symbol : goal.invariant-loop-symbol
invariant-loop-symbol l = find_text (drop l.symbol-index l.table) l.text ≡ find_text l.table l.text
