use Rattle.std.proofs.Common.{◌≡◌, ◌+◌, drop}
use Rattle.std.specs.Option.{option_map}
use Rattle.jh_lex.specs.lexer.Ends.{close_at}
use Rattle.jh_lex.proofs.lexer.ends.close_at.Given as goal

abbrev pub invariant-loop-i : goal.invariant-loop-i
invariant-loop-i l = close_at l.text ≡ option_map (λ n. l.i + n) (close_at (drop l.i l.text))
