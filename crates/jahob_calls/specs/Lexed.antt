-- Tokens of a text.
use Rattle.std.specs.Prelude.{ℕ, List}
use Rattle.jh_lex.specs.lexer.Lexes.{Lexes}
use Rattle.jh_lex.specs.declared.lexer.token.Token.{Token}

-- the tokens are those of some text
abbrev pub IsLexed : List Token → Type 0
IsLexed ts = (bytes : List ℕ) × Lexes bytes ts
