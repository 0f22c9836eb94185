-- In which mode the tokens of a source stand.
use Rattle.std.specs.Prelude.{ℕ, List, [], ◌∷◌, take}
use Rattle.jh_lex.specs.declared.lexer.mode.Mode.{Mode}
use Rattle.jh_lex.specs.declared.lexer.mode.Mode.TheVariants as mode
use Rattle.jh_lex.specs.declared.lexer.token.Token.{Token}
use Rattle.jh_lex.specs.declared.lexer.token.TokenKind.{TokenKind}
use Rattle.jh_lex.specs.declared.lexer.token.TokenKind.TheVariants as kind

-- the mode of the token after this one: a specification and a quote open a mode, and their ends close it
abbrev pub mode_after : Mode → TokenKind → Mode
mode_after m kind.SpecOpen = mode.Specification
mode_after m kind.SpecClose = mode.Code
mode_after m kind.QuoteOpen = mode.Formula
mode_after m kind.QuoteClose = mode.Specification
mode_after m k = m

-- the mode after tokens of which the first stands in that mode
abbrev pub mode_after_all : Mode → List Token → Mode
mode_after_all m [] = m
mode_after_all m (t ∷ ts) = mode_after_all (mode_after m t.kind) ts

-- the mode in which the token with that index stands: a source begins as code
abbrev pub mode_at : List Token → ℕ → Mode
mode_at ts i = mode_after_all mode.Code (take i ts)
