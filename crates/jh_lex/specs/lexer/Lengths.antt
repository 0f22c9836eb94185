-- How long the longest token at the front is, as the code finds it. The contracts of public calls don't cite these.
use Rattle.std.specs.Prelude.{ℕ, nat_lt, List, [], ◌∷◌, length, if◌then◌else◌, max}
use Rattle.std.specs.List.{prefix_len}
use Rattle.std.specs.Char.{is_ascii_digit}
use Rattle.jh_lex.specs.word_front.Lengths as front
unfoldable pub use Rattle.jh_lex.specs.word_front.Lengths.{word_length}
use Rattle.jh_lex.specs.lexer.Lexemes.{has_qualified}
use Rattle.jh_lex.specs.lexer.Symbols.{text_of, signs, begins_with}
use Rattle.jh_lex.specs.declared.lexer.mode.Mode.{Mode}
use Rattle.jh_lex.specs.declared.lexer.symbol.Symbol.{Symbol}

-- how many characters the right half of a qualified word has, whose left half has n characters, or 0
abbrev pub right_length : Mode → ℕ → List ℕ → ℕ
right_length m n cs = front.right_length (has_qualified m) n cs

-- the same of a qualified word, or of a word of n characters where there is none
abbrev pub qualified_length : Mode → ℕ → List ℕ → ℕ
qualified_length m n cs = front.qualified_length (has_qualified m) n cs

-- the same of a symbol, or 0
abbrev pub symbol_length : Symbol → List ℕ → ℕ
symbol_length x cs = if begins_with (text_of x) cs then length (text_of x) else 0

-- the same of the longest sign in the table
unfoldable pub sign_length : List Symbol → List ℕ → ℕ
sign_length [] cs = 0
sign_length (x ∷ xs) cs = max (symbol_length x cs) (sign_length xs cs)

-- the same of the longest token
abbrev pub lexeme_length : Mode → List ℕ → ℕ
lexeme_length m cs =
    if nat_lt 0 (word_length cs) then qualified_length m (word_length cs) cs
    else (if nat_lt 0 (prefix_len is_ascii_digit cs) then prefix_len is_ascii_digit cs
    else sign_length (signs m) cs)
