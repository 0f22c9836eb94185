-- Which texts are tokens of a mode, and which token each of them is.
use Rattle.std.specs.Prelude.{◌≡◌, ℕ, ◌+◌, ◌*◌, ◌-◌, ◌^◌, ◌≤◌, Bool, true, false, ◌&&◌, ◌==◌, nat_lt, List, [], ◌∷◌, ◌++◌, length, take, if◌then◌else◌, Option, Some, None, is_some, option_map, unwrap_or, pos}
use Rattle.std.specs.List.{list_all, list_any, fold}
use Rattle.std.specs.Char.{is_ascii_digit}
use Rattle.std.specs.Str.{encode_utf8_all}
use Rattle.jh_name.specs.declared.naming.Name.{Name}
use Rattle.jh_lex.specs.lexer.Characters.{starts_word, continues_word, first}
use Rattle.jh_lex.specs.lexer.Symbols.{signs, reserved, find_text}
use Rattle.jh_lex.specs.declared.lexer.mode.Mode.{Mode}
use Rattle.jh_lex.specs.declared.lexer.mode.Mode.TheVariants as mode
use Rattle.jh_lex.specs.declared.lexer.token.TokenKind.{TokenKind}
use Rattle.jh_lex.specs.declared.lexer.token.TokenKind.TheVariants as kind

-- a word: a character that begins one, and then characters that continue one
abbrev pub is_word : List ℕ → Bool
is_word [] = false
is_word (c ∷ cs) = starts_word c && list_all continues_word cs

-- a number: decimal digits, at least one
abbrev pub is_number : List ℕ → Bool
is_number [] = false
is_number (c ∷ cs) = is_ascii_digit c && list_all is_ascii_digit cs

-- a sign of the mode
abbrev pub is_sign : Mode → List ℕ → Bool
is_sign m cs = is_some (find_text (signs m) cs)

-- two words and a dot between them, with nothing else between
pub record IsQualified (cs : List ℕ) : Type 0 where
  pub left : List ℕ
  pub right : List ℕ
  pub left_word : is_word left ≡ true
  pub right_word : is_word right ≡ true
  pub parts : cs ≡ left ++ 46 ∷ right

-- specifications and formulas have qualified words
abbrev pub has_qualified : Mode → Bool
has_qualified mode.Code = false
has_qualified mode.Specification = true
has_qualified mode.Formula = true

-- the text is a token of the mode
pub data IsLexeme (m : Mode) (cs : List ℕ) : Type 0 where
  word : is_word cs ≡ true → IsLexeme m cs
  qualified : has_qualified m ≡ true → IsQualified cs → IsLexeme m cs
  number : is_number cs ≡ true → IsLexeme m cs
  sign : is_sign m cs ≡ true → IsLexeme m cs

-- the first n characters are a token of the mode, and no more than these are one
pub record IsLongest (m : Mode) (n : ℕ) (cs : List ℕ) : Type 0 where
  pub within : n ≤ length cs
  pub lexeme : IsLexeme m (take n cs)
  pub longest : (k : ℕ) → k ≤ length cs → IsLexeme m (take k cs) → k ≤ n

-- the number that decimal digits spell
abbrev pub value : List ℕ → ℕ
value cs = fold (λ n c. n * 10 + (c - 48)) 0 cs

-- the name that a word is, at turn 0
abbrev pub name_of : List ℕ → Name
name_of cs = record { text = encode_utf8_all cs; turn = 0 }

-- a word that its mode reserves is that symbol
abbrev pub word_kind : Mode → List ℕ → TokenKind
word_kind m cs = unwrap_or (option_map kind.Symbol (find_text (reserved m) cs)) (kind.Word (name_of cs))

-- the same, unless it is above the greatest number of 64 bits with a sign
abbrev pub small_value : List ℕ → Option ℕ
small_value cs = if nat_lt (value cs) (2 ^ 63) then Some (value cs) else None

-- a greater number is no token
abbrev pub number_kind : List ℕ → Option TokenKind
number_kind cs = option_map (λ n. kind.Number (pos n)) (small_value cs)

-- what a token is: its first character tells words, numbers and signs apart, and a dot the qualified words
abbrev pub kind_of : Mode → List ℕ → Option TokenKind
kind_of m cs =
    if starts_word (first cs) then Some (if list_any (λ c. c == 46) cs then kind.Qualified (name_of cs) else word_kind m cs)
    else (if is_ascii_digit (first cs) then number_kind cs
    else option_map kind.Symbol (find_text (signs m) cs))
