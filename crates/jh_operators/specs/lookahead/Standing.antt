-- What stands at a place of a list of tokens.
use Rattle.std.specs.Prelude.{ℕ, ℤ, ◌+◌, ◌==◌, ◌||◌, ◌≡◌, Bool, true, false, List, Option, None, Some, slice_get, nat_eq}
use Rattle.std.specs.Cmp.Lexicographic.{pointwise}
use Rattle.std.specs.Option.{option_map_or}
use Rattle.jh_name.specs.declared.place.Place.{Place}
use Rattle.jh_lex.specs.declared.lexer.symbol.Symbol.{Symbol}
use Rattle.jh_lex.specs.declared.lexer.token.Token.{Token}
use Rattle.jh_lex.specs.declared.lexer.token.TokenKind.{TokenKind}
use Rattle.jh_lex.specs.declared.lexer.token.TokenKind.TheVariants as kind
use Rattle.jh_lex.specs.lexer.Numbers.{symbol_number, kind_number}
use Rattle.jh_ast.specs.declared.word.Word.{Word}
use Rattle.jh_operators.specs.lookahead.Choices.{choose}

-- the number of the kind of token that stands there, and 83 where there is none
abbrev pub kind_at : List Token → ℕ → ℕ
kind_at ts i = option_map_or (λ (t : Token). kind_number t.kind) (slice_get ts i) 83

-- whether a symbol stands there
abbrev pub is_at : List Token → ℕ → Symbol → Bool
is_at ts i s = kind_at ts i == symbol_number s

abbrev pub is_plain_word_at : List Token → ℕ → Bool
is_plain_word_at ts i = kind_at ts i == 75

abbrev pub is_qualified_at : List Token → ℕ → Bool
is_qualified_at ts i = kind_at ts i == 76

-- a word, plain or qualified
abbrev pub is_name_at : List Token → ℕ → Bool
is_name_at ts i = is_plain_word_at ts i || is_qualified_at ts i

abbrev pub is_number_at : List Token → ℕ → Bool
is_number_at ts i = kind_at ts i == 77

abbrev pub is_spec_open_at : List Token → ℕ → Bool
is_spec_open_at ts i = kind_at ts i == 78

abbrev pub is_spec_close_at : List Token → ℕ → Bool
is_spec_close_at ts i = kind_at ts i == 79

abbrev pub is_quote_open_at : List Token → ℕ → Bool
is_quote_open_at ts i = kind_at ts i == 80

abbrev pub is_quote_close_at : List Token → ℕ → Bool
is_quote_close_at ts i = kind_at ts i == 81

abbrev pub is_end_at : List Token → ℕ → Bool
is_end_at ts i = kind_at ts i == 82

abbrev pub is_word_kind : TokenKind → List ℕ → Bool
is_word_kind (kind.Word n) text = pointwise nat_eq n.text text
is_word_kind k text = false

-- whether a word of that text stands there
abbrev pub is_word_at : List Token → ℕ → List ℕ → Bool
is_word_at ts i text = option_map_or (λ (t : Token). is_word_kind t.kind text) (slice_get ts i) false

-- where the token stands in the source
abbrev pub place_at : List Token → ℕ → Place
place_at ts i = option_map_or (λ (t : Token). t.place) (slice_get ts i) (record { line = 0; column = 0 })

abbrev pub word_of : TokenKind → Place → Option Word
word_of (kind.Word n) p = Some (record { text = n; place = p })
word_of k p = None

abbrev pub name_of : TokenKind → Place → Option Word
name_of (kind.Word n) p = Some (record { text = n; place = p })
name_of (kind.Qualified n) p = Some (record { text = n; place = p })
name_of k p = None

abbrev pub number_of : TokenKind → Option ℤ
number_of (kind.Number z) = Some z
number_of k = None

-- the word that stands there
abbrev pub word_at : List Token → ℕ → Option Word
word_at ts i = option_map_or (λ (t : Token). word_of t.kind t.place) (slice_get ts i) None

-- the word that stands there, plain or qualified
abbrev pub name_at : List Token → ℕ → Option Word
name_at ts i = option_map_or (λ (t : Token). name_of t.kind t.place) (slice_get ts i) None

-- the number that stands there
abbrev pub number_at : List Token → ℕ → Option ℤ
number_at ts i = option_map_or (λ (t : Token). number_of t.kind) (slice_get ts i) None

-- the place after a symbol that has to stand there
unfoldable pub behind : List Token → ℕ → Symbol → Option ℕ
behind ts i s = choose (is_at ts i s) (Some (i + 1)) None

-- a symbol stands there
abbrev pub Is : List Token → ℕ → Symbol → Type 0
Is ts i s = is_at ts i s ≡ true
