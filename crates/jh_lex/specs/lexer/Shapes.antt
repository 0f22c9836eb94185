-- What the tokens of each source have, wherever they stand in it.
use Rattle.std.specs.Prelude.{◌≡◌, ◌≢◌, ℕ, ◌<◌, Bool, not, ◌&&◌, ◌==◌, List, [], ◌∷◌, ◌++◌, length, slice_get, slice_index, Some, codes, pos}
use Rattle.std.specs.List.{AllPass}
use Rattle.jh_name.specs.declared.naming.Name.{Name}
use Rattle.jh_name.specs.declared.place.Place.{Place}
use Rattle.jh_lex.specs.lexer.Modes.{mode_at}
use Rattle.jh_lex.specs.lexer.Texts.{token}
use Rattle.jh_lex.specs.declared.lexer.mode.Mode.{Mode}
use Rattle.jh_lex.specs.declared.lexer.mode.Mode.TheVariants as mode
use Rattle.jh_lex.specs.declared.lexer.token.Token.{Token}
use Rattle.jh_lex.specs.declared.lexer.token.TokenKind.{TokenKind}
use Rattle.jh_lex.specs.declared.lexer.token.TokenKind.TheVariants as kind

-- neither a space, a line feed nor a dot
abbrev pub is_inside_word : ℕ → Bool
is_inside_word b = not (b == 32) && (not (b == 10) && not (b == 46))

-- the bytes of a word: some, and among them no space, line feed or dot
pub record IsWordText (text : List ℕ) : Type 0 where
  pub some : 0 < length text
  pub plain : AllPass is_inside_word text

-- a name as a source spells it: a word, at turn 0
pub record IsWordName (x : Name) : Type 0 where
  pub turn : x.turn ≡ 0
  pub word : IsWordText x.text

-- a qualified name: two words with a dot between them, at turn 0
pub record IsQualifiedName (x : Name) : Type 0 where
  pub turn : x.turn ≡ 0
  pub left : List ℕ
  pub right : List ℕ
  pub left_word : IsWordText left
  pub right_word : IsWordText right
  pub parts : x.text ≡ left ++ 46 ∷ right

-- no dot stands in a text
abbrev pub HasNoDot : List ℕ → Type 0
HasNoDot text = (i : ℕ) → i < length text → slice_index text i ≢ 46

-- What may stand in a mode. `this` is a word in formulas alone, qualified words stand in specifications and formulas, and no number is
-- below 0. Specifications open and close in code, and formulas in specifications.
abbrev pub KindFits : Mode → TokenKind → Type 0
KindFits m (kind.Word x) = IsWordName x × (m ≢ mode.Formula → x.text ≢ codes "this")
KindFits m (kind.Qualified x) = IsQualifiedName x × (m ≢ mode.Code)
KindFits m (kind.Number n) = (k : ℕ) × (n ≡ pos k)
KindFits m (kind.Symbol x) = Unit {0}
KindFits m kind.SpecOpen = m ≡ mode.Code
KindFits m kind.SpecClose = m ≡ mode.Specification
KindFits m kind.QuoteOpen = m ≡ mode.Specification
KindFits m kind.QuoteClose = m ≡ mode.Formula
KindFits m kind.End = m ≡ mode.Code

-- each token fits the mode in which it stands
abbrev pub HasShape : List Token → Type 0
HasShape ts = (i : ℕ) (t : Token) → slice_get ts i ≡ Some t → KindFits (mode_at ts i) t.kind

-- the list ends with End
pub record EndsWithEnd (ts : List Token) : Type 0 where
  pub before : List Token
  pub place : Place
  pub all : ts ≡ before ++ token kind.End place ∷ []
