-- How deep a token is nested. Brackets are `( [ {` and the quote before a formula, and each opens a level; the level of the
-- file is there from the start. The nesting at a token is a sum: each level that is open adds one, but that of the file, and
-- each level adds its counted tokens since its last separator. The token itself is among them.
use Rattle.std.specs.Prelude.{ℕ, ◌+◌, ◌-◌, ◌<◌, ◌≤◌, ◌≡◌, ◌==◌, ◌||◌, ◌&&◌, not, nat_lt, Bool, true, false, if◌then◌else◌, List, [], ◌∷◌, ◌++◌, length, take, sum, slice_set, slice_index, slice_get, Option, None, Some}
use Rattle.std.specs.Option.{option_map_or}
use Rattle.jh_name.specs.declared.place.Place.{Place}
use Rattle.jh_lex.specs.declared.lexer.symbol.Symbol.{Symbol}
use Rattle.jh_lex.specs.declared.lexer.symbol.Symbol.TheVariants as symbol
use Rattle.jh_lex.specs.declared.lexer.mode.Mode.{Mode}
use Rattle.jh_lex.specs.declared.lexer.mode.Mode.TheVariants as mode
use Rattle.jh_lex.specs.declared.lexer.token.Token.{Token}
use Rattle.jh_lex.specs.declared.lexer.token.TokenKind.{TokenKind}
use Rattle.jh_lex.specs.declared.lexer.token.TokenKind.TheVariants as kind
use Rattle.jh_lex.specs.lexer.Modes.{mode_after}
use Rattle.jh_lex.specs.lexer.Numbers.{symbol_number, kind_number}

-- whether a token is that symbol
abbrev pub is : TokenKind → Symbol → Bool
is k s = kind_number k == symbol_number s

-- `( [ {` and the opening quote open a level
abbrev pub opens : TokenKind → Bool
opens kind.QuoteOpen = true
opens k = is k symbol.LeftParenthesis || is k symbol.LeftBracket || is k symbol.LeftBrace

-- `) ] }` and the quote after a formula close the innermost level, whatever opened it
abbrev pub closes : TokenKind → Bool
closes kind.QuoteClose = true
closes k = is k symbol.RightParenthesis || is k symbol.RightBracket || is k symbol.RightBrace

-- what is counted in a level
abbrev pub counts : Mode → TokenKind → Bool
counts mode.Code k = is k symbol.Dot || is k symbol.AmpersandAmpersand || is k symbol.BarBar || is k symbol.EqualEqual || is k symbol.BangEqual || is k symbol.Bang || is k symbol.Plus || is k symbol.Minus || is k symbol.Star || is k symbol.If || is k symbol.Else || is k symbol.While
counts mode.Specification k = false
counts mode.Formula k = is k symbol.Ampersand || is k symbol.Bar || is k symbol.Arrow || is k symbol.Tilde || is k symbol.Plus || is k symbol.Minus || is k symbol.Star || is k symbol.Percent || is k symbol.DotDot || is k symbol.Comma || is k symbol.All || is k symbol.Ex || is k symbol.Old || is k symbol.Card || is k symbol.Union || is k symbol.Intersection

-- behind what the counting of a level begins anew
abbrev pub separates : Mode → TokenKind → Bool
separates mode.Code k = is k symbol.Semicolon || is k symbol.RightBrace || is k symbol.Comma
separates mode.Specification k = is k symbol.Semicolon || is k symbol.RightBrace
separates mode.Formula k = false

-- The counts of the open levels, that of the file first, as far as the token, which is counted itself. The level of the file
-- never closes.
unfoldable pub with_token : Mode → TokenKind → List ℕ → List ℕ
with_token m k levels =
    if opens k then levels ++ 0 ∷ [] else
    if closes k then (if nat_lt 1 (length levels) then take (length levels - 1) levels else levels) else
    if counts m k then slice_set levels (length levels - 1) (slice_index levels (length levels - 1) + 1) else levels

-- behind the token: a separator begins its level anew, but not where the statement goes on
unfoldable pub behind_token : Mode → TokenKind → Bool → List ℕ → List ℕ
behind_token m k goes_on levels =
    if separates m k && not goes_on then slice_set levels (length levels - 1) 0 else levels

-- whether these tokens begin with `else`
abbrev pub is_else : List Token → Bool
is_else ts = option_map_or (λ (t : Token). is t.kind symbol.Else) (slice_get ts 0) false

-- whether these tokens begin with `else` or `(`, so that what stands before them is no whole statement
abbrev pub continues : List Token → Bool
continues ts = option_map_or (λ (t : Token). is t.kind symbol.Else || is t.kind symbol.LeftParenthesis) (slice_get ts 0) false

abbrev pub ends_specification : TokenKind → Bool
ends_specification kind.SpecClose = true
ends_specification k = false

-- whether `else` or `(` stands behind the end of the specification in which these tokens stand
abbrev pub leads_on : List Token → Bool
leads_on [] = false
leads_on (t ∷ ts) = if ends_specification t.kind then continues ts else leads_on ts

-- Whether the statement goes on behind a separator, in front of these tokens: `else` comes, or it is a semicolon of a specification
-- behind whose end `else` or `(` stands. So what specifications hold doesn't hide how deep statements nest round them.
abbrev pub goes_on : Mode → TokenKind → List Token → Bool
goes_on mode.Specification k ts = (is k symbol.Semicolon && leads_on ts) || is_else ts
goes_on m k ts = is_else ts

-- each level but that of the file is one, and its counted tokens
abbrev pub nesting : List ℕ → ℕ
nesting levels = sum levels + (length levels - 1)

-- the nesting at each token
abbrev pub nestings : Mode → List ℕ → List Token → List ℕ
nestings m levels [] = []
nestings m levels (t ∷ ts) = nesting (with_token m t.kind levels) ∷ nestings (mode_after m t.kind) (behind_token m t.kind (goes_on m t.kind ts) (with_token m t.kind levels)) ts

-- the nesting at the token of that index
abbrev pub nesting_at : List Token → ℕ → ℕ
nesting_at ts i = slice_index (nestings mode.Code (0 ∷ []) ts) i

-- the first token that is nested deeper than 64, where there is one
abbrev pub first_deep : List ℕ → List Token → Option Place
first_deep [] ts = None
first_deep (n ∷ ns) [] = None
first_deep (n ∷ ns) (t ∷ ts) = if nat_lt 64 n then Some t.place else first_deep ns ts

-- That place is the place of the first token whose nesting exceeds 64.
pub record IsFirstDeep (ts : List Token) (p : Place) : Type 0 where
  pub index : ℕ
  pub within : index < length ts
  pub deep : 64 < nesting_at ts index
  pub first : (k : ℕ) → k < index → nesting_at ts k ≤ 64
  pub place : option_map_or (λ (t : Token). Some t.place) (slice_get ts index) None ≡ Some p

-- no nesting exceeds 64
abbrev pub AllShallow : List Token → Type 0
AllShallow ts = (k : ℕ) → k < length ts → nesting_at ts k ≤ 64
