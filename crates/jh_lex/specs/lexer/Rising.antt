-- Places rise from token to token.
use Rattle.std.specs.Prelude.{ℕ, ◌≡◌, ◌<◌, ◌⊎◌, List, slice_get, Some}
use Rattle.jh_name.specs.declared.place.Place.{Place}
use Rattle.jh_lex.specs.declared.lexer.token.Token.{Token}
use Rattle.jh_lex.specs.declared.lexer.token.TokenKind.TheVariants as kind

-- a place stands before another: in an earlier line, or earlier in its line
abbrev pub IsBefore : Place → Place → Type 0
IsBefore p q = (p.line < q.line) ⊎ ((p.line ≡ q.line) × (p.column < q.column))

-- a specification that the end of the source closes: its end and End have one place
pub record EndTogether (t u : Token) : Type 0 where
  pub closes : t.kind ≡ kind.SpecClose
  pub ends : u.kind ≡ kind.End
  pub same : u.place ≡ t.place

-- of two tokens the one of the lower index stands before the other, but where the end of the source closes a specification
abbrev pub Rises : List Token → Type 0
Rises ts = (i j : ℕ) (t u : Token) → i < j → slice_get ts i ≡ Some t → slice_get ts j ≡ Some u → IsBefore t.place u.place ⊎ EndTogether t u
