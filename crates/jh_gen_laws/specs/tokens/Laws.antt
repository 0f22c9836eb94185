-- That a made source is cut into tokens, of which kinds these are, and that none is nested too deep.
use Rattle.std.specs.Prelude.{ℕ, ◌≡◌, ◌≤◌, List, map, ◌++◌, ◌∷◌, []}
use Rattle.jh_lex.specs.lexer.Lexes.{Lexes}
use Rattle.jh_lex.specs.declared.lexer.token.Token.{Token}
use Rattle.jh_lex.specs.declared.lexer.token.TokenKind.{TokenKind}
use Rattle.jh_lex.specs.declared.lexer.token.TokenKind.TheVariants as kind
use Rattle.jh_spec.specs.nesting.Nesting.{AllShallow}
use Rattle.jh_gen.specs.Generated.{source}
use Rattle.jh_gen_laws.specs.tokens.Pieces.{source_kinds}

abbrev pub kind_of : Token → TokenKind
kind_of t = t.kind

-- the source of a seed is cut into tokens of these kinds, none of which is nested too deep
pub record IsCut (seed methods : ℕ) : Type 0 where
  pub tokens : List Token
  pub lexes : Lexes (source seed methods) tokens
  pub kinds : map kind_of tokens ≡ source_kinds seed methods ++ kind.End ∷ []
  pub shallow : AllShallow tokens

abbrev pub MadeIsCut : Type 0
MadeIsCut = (seed methods : ℕ) → methods ≤ 200 → IsCut seed methods
