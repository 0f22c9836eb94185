-- That the tokens of a made source spell a made program.
use Rattle.std.specs.Prelude.{ℕ, ◌≡◌, List, [], ◌∷◌, ◌++◌, map}
use Rattle.jh_lex.specs.declared.lexer.token.Token.{Token}
use Rattle.jh_lex.specs.declared.lexer.token.TokenKind.TheVariants as kind
use Rattle.jh_ast.specs.Programs.{ProgramTree}
use Rattle.jh_obligations.specs.jh_parse.programs.Members.{Spells}
use Rattle.jh_gen_laws.specs.tokens.Laws.{kind_of}
use Rattle.jh_gen_laws.specs.tokens.Pieces.{source_kinds}
use Rattle.jh_gen_laws.specs.typing.Trees.{IsMade}

-- tokens spell a program that a made source with so many methods spells
pub record SpellMade (ts : List Token) (methods : ℕ) : Type 0 where
  pub program : ProgramTree
  pub spelled : Spells ts program
  pub is : IsMade methods program

abbrev pub MadeIsSpelled : Type 0
MadeIsSpelled = (seed methods : ℕ) (ts : List Token) → map kind_of ts ≡ source_kinds seed methods ++ kind.End ∷ [] → SpellMade ts methods
