-- What the parser of programs answers.
use Rattle.std.specs.Prelude.{List, Result}
use Rattle.jh_lex.specs.declared.lexer.token.Token.{Token}
use Rattle.jh_ast.specs.declared.program.Program.{Program}
use Rattle.jh_ast.specs.Bare.{program_tree}
use Rattle.jh_ast.specs.Programs.{ProgramTree}
use Rattle.jh_spec.specs.declared.parser.error.ParseError.{ParseError}
use Rattle.jh_spec.specs.parser.Parsed.{Parsed}
use Rattle.jh_parse.specs.programs.Members.{Spells}

-- the program that the tokens spell
abbrev pub ParsedProgram : List Token → Result Program ParseError → Type 0
ParsedProgram ts result = Parsed {A = ProgramTree} ts program_tree (λ p. Spells ts p) result
