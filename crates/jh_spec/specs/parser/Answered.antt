-- What `formula` and `spec` answer.
use Rattle.std.specs.Prelude.{ℕ, List, Result}
use Rattle.jh_lex.specs.declared.lexer.token.Token.{Token}
use Rattle.jh_ast.specs.declared.spec.SpecTree.{SpecTree}
use Rattle.jh_ast.specs.Bare.{form_tree}
use Rattle.jh_ast.specs.Forms.{FormTree}
use Rattle.jh_spec.specs.declared.parser.error.ParseError.{ParseError}
use Rattle.jh_spec.specs.declared.parser.part.SpecPart.{SpecPart}
use Rattle.jh_spec.specs.parser.Formulas.{Spelled}
use Rattle.jh_spec.specs.parser.Parsed.{Parsed}
use Rattle.jh_spec.specs.parser.Parts.{Part, PartTree}
use Rattle.jh_spec.specs.parser.PartReads.{part_tree}

-- the formula that begins at a place, and the place of the quote that closes it
abbrev pub ParsedForm : List Token → ℕ → Result (SpecTree × ℕ) ParseError → Type 0
ParsedForm ts i result = Parsed {A = FormTree × ℕ} ts (λ r. (form_tree r.0, r.1)) (λ t. Spelled ts i t.0 t.1) result

-- the contents of a specification that begin at a place, and the place of the token that closes it
abbrev pub ParsedPart : List Token → ℕ → Result (SpecPart × ℕ) ParseError → Type 0
ParsedPart ts i result = Parsed {A = PartTree × ℕ} ts (λ r. (part_tree r.0, r.1)) (λ p. Part ts i p.0 p.1) result
