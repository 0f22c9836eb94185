-- What the lowering of a program goes by.
use Rattle.std.specs.Prelude.{◌≡◌, ℕ, List, [], slice_get}
use Rattle.std.specs.Option.{option_map_or}
use Rattle.jh_ast.specs.Bare.{program_tree}
use Rattle.jh_ast.specs.declared.program.Class.{Class}
use Rattle.jh_ast.specs.Programs.{ProgramTree}
use Rattle.jh_rules.specs.Words.{text_of}
use Rattle.jh_rules.specs.Names.{declared_in}
use Rattle.jh_symbols.specs.scopes.Lookings.{declared_by}
use Rattle.jh_semantics.specs.Code as c
use Rattle.jh_semantics.specs.typed_code.Codes.{object_code, number_code, truth_code}
use Rattle.jh_lowering.specs.declared.context.Context.{Context}
use Rattle.jh_lowering.specs.declared.making.BoxedCode.{BoxedCode}
use Rattle.jh_lowering.specs.declared.making.BoxedCode.TheVariants as b

-- the program of a context
abbrev pub source_of : Context → ProgramTree
source_of c = program_tree c.program.now

-- the context looks up what its program declares
abbrev pub IsDeclared : Context → Type 0
IsDeclared c = declared_by c.lookups.now ≡ declared_in (source_of c)

-- the text of the class of a number
abbrev pub spelled : List Class → ℕ → List ℕ
spelled cs n = option_map_or (λ (c : Class). text_of c.name) (slice_get cs n) []

-- what the code in a box stands for
abbrev pub boxed_code : BoxedCode → c.AnyCode
boxed_code (b.Object a) = c.an_object (object_code a.value)
boxed_code (b.Number a) = c.a_number (number_code a.value)
boxed_code (b.Truth a) = c.a_truth (truth_code a.value)
