-- The methods of a program in a list, with the code of each.
use Rattle.std.specs.Prelude.{ℕ, ◌+◌, ◌&&◌, if◌then◌else◌, nat_eq, List, [], ◌∷◌, ◌++◌, map, Option, Some, None}
use Rattle.jh_ast.specs.Programs.{ProgramTree, ClassPart, MethodPart}
use Rattle.jh_rules.specs.Words.{same_text, text_of}
use Rattle.jh_vars.specs.Written.{Callee}
use Rattle.jh_semantics.specs.Code.{Text}
use Rattle.jh_semantics.specs.Program.{Method}
use Rattle.jh_semantics.specs.LoweredProgram as program
use Rattle.jh_semantics.specs.typed_code.Statements.{method_in}
use Rattle.jh_outline.specs.declared.declarations.listing.ClassMethod.{ClassMethod}

-- a method, by the number of its class and its own name
pub record Known : Type 0 where
  pub class : ℕ
  pub name : Text
  pub method : Method

-- the first of a list that has the class and the name of a callee
abbrev pub found : Callee → List Known → Option Method
found m [] = None
found m (x ∷ xs) = if nat_eq x.class m.class && same_text x.name m.name then Some x.method else found m xs

module _ (p : ProgramTree) where
  -- what a method of a list stands for
  abbrev pub known_in : ClassMethod → Known
  known_in x = record { class = x.class; name = x.name; method = method_in p x.code }

  -- a method of a class
  abbrev pub known_of : ℕ → MethodPart → Known
  known_of n m = record { class = n; name = text_of m.name; method = program.method_code p n m }

  -- the methods of the classes from number n on, in the order of the text
  unfoldable pub methods_from : ℕ → List ClassPart → List Known
  methods_from n [] = []
  methods_from n (c ∷ cs) = map (known_of n) c.methods ++ methods_from (n + 1) cs

  abbrev pub methods_of : List Known
  methods_of = methods_from 0 p.classes
