-- The methods of a program, each with its number.
use Rattle.std.specs.Prelude.{ℕ, List, [], ◌∷◌}
use Rattle.jh_name.specs.declared.place.MethodId.{MethodId}
use Rattle.jh_ast.specs.Programs.{ClassPart, MethodPart, ProgramTree}
use Rattle.jh_rules.specs.Words.{text_of}
use Rattle.jh_vars.specs.Written.{Callee}
use Rattle.jh_outline.specs.jh_effects.written_state.Methods.{gathered_from}
use Rattle.jh_obligations.specs.declared.program_sequents.owners.Owner.{Owner}

-- a method: its number, and its class and its own name
pub record Owing : Type 0 where
  pub id : MethodId
  pub callee : Callee

abbrev pub owing : ℕ → ℕ → List ℕ → Owing
owing class number name = record { id = record { class = class; method = number }; callee = record { class = class; name = name } }

-- the methods of a class of a number
abbrev pub method_owing : ℕ → ℕ → MethodPart → List Owing
method_owing class number m = owing class number (text_of m.name) ∷ []

abbrev pub class_owing : ℕ → ClassPart → List Owing
class_owing class c = gathered_from (method_owing class) 0 c.methods

-- the methods of a program in the order of the text
abbrev pub owing_of : ProgramTree → List Owing
owing_of p = gathered_from class_owing 0 p.classes

-- a method as the code holds it
abbrev pub owing_in : Owner → Owing
owing_in o = owing o.id.class o.id.method o.name.now
