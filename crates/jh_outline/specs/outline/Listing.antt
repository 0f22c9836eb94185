-- Methods of a list one by one: their code, their places, and the members that are framed.
use Rattle.std.specs.Prelude.{ℕ, List}
use Rattle.jh_ast.specs.Bare.{method_part}
use Rattle.jh_ast.specs.Programs.{ProgramTree}
use Rattle.jh_semantics.specs.Program.{Method}
use Rattle.jh_semantics.specs.LoweredProgram.{method_code}
use Rattle.jh_effects.specs.written_state.Chosen.{places_below}
use Rattle.jh_effects.specs.written_state.Methods.{callee_of, places_in}
use Rattle.jh_effects.specs.declared.written_state.methods.Listed.{Listed}
use Rattle.jh_effects.specs.declared.written_state.places.MethodPlaces.{MethodPlaces}
use Rattle.jh_outline.specs.outline.Framing.{is_framed}

abbrev pub code_of : ProgramTree → Listed → Method
code_of p l = method_code p l.class (method_part l.method.now)

abbrev pub places_of : MethodPlaces → Listed → List ℕ
places_of places l = places_in places (callee_of l)

-- with so many sets before so many members
abbrev pub framed_for : MethodPlaces → MethodPlaces → ℕ → ℕ → Listed → List ℕ
framed_for written modified sets members l = places_below (is_framed (places_of written l) (places_of modified l) sets) members
