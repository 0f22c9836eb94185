-- A state in which what has a place in a list gets what stands at the same place of another, where there are both.
use Rattle.std.specs.Prelude.{ℕ, List, Option, Some, slice_get}
use Rattle.jh_form.specs.Meaning.{a_set, a_field}
use Rattle.jh_form.specs.Assigned.{assigned}
use Rattle.jh_semantics.specs.Code.{Text}
use Rattle.jh_semantics.specs.State.{State, named, stored}
use Rattle.jh_semantics.specs.Program.{Member}
use Rattle.jh_semantics.specs.Heaps.{Cell, cell_value, field_value, is_in}

unfoldable pub put_both : {T V : Type 0} → (T → V → State → State) → Option T → Option V → State → State
put_both f (Some t) (Some v) s = f t v s
put_both f _ _ s = s

abbrev pub put_one : {T V : Type 0} → (T → V → State → State) → List T → List V → ℕ → State → State
put_one f ts vs place s = put_both f (slice_get ts place) (slice_get vs place) s

-- a class gets its objects, a static its value, a field those of all objects
abbrev pub class_put : Text → List ℕ → State → State
class_put c xs s = assigned s (named c) (a_set (λ a. is_in a xs))

abbrev pub static_put : Member → Cell → State → State
static_put x cell s = stored s x.text (cell_value cell)

abbrev pub field_put : Member → List Cell → State → State
field_put x cells s = assigned s (named x.text) (a_field (field_value cells))
