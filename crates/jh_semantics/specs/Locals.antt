-- The parameters and locals of a state. The text of a static has a dot, that of a parameter, a local and `this` has none, since no
-- declared name has one; and neither is ever a set or a field, which are all state.
use Rattle.std.specs.Prelude.{ℕ, ◌==◌, pos, Bool, false, if◌then◌else◌, List, ◌∷◌}
use Rattle.std.specs.List.{list_any}
use Rattle.jh_form.specs.Meaning.{Datum, an_object}
use Rattle.jh_form.specs.Assigned.{assigned}
use Rattle.jh_semantics.specs.Code.{Text, Local}
use Rattle.jh_semantics.specs.Program.{Method}
use Rattle.jh_semantics.specs.State.{State, this_name, stored}

abbrev pub has_dot : Text → Bool
has_dot x = list_any (λ k. k == 46) x

-- a state with the parameters and locals of another
abbrev pub with_locals_of : State → State → State
with_locals_of s t = record s {
  object = λ x. if has_dot x.text then s.object x else t.object x;
  number = λ x. if has_dot x.text then s.number x else t.number x;
  truth = λ x. if has_dot x.text then s.truth x else t.truth x;
}

-- all locals have their defaults
abbrev pub without_locals : State → State
without_locals s = record s {
  object = λ x. if has_dot x.text then s.object x else 0;
  number = λ x. if has_dot x.text then s.number x else pos 0;
  truth = λ x. if has_dot x.text then s.truth x else false;
}

-- each parameter has its argument
abbrev pub with_args : List Local → List Datum → State → State
with_args (x ∷ xs) (d ∷ ds) s = stored (with_args xs ds s) x.text d
with_args _ _ s = s

-- the state in which the body of a method begins: the locals are new, and `this` and the parameters are given
abbrev pub entered : Method → ℕ → List Datum → State → State
entered m this args s = with_args m.params args (assigned (without_locals s) this_name (an_object this))
