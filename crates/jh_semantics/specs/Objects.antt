-- New objects and where values go.
use Rattle.std.specs.Prelude.{ℕ, zero, suc, ◌&&◌, ◌||◌, ◌==◌, not, nat_lt, Bool, if◌then◌else◌, List, [], ◌∷◌, ◌++◌, filter}
use Rattle.jh_name.specs.declared.naming.Name.{Name}
use Rattle.jh_name.specs.declared.place.Place.{Place}
use Rattle.jh_form.specs.Meaning.{Datum, a_set}
use Rattle.jh_form.specs.Assigned.{assigned}
use Rattle.jh_semantics.specs.Code.{Text, ObjectCode, Target}
use Rattle.jh_semantics.specs.Code as c
use Rattle.jh_semantics.specs.State.{State, named, alloc_name, stored, stored_at}
use Rattle.jh_semantics.specs.Values.{Value, value, dereferenced, object_of}
use Rattle.jh_semantics.specs.Progress.{Configuration, Progress, goes_on, stops, no_object, with_value, goes_on_in}

-- an object from 1 to N that isn't there yet
abbrev pub is_free : State → ℕ → Bool
is_free s a = not (a == 0) && nat_lt a (suc s.last) && not (s.set alloc_name a)

-- the numbers below n, ascending
abbrev pub below : ℕ → List ℕ
below zero = []
below (suc n) = below n ++ (n ∷ [])

-- the free objects, ascending
abbrev pub free : State → List ℕ
free s = filter (is_free s) (below (suc s.last))

-- an object joins a set
abbrev pub joining : State → Name → ℕ → State
joining s set a = assigned s set (a_set (λ x. s.set set x || x == a))

-- a new object of a class
abbrev pub created : State → Text → ℕ → State
created s class a = joining (joining s alloc_name a) (named class) a

-- the next pick, where there is one and it is free
abbrev pub pick : Place → List ℕ → Configuration → (ℕ → Configuration → Progress) → Progress
pick p [] r next = stops (no_object p)
pick p (a ∷ picks) r next = if is_free r.now a then next a (record r { picks = picks }) else stops (no_object p)

-- the object of a target, where it is a field
abbrev pub target_of : Target → State → Value ℕ
target_of (c.to_field f r p) s = object_of r s
target_of _ s = value 0

-- a value goes to its target, whose object is known; Null where that is null
abbrev pub put : Target → ℕ → Datum → Configuration → Progress
put c.nowhere a d r = goes_on r
put (c.to_new x) a d r = goes_on_in r (stored r.now x.text d)
put (c.to_name x) a d r = goes_on_in r (stored r.now x d)
put (c.to_field f e p) a d r = with_value (dereferenced e p a) (λ b. goes_on_in r (stored_at r.now f b d))
