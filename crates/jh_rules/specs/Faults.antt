-- What is found of a part: the faults in it, and what is known of it where nothing is wrong.
use Rattle.std.specs.Prelude.{ℕ, Bool, List, [], ◌∷◌, ◌++◌, Option, Some, None, if◌then◌else◌}
use Rattle.std.specs.Option.{option_map_or}
use Rattle.jh_ast.specs.jh_name.declared.place.Place.{Place}
use Rattle.jh_rules.specs.declared.fault.Fault.{Fault}

abbrev pub fault : ℕ → Place → Fault
fault rule place = record { place = place; rule = rule }

-- a fault where the test holds
abbrev pub broken : ℕ → Place → Bool → List Fault
broken rule place test = if test then fault rule place ∷ [] else []

pub record Judged (T : Type 0) : Type 0 where
  pub faults : List Fault
  pub known : Option T

module _ {T : Type 0} where
  -- nothing is wrong
  abbrev pub right : T → Judged T
  right x = record { faults = []; known = Some x }

  -- a rule is broken
  abbrev pub wrong : ℕ → Place → Judged T
  wrong rule place = record { faults = fault rule place ∷ []; known = None }

  -- what is wrong, if anything, is wrong elsewhere
  abbrev pub given : Option T → Judged T
  given x = record { faults = []; known = x }

  -- the same, with further faults
  abbrev pub also : List Fault → Judged T → Judged T
  also faults j = record { faults = faults ++ j.faults; known = j.known }

-- nothing is wrong, and there is nothing to know
abbrev pub fine : Judged (Unit {0})
fine = right tt

-- The value where the test holds, and else a broken rule.
abbrev pub needs : {T : Type 0} → Bool → ℕ → Place → T → Judged T
needs test rule place x = if test then right x else wrong rule place

-- nothing to know where these are none
abbrev pub needs_none : List Fault → Judged (Unit {0})
needs_none [] = fine
needs_none (x ∷ xs) = record { faults = x ∷ xs; known = None }

-- What is asked of a part only where the part is known.
infixl 10 ◌>>=◌
abbrev pub ◌>>=◌ : {A B : Type 0} → Judged A → (A → Judged B) → Judged B
a >>= f = record {
  faults = a.faults ++ option_map_or (λ x. (f x).faults) a.known [];
  known = option_map_or (λ x. (f x).known) a.known None;
}

-- two parts, which are known together where both are
abbrev pub pair_of : {A B : Type 0} → Option A → Option B → Option (A × B)
pair_of None y = None
pair_of (Some x) None = None
pair_of (Some x) (Some y) = Some (x, y)

abbrev pub both : {A B : Type 0} → Judged A → Judged B → Judged (A × B)
both a b = record { faults = a.faults ++ b.faults; known = pair_of a.known b.known }

-- what is asked of two parts only where both are known
abbrev pub first_of : {A B : Type 0} → A × B → A
first_of p = p.0

abbrev pub second_of : {A B : Type 0} → A × B → B
second_of p = p.1

-- all of a list
unfoldable pub each : {A B : Type 0} → (A → Judged B) → List A → Judged (List B)
each f [] = right []
each f (a ∷ rest) = both (f a) (each f rest) >>= λ p. right (p.0 ∷ p.1)
