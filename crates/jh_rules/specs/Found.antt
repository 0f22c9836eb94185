-- The least fault of a list, and what the code finds of a part.
use Rattle.std.specs.Prelude.{◌≡◌, ◌==◌, ◌||◌, ◌&&◌, nat_lt, Bool, List, [], ◌∷◌, Option, Some, None, if◌then◌else◌}
use Rattle.jh_rules.specs.declared.fault.Fault.{Fault}
use Rattle.jh_rules.specs.declared.found.Found.{Found}
use Rattle.jh_rules.specs.Faults.{Judged, ◌>>=◌}

-- a fault that is earlier in the text, or at one place of a lesser rule
unfoldable pub is_less : Fault → Fault → Bool
is_less x y =
    nat_lt x.place.line y.place.line
    || ((x.place.line == y.place.line) && (nat_lt x.place.column y.place.column || ((x.place.column == y.place.column) && nat_lt x.rule y.rule)))

-- the lesser of two faults, where there are any
abbrev pub lesser : Option Fault → Option Fault → Option Fault
lesser None y = y
lesser (Some x) None = Some x
lesser (Some x) (Some y) = if is_less y x then Some y else Some x

-- the least of a list
unfoldable pub least : List Fault → Option Fault
least [] = None
least (x ∷ xs) = lesser (Some x) (least xs)

-- the least fault of a part, and what is known of it
pub record Finds {T : Type 0} (found : Found T) (j : Judged T) : Type 0 where
  pub known : found.known ≡ j.known
  pub least_is : found.least ≡ least j.faults

-- what is asked of a part only where it is known
abbrev pub asked_of : {A B : Type 0} → Judged A → (A → Judged B) → Judged B
asked_of a f = a >>= f
