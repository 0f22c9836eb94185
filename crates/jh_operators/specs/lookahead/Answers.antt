-- What a reader answers.
use Rattle.std.specs.Prelude.{ℕ, ◌≡◌, ◌<◌, ◌≤◌, Option, None, Some, Result, Ok, Err}
use Rattle.jh_operators.specs.declared.lookahead.error.ReadError.{ReadError}
use Rattle.jh_operators.specs.declared.lookahead.error.ReadError.TheVariants.{Refused, Memory}

-- the answer, seen by a view, is what is wanted, or it is refused where nothing is; memory may be wanting
abbrev pub Gives : {X Y : Type 0} → (X → Y) → Option Y → Result X ReadError → Type 0
Gives view wanted (Ok x) = wanted ≡ Some (view x)
Gives view wanted (Err (Refused n)) = wanted ≡ None
Gives view wanted (Err Memory) = Unit {0}

-- a place after one, and no further than the end
abbrev pub IsWithin : ℕ → ℕ → ℕ → Type 0
IsWithin end from next = (from < next) × (next ≤ end)
