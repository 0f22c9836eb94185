use Rattle.std.specs.Prelude.{ℕ, ◌≡◌, ◌<◌, ◌≤◌, ◌+◌, List, ◌++◌, length, take, Option, None, Some}
use Rattle.jh_files.specs.declared.fault.FileFault.{FileFault}
use Rattle.jh_files.specs.declared.fault.FileFault.TheVariants.{Failed, TooLong, Memory}

-- A fault that says that a name holds too much: the number seen is one more than was wanted, and where the
-- contents are told, more is held than was wanted. Other faults say nothing here.
abbrev pub IsTooLong : Option (List ℕ) → ℕ → FileFault → Type 0
IsTooLong (Some held) most (TooLong seen) = (seen ≡ most + 1) × (most < length held)
IsTooLong None most (TooLong seen) = seen ≡ most + 1
IsTooLong held most Failed = Unit {0}
IsTooLong held most Memory = Unit {0}

-- What a sink has taken after a piece: what it had before, and then the piece. A sink that tells afterwards
-- told before.
abbrev pub Appends : Option (List ℕ) → List ℕ → Option (List ℕ) → Type 0
Appends (Some before) piece (Some after) = after ≡ before ++ piece
Appends None piece (Some after) = ⊥
Appends before piece None = Unit {0}

-- The same for some front of the piece.
abbrev pub AppendsFront : Option (List ℕ) → List ℕ → Option (List ℕ) → Type 0
AppendsFront before piece after = (count : ℕ) × (count ≤ length piece) × Appends before (take count piece) after
