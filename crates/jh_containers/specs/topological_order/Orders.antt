-- An order in which each thing stands behind all that it reads.
use Rattle.std.specs.Prelude.{◌≡◌, ◌<◌, ◌⊎◌, ℕ, List, Some, length, slice_get}
use Rattle.jh_containers.specs.declared.transitive_closure.facts.Fact.{Fact}
use Rattle.jh_containers.specs.transitive_closure.Spreads.{IsIn, passed_to}

-- what a thing reads, of the rows of all
abbrev pub reads_of : List (List ℕ) → ℕ → List ℕ
reads_of reads r = passed_to reads r

-- all that a thing reads stands before it
abbrev pub IsOrdered : List (List ℕ) → List ℕ → Type 0
IsOrdered reads order = (i r d : ℕ) → slice_get order i ≡ Some r → IsIn (reads_of reads r) d → (j : ℕ) × (j < i) × (slice_get order j ≡ Some d)

-- the things of a list are among those that there are
abbrev pub AreThings : List (List ℕ) → List ℕ → Type 0
AreThings reads order = (i r : ℕ) → slice_get order i ≡ Some r → r < length reads

-- no thing stands twice
abbrev pub AreDistinct : List ℕ → Type 0
AreDistinct order = (i j r : ℕ) → slice_get order i ≡ Some r → slice_get order j ≡ Some r → i ≡ j

-- all that is read is among the things that there are
abbrev pub AreThingsRead : List (List ℕ) → Type 0
AreThingsRead reads = (r d : ℕ) → IsIn (reads_of reads r) d → d < length reads

-- a thing is in the list, or reads something that isn't in another
abbrev pub IsTried : List (List ℕ) → List ℕ → List ℕ → ℕ → Type 0
IsTried reads order missing r = IsIn order r ⊎ ((d : ℕ) × IsIn (reads_of reads r) d × (IsIn missing d → ⊥))

-- each thing that is left out reads something that is left out
abbrev pub IsAll : List (List ℕ) → List ℕ → Type 0
IsAll reads order = (r : ℕ) → r < length reads → IsTried reads order order r

-- the rows of those that read a thing hold each that reads it
abbrev pub IsReversed : List (List ℕ) → List (List ℕ) → Type 0
IsReversed reads readers = (r d : ℕ) → IsIn (reads_of reads r) d → IsIn (reads_of readers d) r

-- what a thing reads, directly or through others
pub data Reaches (reads : List (List ℕ)) : ℕ → ℕ → Type 0 where
  directly : (x y : ℕ) → IsIn (reads_of reads x) y → Reaches reads x y
  through : (x y z : ℕ) → IsIn (reads_of reads x) y → Reaches reads y z → Reaches reads x z

-- that a thing is reached, as a fact to be passed on
abbrev pub start_of : ℕ → Fact
start_of x = record { of = x; what = 0 }
