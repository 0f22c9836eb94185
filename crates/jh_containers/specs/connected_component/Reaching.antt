-- What is reached from some numbers along rows that share one.
use Rattle.std.specs.Prelude.{◌≡◌, ◌⊎◌, ℕ, Bool, true, if◌then◌else◌, nat_eq, List, [], ◌∷◌}
use Rattle.std.specs.List.{list_any}
use Rattle.indexmap.specs.IndexSet.{insert_key}

abbrev pub has : List ℕ → ℕ → Bool
has known n = list_any (nat_eq n) known

-- a row has one of the numbers
abbrev pub shares : List ℕ → List ℕ → Bool
shares row known = list_any (has known) row

-- the numbers with those of a row, each once
abbrev pub with_row : List ℕ → List ℕ → List ℕ
with_row known [] = known
with_row known (n ∷ row) = with_row (insert_key nat_eq known n) row

-- the numbers with those of each row that has one of those that are known by then
abbrev pub passed : List (List ℕ) → List ℕ → List ℕ
passed [] known = known
passed (row ∷ rows) known = passed rows (if shares row known then with_row known row else known)

abbrev pub IsRow : List ℕ → List (List ℕ) → Type 0
IsRow row [] = ⊥
IsRow row (first ∷ rows) = (first ≡ row) ⊎ IsRow row rows

-- a number is given, or stands in a row with one that is reached
pub data Reached (rows : List (List ℕ)) (start : List ℕ) : ℕ → Type 0 where
  given : (n : ℕ) → has start n ≡ true → Reached rows start n
  along : (m n : ℕ) (row : List ℕ) → IsRow row rows → has row m ≡ true → has row n ≡ true → Reached rows start m → Reached rows start n

-- the numbers are those that are reached
pub record IsReach (rows : List (List ℕ)) (start known : List ℕ) : Type 0 where
  pub sound : (n : ℕ) → has known n ≡ true → Reached rows start n
  pub complete : (n : ℕ) → Reached rows start n → has known n ≡ true

-- numbers with more that are reached from them
pub record IsMore (rows : List (List ℕ)) (old new : List ℕ) : Type 0 where
  pub keeps : (n : ℕ) → has old n ≡ true → has new n ≡ true
  pub sound : (n : ℕ) → has new n ≡ true → Reached rows old n
