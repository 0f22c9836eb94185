-- What solves a system.
use Rattle.std.specs.Prelude.{◌≡◌, ◌≢◌, ℕ, zero, suc, ◌+◌, ◌*◌, ◌<◌, ℤ, pos, ◌+ℤ◌, ◌*ℤ◌, List, [], ◌∷◌, length, Bool, false, if◌then◌else◌, slice_index, slice_index_or}
use Rattle.jh_digits.specs.declared.systems.system.System.{System}

-- the factor of column j in row i; the entries stand row by row
abbrev pub entry_of : System → ℕ → ℕ → ℤ
entry_of s i j = slice_index_or s.entries (i * s.columns + j) (pos 0)

-- the right side of row i
abbrev pub right_of : System → ℕ → ℤ
right_of s i = slice_index_or s.right i (pos 0)

-- the columns that need k names
abbrev pub need_of : System → ℕ → List ℕ
need_of s k = slice_index_or s.needs k []

-- the sum of e j * v j over the first n columns j
abbrev pub weighted : (ℕ → ℤ) → (ℕ → ℕ) → ℕ → ℤ
weighted e v zero = pos 0
weighted e v (suc n) = weighted e v n +ℤ (e n *ℤ pos (v n))

-- some column of the need has a number that is not 0
pub record IsMet (need : List ℕ) (v : ℕ → ℕ) : Type 0 where
  pub place : ℕ
  pub within : place < length need
  pub nonzero : v (slice_index need place) ≢ 0

-- v has a natural number for each column; each row is equal to its right side, and each need is met
pub record IsSolution (s : System) (v : ℕ → ℕ) : Type 0 where
  pub equal : (i : ℕ) → i < s.rows → weighted (entry_of s i) v s.columns ≡ right_of s i
  pub met : (k : ℕ) → k < length s.needs → IsMet (need_of s k) v

-- the number that layers of digits spell for column j: the first layer has its digit of weight 1,
-- and each further layer twice the weight of the layer before
abbrev pub spelled : List (List Bool) → ℕ → ℕ
spelled [] j = 0
spelled (layer ∷ layers) j = (if slice_index_or layer j false then 1 else 0) + 2 * spelled layers j

-- the lists have the lengths that rows and columns say, and needs name columns
pub record IsWellFormed (s : System) : Type 0 where
  pub entries : length s.entries ≡ s.rows * s.columns
  pub right : length s.right ≡ s.rows
  pub needs : (k : ℕ) → k < length s.needs → (i : ℕ) → i < length (need_of s k) → slice_index (need_of s k) i < s.columns

-- each layer has a digit for each column
abbrev pub HasColumns : ℕ → List (List Bool) → Type 0
HasColumns columns layers = (i : ℕ) → i < length layers → length (slice_index_or layers i []) ≡ columns
