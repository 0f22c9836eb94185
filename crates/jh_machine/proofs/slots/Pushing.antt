-- What stands in a list with one more at its end.
use Rattle.std.proofs.Common.{◌≡◌, ◌⊎◌, inl, inr, refl, ap, ℕ, zero, suc, List, [], ◌∷◌, ◌++◌, length, Some, slice_get}

-- it stood there before, or is the one at the end
pub one-of : {X : Type 0} (xs : List X) (x : X) (i : ℕ) (y : X) → slice_get (xs ++ x ∷ []) i ≡ Some y → (slice_get xs i ≡ Some y) ⊎ ((i ≡ length xs) × (y ≡ x))
one-of [] x zero y h = inr (refl, cc)
one-of [] x (suc i) y h = cc
one-of (z ∷ xs) x zero y h = inl h
one-of (z ∷ xs) x (suc i) y h = by (one-of xs x i y h)
  where
    by : (slice_get xs i ≡ Some y) ⊎ ((i ≡ length xs) × (y ≡ x)) → (slice_get xs i ≡ Some y) ⊎ ((suc i ≡ suc (length xs)) × (y ≡ x))
    by (inl at) = inl at
    by (inr e) = inr (ap suc e.0, e.1)

pub still : {X : Type 0} (xs : List X) (x : X) (i : ℕ) (y : X) → slice_get xs i ≡ Some y → slice_get (xs ++ x ∷ []) i ≡ Some y
still [] x i y h = cc
still (z ∷ xs) x zero y h = h
still (z ∷ xs) x (suc i) y h = still xs x i y h

pub last-one : {X : Type 0} (xs : List X) (x : X) → slice_get (xs ++ x ∷ []) (length xs) ≡ Some x
last-one [] x = refl
last-one (z ∷ xs) x = last-one xs x

pub one-longer : {X : Type 0} (xs : List X) (x : X) → length (xs ++ x ∷ []) ≡ suc (length xs)
one-longer [] x = refl
one-longer (z ∷ xs) x = ap suc (one-longer xs x)
