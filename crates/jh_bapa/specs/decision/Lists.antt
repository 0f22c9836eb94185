-- Lists of numbers that are made one after the other, and sums over them.
use Rattle.std.specs.Prelude.{ℕ, zero, suc, ◌+◌, Bool, if◌then◌else◌, List, [], ◌∷◌, ◌++◌, ℤ, pos, ◌+ℤ◌, ◌*ℤ◌, neg_ℤ}

-- f 0 to f (n - 1)
abbrev pub listed : {A : Type 0} → ℕ → (ℕ → A) → List A
listed zero f = []
listed (suc n) f = listed n f ++ f n ∷ []

-- the numbers below n that pass a test
abbrev pub picks : ℕ → (ℕ → Bool) → List ℕ
picks zero p = []
picks (suc n) p = if p n then picks n p ++ n ∷ [] else picks n p

-- f l and its negation for each l below n
abbrev pub pairs : ℕ → (ℕ → ℤ) → List ℤ
pairs zero f = []
pairs (suc n) f = (pairs n f ++ f n ∷ []) ++ neg_ℤ (f n) ∷ []

abbrev pub zeros : ℕ → List ℤ
zeros n = listed n (λ j. pos 0)

-- the sum of the factors times the numbers v k, v (k + 1) and so on
abbrev pub dot : List ℤ → (ℕ → ℕ) → ℕ → ℤ
dot [] v k = pos 0
dot (x ∷ xs) v k = (x *ℤ pos (v k)) +ℤ dot xs v (suc k)
