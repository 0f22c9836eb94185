-- What passes a test, in lists that are filtered.
use Rattle.std.proofs.Common.{◌≡◌, refl, ap, ◌∙◌, ℕ, zero, suc, ◌<◌, Bool, true, false, ◌&&◌, if◌then◌else◌, List, [], ◌∷◌, length, get_or, arith}
use Rattle.std.specs.Prelude.{filter}
use Rattle.std.specs.List.{list_all}
use Rattle.jh_approx.proofs.definition.Counts.{first, second}

module _ {X : Type 0} (p : X → Bool) where
  pub chosen-passes : (b : Bool) (q : X → Bool) (x : X) (xs : List X) → (b ≡ true → q x ≡ true) → list_all q xs ≡ true → list_all q (if b then x ∷ xs else xs) ≡ true
  chosen-passes true q x xs h k = ap (λ c. c && list_all q xs) (h refl) ∙ k
  chosen-passes false q x xs h k = k

  pub filter-passes : (xs : List X) → list_all p (filter p xs) ≡ true
  filter-passes [] = refl
  filter-passes (x ∷ xs) = chosen-passes (p x) p x (filter p xs) (λ e. e) (filter-passes xs)

  pub filter-keeps : (q : X → Bool) (xs : List X) → list_all q xs ≡ true → list_all q (filter p xs) ≡ true
  filter-keeps q [] h = refl
  filter-keeps q (x ∷ xs) h = chosen-passes (p x) q x (filter p xs) (λ e. first (q x) (list_all q xs) h) (filter-keeps q xs (second (q x) (list_all q xs) h))

  -- each item passes what all do
  pub all-get : (xs : List X) (k : ℕ) (d : X) → list_all p xs ≡ true → k < length xs → p (get_or xs k d) ≡ true
  all-get [] k d h lt = absurd (omega (arith, lt))
  all-get (x ∷ xs) zero d h lt = first (p x) (list_all p xs) h
  all-get (x ∷ xs) (suc k) d h lt = all-get xs k d (second (p x) (list_all p xs) h) (omega (arith, lt))
