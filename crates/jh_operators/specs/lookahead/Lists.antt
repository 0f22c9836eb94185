-- Lists of things that stand one after another, each of which takes some tokens and some numbers of formulas.
use Rattle.std.specs.Prelude.{ℕ, zero, suc, Bool, List, [], ◌∷◌, Option, None, Some}
use Rattle.jh_operators.specs.lookahead.Choices.{and_then, choose}

-- Things from the number n and the place i up to the place and the number after the last of them. `One n i x j m` says that
-- one such thing, x, stands at i, up to j, with the number m after it.
pub data Many {A : Type 0} (One : ℕ → ℕ → A → ℕ → ℕ → Type 0) : ℕ → ℕ → List A → ℕ → ℕ → Type 0 where
  none : {n i : ℕ} → Many One n i [] i n
  more : {n i j k m l : ℕ} {x : A} {xs : List A} → One n i x j m → Many One m j xs k l → Many One n i (x ∷ xs) k l

-- what one reader answers: a thing, the place after it and the number after it
abbrev pub Found : Type 0 → Type 0
Found A = A × ℕ × ℕ

-- The same as a function, up to the place at which a test says that the list ends, with no more than k things.
unfoldable pub many_at : {A : Type 0} → (ℕ → Bool) → (ℕ → ℕ → Option (Found A)) → ℕ → ℕ → ℕ → Option (Found (List A))
many_at ends one zero n i = choose (ends i) (Some ([], i, n)) None
many_at ends one (suc k) n i = choose (ends i) (Some ([], i, n))
    (and_then (one n i) (λ a. and_then (many_at ends one k a.2 a.1) (λ r. Some (a.0 ∷ r.0, r.1, r.2))))
