-- What lists have.
use Rattle.std.proofs.Common.{◌≡◌, refl, ℕ, zero, suc, ◌<◌, Bool, true, false, if◌then◌else◌, List, [], ◌∷◌, map, filter, arith, ◌⊎◌, inl, inr}
use Rattle.std.specs.List.{Contains}
use Rattle.std.proofs.lemmas.List.Elements.{Contains-append_left, Contains-append_right, Contains-append_cases}

pub no-place : (j : ℕ) → j < 0 → ⊥
no-place j lt = omega arith

-- what a mapped list has comes from the list
pub map-from : {X Y : Type 0} (f : X → Y) (xs : List X) (y : Y) → Contains (map f xs) y → (x : X) × Contains xs x × (f x ≡ y)
map-from f [] y i = absurd (no-place i.0 i.1)
map-from {X = X} {Y = Y} f (x ∷ xs) y i = from (Contains-append_cases (f x ∷ []) (map f xs) y i) (λ j. map-from f xs y j)
  where
    from : Contains (f x ∷ []) y ⊎ Contains (map f xs) y → (Contains (map f xs) y → (z : X) × Contains xs z × (f z ≡ y)) → (z : X) × Contains (x ∷ xs) z × (f z ≡ y)
    from (inl (zero, lt, e)) rest = (x, (0, omega arith, refl), e)
    from (inl (suc j, lt, e)) rest = absurd (beyond lt)
      where
        beyond : suc j < 1 → ⊥
        beyond l = omega (l, arith)
    from (inr j) rest = let r = rest j in (r.0, Contains-append_right (x ∷ []) xs r.0 r.1, r.2)

-- a list has what a part of it has
pub filter-from : {X : Type 0} (test : X → Bool) (xs : List X) (x : X) → Contains (filter test xs) x → Contains xs x
filter-from test [] x i = i
filter-from {X = X} test (y ∷ ys) x i = from (test y) i (λ j. filter-from test ys x j)
  where
    from : (b : Bool) → Contains (if b then y ∷ filter test ys else filter test ys) x → (Contains (filter test ys) x → Contains ys x) → Contains (y ∷ ys) x
    from true j rest = cases (Contains-append_cases (y ∷ []) (filter test ys) x j)
      where
        cases : Contains (y ∷ []) x ⊎ Contains (filter test ys) x → Contains (y ∷ ys) x
        cases (inl l) = Contains-append_left (y ∷ []) ys x l
        cases (inr l) = Contains-append_right (y ∷ []) ys x (rest l)
    from false j rest = Contains-append_right (y ∷ []) ys x (rest j)
