-- Edges, where one more is added.
use Rattle.std.proofs.Common.{◌≡◌, refl, sym, ap, subst, ◌∙◌, ◌⊎◌, inl, inr, ℕ, zero, suc, ◌<◌, List, [], ◌∷◌, ◌++◌, map, option_map, length, slice_get, slice_set, Option, Some, None}
use Rattle.std.specs.Option.{option_map_or}
use Rattle.std.specs.declared.alloc.Global.{Global}
use Rattle.std.specs.declared.vec.Vec.{Vec}
use Rattle.std.proofs.lemmas.List.{length-map}
use Rattle.std.proofs.lemmas.Option.{slice_get-map}
use Rattle.jh_containers.specs.transitive_closure.Spreads.{IsIn, items_of, passed_to}
use Rattle.jh_containers.proofs.transitive_closure.Places.{same-or-not, set-here, set-other}

-- a list with one more at its end
module _ {X : Type 0} (x : X) where
  pub in-old : (xs : List X) (y : X) → IsIn xs y → IsIn (xs ++ x ∷ []) y
  in-old [] y (zero, e) = cc
  in-old [] y (suc i, e) = cc
  in-old (z ∷ xs) y (zero, e) = (0, e)
  in-old (z ∷ xs) y (suc i, e) = let k = in-old xs y (i, e) in (suc k.0, k.1)

  pub in-last : (xs : List X) → IsIn (xs ++ x ∷ []) x
  in-last [] = (0, refl)
  in-last (z ∷ xs) = let k = in-last xs in (suc k.0, k.1)

  some-is : (a b : X) → Some a ≡ Some b → b ≡ a
  some-is a b e = cc

  pub in-either : (xs : List X) (y : X) → IsIn (xs ++ x ∷ []) y → (y ≡ x) ⊎ IsIn xs y
  in-either [] y (zero, e) = inl (some-is x y e)
  in-either [] y (suc i, e) = cc
  in-either (z ∷ xs) y (zero, e) = inr (0, e)
  in-either (z ∷ xs) y (suc i, e) = next (in-either xs y (i, e))
    where
      next : (y ≡ x) ⊎ IsIn xs y → (y ≡ x) ⊎ IsIn (z ∷ xs) y
      next (inl s) = inl s
      next (inr k) = inr (suc k.0, k.1)

row-at : (rows : List (Vec ℕ Global)) (n : ℕ) → passed_to (map items_of rows) n ≡ option_map_or items_of (slice_get rows n) []
row-at rows n = ap (λ o. option_map_or (λ ms. ms) o []) (slice_get-map items_of rows n) ∙ by (slice_get rows n)
  where
    by : (o : Option (Vec ℕ Global)) → option_map_or (λ ms. ms) (option_map items_of o) [] ≡ option_map_or items_of o []
    by None = refl
    by (Some row) = refl

-- one row of all is exchanged for one that is longer by a thing
module _ (rows : List (Vec ℕ Global)) (from to : ℕ) (old new : Vec ℕ Global) (inside : from < length rows) (there : slice_get rows from ≡ Some old) (is : new.items ≡ old.items ++ to ∷ []) where
  abbrev Before : ℕ → List ℕ
  Before n = passed_to (map items_of rows) n

  abbrev After : ℕ → List ℕ
  After n = passed_to (map items_of (slice_set rows from new)) n

  here : After from ≡ old.items ++ to ∷ []
  here = row-at (slice_set rows from new) from ∙ ap (λ o. option_map_or items_of o []) (set-here rows from new inside) ∙ is

  was : Before from ≡ old.items
  was = row-at rows from ∙ ap (λ o. option_map_or items_of o []) there

  other : (n : ℕ) → (n ≡ from → ⊥) → After n ≡ Before n
  other n h = row-at (slice_set rows from new) n ∙ ap (λ o. option_map_or items_of o []) (set-other rows from new n h) ∙ sym (row-at rows n)

  pub added : IsIn (After from) to
  added = subst (λ (xs : List ℕ). IsIn xs to) (sym here) (in-last to old.items)

  pub keeps : (n m : ℕ) → IsIn (Before n) m → IsIn (After n) m
  keeps n m h = by (same-or-not n from)
    where
      by : (n ≡ from) ⊎ (n ≡ from → ⊥) → IsIn (After n) m
      by (inl s) = subst (λ (z : ℕ). IsIn (After z) m) (sym s) (subst (λ (xs : List ℕ). IsIn xs m) (sym here) (in-old to old.items m (subst (λ (xs : List ℕ). IsIn xs m) (ap Before s ∙ was) h)))
      by (inr o) = subst (λ (xs : List ℕ). IsIn xs m) (sym (other n o)) h

  pub only : (n m : ℕ) → IsIn (After n) m → ((n ≡ from) × (m ≡ to)) ⊎ IsIn (Before n) m
  only n m h = by (same-or-not n from)
    where
      at-from : n ≡ from → (m ≡ to) ⊎ IsIn old.items m → ((n ≡ from) × (m ≡ to)) ⊎ IsIn (Before n) m
      at-from s (inl e) = inl (s, e)
      at-from s (inr k) = inr (subst (λ (xs : List ℕ). IsIn xs m) (sym (ap Before s ∙ was)) k)

      by : (n ≡ from) ⊎ (n ≡ from → ⊥) → ((n ≡ from) × (m ≡ to)) ⊎ IsIn (Before n) m
      by (inl s) = at-from s (in-either to old.items m (subst (λ (xs : List ℕ). IsIn xs m) (ap After s ∙ here) h))
      by (inr o) = inr (subst (λ (xs : List ℕ). IsIn xs m) (other n o) h)

-- rows that are all empty
pub none-in-empty : (rows : List (Vec ℕ Global)) → ((i : ℕ) (row : Vec ℕ Global) → slice_get rows i ≡ Some row → row.items ≡ []) → (n m : ℕ) → IsIn (passed_to (map items_of rows) n) m → ⊥
none-in-empty rows h n m k = by (slice_get rows n) refl
  where
    none : {X : Type 0} (y : X) → IsIn [] y → ⊥
    none y (zero, e) = cc
    none y (suc i, e) = cc

    by : (o : Option (Vec ℕ Global)) → slice_get rows n ≡ o → ⊥
    by None e = none m (subst (λ (xs : List ℕ). IsIn xs m) (row-at rows n ∙ ap (λ o. option_map_or items_of o []) e) k)
    by (Some row) e = none m (subst (λ (xs : List ℕ). IsIn xs m) (row-at rows n ∙ ap (λ o. option_map_or items_of o []) e ∙ h n row e) k)

-- there are as many rows as lists
pub rows-long : (rows : List (Vec ℕ Global)) (n : ℕ) (es : List (List ℕ)) → map items_of rows ≡ es → n < length es → n < length rows
rows-long rows n es e lt = subst (λ (k : ℕ). n < k) (ap length (sym e) ∙ length-map rows items_of) lt
