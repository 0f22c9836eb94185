-- Pairs of numbers, as they are added to rows one after another.
use Rattle.std.proofs.Common.{◌≡◌, sym, ap, subst, ◌∙◌, ◌⊎◌, inl, inr, ◌↔◌, ℕ, ◌+◌, ◌<◌, ◌≤◌, List, length, slice_get, Some, arith}
use Rattle.std.proofs.lemmas.Option.{slice_get_within}
use Rattle.jh_containers.specs.transitive_closure.Spreads.{IsIn, passed_to}
use Rattle.jh_containers.proofs.transitive_closure.Places.{before-or-at}

some-is : {X : Type 0} (a b : X) → Some a ≡ Some b → b ≡ a
some-is a b e = cc

-- things that each are a pair of a row's number and of what is in the row
module _ {X : Type 0} (row value : X → ℕ) (pair : ℕ → ℕ → X) (is_pair : (x : X) → pair (row x) (value x) ≡ x) (row_is : (r v : ℕ) → row (pair r v) ≡ r) (value_is : (r v : ℕ) → value (pair r v) ≡ v) (xs : List X) where
  abbrev pub AreAdded : List (List ℕ) → ℕ → Type 0
  AreAdded rows n = (k : ℕ) (x : X) → k < n → slice_get xs k ≡ Some x → IsIn (passed_to rows (row x)) (value x)

  abbrev pub AreOnly : List (List ℕ) → Type 0
  AreOnly rows = (r v : ℕ) → IsIn (passed_to rows r) v → IsIn xs (pair r v)

  module _ (old new : List (List ℕ)) (n : ℕ) (x : X) (at : slice_get xs n ≡ Some x) where
    pub added-next : IsIn (passed_to new (row x)) (value x) → ((r v : ℕ) → IsIn (passed_to old r) v → IsIn (passed_to new r) v) → AreAdded old n → AreAdded new (n + 1)
    added-next here keeps all k y lt e = by (before-or-at k n lt)
      where
        by : (k < n) ⊎ (k ≡ n) → IsIn (passed_to new (row y)) (value y)
        by (inl l) = keeps (row y) (value y) (all k y l e)
        by (inr s) = subst (λ (z : X). IsIn (passed_to new (row z)) (value z)) (sym (some-is x y (sym at ∙ ap (slice_get xs) (sym s) ∙ e))) here

    pub only-next : ((r v : ℕ) → IsIn (passed_to new r) v → ((r ≡ row x) × (v ≡ value x)) ⊎ IsIn (passed_to old r) v) → AreOnly old → AreOnly new
    only-next only all r v h = by (only r v h)
      where
        by : ((r ≡ row x) × (v ≡ value x)) ⊎ IsIn (passed_to old r) v → IsIn xs (pair r v)
        by (inl s) = (n, at ∙ ap Some (sym (is_pair x) ∙ (λ i. pair (sym s.0 i) (sym s.1 i))))
        by (inr k) = all r v k

  pub exact-end : (rows : List (List ℕ)) (n : ℕ) → length xs ≤ n → AreAdded rows n → AreOnly rows → (r v : ℕ) → IsIn (passed_to rows r) v ↔ IsIn xs (pair r v)
  exact-end rows n le all only r v = (
    only r v,
    λ h.
        let inside : h.0 < length xs = slice_get_within xs h.0 (pair r v) h.1 in
        subst (λ (k : ℕ). IsIn (passed_to rows r) k) (value_is r v) (subst (λ (k : ℕ). IsIn (passed_to rows k) (value (pair r v))) (row_is r v) (all h.0 (pair r v) (omega arith) h.1)),
  )
