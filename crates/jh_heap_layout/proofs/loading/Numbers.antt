-- What stands at a number of a list of numbers or places.
use Rattle.std.proofs.Common.{◌≡◌, refl, ap, ◌∙◌, sym, ℕ, zero, suc, List, [], ◌∷◌, length, slice_get, Some}
use Rattle.jh_name.specs.declared.naming.Name.{Name}
use Rattle.jh_semantics.specs.Code.{Text}
use Rattle.jh_semantics.specs.State.{named}
use Rattle.jh_semantics.specs.Program.{Member}
use Rattle.jh_heap_layout.specs.declared.loading.places.Place.{Place}
use Rattle.jh_heap_layout.specs.loading.Places.{AreNumbers, IsPlace, ArePlaces}

module _ (names : List Name) where
  pub number-at : (ks : List ℕ) (cs : List Text) (i k : ℕ) → AreNumbers names ks cs → slice_get ks i ≡ Some k → (c : Text) × (slice_get cs i ≡ Some c) × (slice_get names k ≡ Some (named c))
  number-at [] cs i k are at = cc
  number-at (k' ∷ ks) [] i k are at = absurd are
  number-at (k' ∷ ks) (c ∷ cs) zero k are at = let e : k' ≡ k = cc in (c, refl, ap (slice_get names) (sym e) ∙ are.0)
  number-at (k' ∷ ks) (c ∷ cs) (suc i) k are at = number-at ks cs i k are.1 at

  pub as-many-numbers : (ks : List ℕ) (cs : List Text) → AreNumbers names ks cs → length cs ≡ length ks
  as-many-numbers [] [] are = refl
  as-many-numbers [] (c ∷ cs) are = absurd are
  as-many-numbers (k ∷ ks) [] are = absurd are
  as-many-numbers (k ∷ ks) (c ∷ cs) are = ap suc (as-many-numbers ks cs are.1)

  pub place-at : (ks : List Place) (xs : List Member) (i : ℕ) (k : Place) → ArePlaces names ks xs → slice_get ks i ≡ Some k → (x : Member) × (slice_get xs i ≡ Some x) × IsPlace names k x
  place-at [] xs i k are at = cc
  place-at (k' ∷ ks) [] i k are at = absurd are
  place-at (k' ∷ ks) (x ∷ xs) zero k are at = let e : k' ≡ k = cc in (x, refl, record { number = ap (λ (z : Place). slice_get names z.number) (sym e) ∙ are.0.number; kind = ap (λ (z : Place). z.kind) (sym e) ∙ are.0.kind })
  place-at (k' ∷ ks) (x ∷ xs) (suc i) k are at = place-at ks xs i k are.1 at

  pub as-many-places : (ks : List Place) (xs : List Member) → ArePlaces names ks xs → length xs ≡ length ks
  as-many-places [] [] are = refl
  as-many-places [] (x ∷ xs) are = absurd are
  as-many-places (k ∷ ks) [] are = absurd are
  as-many-places (k ∷ ks) (x ∷ xs) are = ap suc (as-many-places ks xs are.1)
