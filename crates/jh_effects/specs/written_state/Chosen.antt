-- Places of a list that are chosen for things, in order.
use Rattle.std.specs.Prelude.{◌≡◌, ◌↔◌, ◌-◌, ℕ, zero, suc, Bool, true, false, List, [], ◌∷◌, ◌++◌, Some, nat_eq, length, slice_get, if◌then◌else◌}
use Rattle.std.specs.Option.{option_map_or}
use Rattle.jh_containers.specs.declared.transitive_closure.facts.Fact.{Fact}
use Rattle.jh_containers.specs.transitive_closure.Spreads.{IsIn}

-- the places below a bound that pass a test, in their order
unfoldable pub places_below : (ℕ → Bool) → ℕ → List ℕ
places_below test zero = []
places_below test (suc n) = places_below test n ++ (if test n then n ∷ [] else [])

abbrev pub ends_with : ℕ → List ℕ → Bool
ends_with place row = option_map_or (nat_eq place) (slice_get row (length row - 1)) false

-- a row with a place at its end, which is put there unless it is there
abbrev pub put_last : ℕ → List ℕ → List ℕ
put_last place row = if ends_with place row then row else row ++ place ∷ []

-- The places of a list that are chosen for a thing, in their order: the thing has the fact of what stands there.
pub record IsChosen (facts : List Fact) (list : List ℕ) (thing : ℕ) (row : List ℕ) : Type 0 where
  pub test : ℕ → Bool
  pub exact : (j w : ℕ) → slice_get list j ≡ Some w → ((test j ≡ true) ↔ IsIn facts (record { of = thing; what = w }))
  pub is : row ≡ places_below test (length list)
