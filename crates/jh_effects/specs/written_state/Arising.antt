-- What things have of the state, by itself or passed on, and at which places of a list it stands.
use Rattle.std.specs.Prelude.{◌≡◌, ◌↔◌, ℕ, Bool, true, false, List, map, Option, Some, length, option_map, slice_get}
use Rattle.std.specs.Option.{option_map_or}
use Rattle.jh_containers.specs.declared.transitive_closure.facts.Fact.{Fact}
use Rattle.jh_containers.specs.transitive_closure.Spreads.{IsIn}
use Rattle.jh_effects.specs.declared.written_state.flow.Key.{Key}
use Rattle.jh_effects.specs.declared.written_state.flow.Given.{Given}
use Rattle.jh_effects.specs.declared.written_state.flow.Link.{Link}
use Rattle.jh_effects.specs.written_state.Chosen.{places_below}

-- what is given to a thing, or to another from which a link leads to it
pub data Arises (given : List Given) (links : List Link) : ℕ → Key → Type 0 where
  itself : (n : ℕ) (x : Key) → IsIn given (record { of = n; what = x }) → Arises given links n x
  passed : (m n : ℕ) (x : Key) → IsIn links (record { from = m; to = n }) → Arises given links m x → Arises given links n x

-- whether what stands at a place of a list passes a test
abbrev pub passes_at : {X : Type 0} → (X → Bool) → List X → ℕ → Bool
passes_at test list j = option_map_or test (slice_get list j) false

-- The places at which a list has something of which it is so, in their order, each once.
pub record ArePlaces {X : Type 0} (holds : X → Type 0) (list : List X) (places : List ℕ) : Type 0 where
  pub test : X → Bool
  pub exact : (x : X) → (test x ≡ true) ↔ holds x
  pub is : places ≡ places_below (passes_at test list) (length list)

-- a fact over the numbers of keys
abbrev pub given_of : List Key → Fact → Option Given
given_of keys f = option_map (λ x. record { of = f.of; what = x }) (slice_get keys f.what)

-- facts say by numbers what is given
abbrev pub AreTold : List Key → List Fact → List Given → Type 0
AreTold keys facts given = map (given_of keys) facts ≡ map (λ g. Some g) given

-- numbers stand for the keys of a list
abbrev pub AreNumbers : List Key → List ℕ → List Key → Type 0
AreNumbers keys numbers list = map (slice_get keys) numbers ≡ map (λ x. Some x) list
