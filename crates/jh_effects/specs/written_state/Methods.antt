-- The methods of a program in a list, and what they write and call themselves.
use Rattle.std.specs.Prelude.{◌≡◌, ℕ, ◌+◌, List, [], ◌∷◌, ◌++◌, map, Some, None, slice_get}
use Rattle.std.specs.List.{flat_map}
use Rattle.std.specs.Option.{option_map_or}
use Rattle.jh_ast.specs.Bare.{method_part}
use Rattle.jh_ast.specs.Programs.{ProgramTree}
use Rattle.jh_symbols.specs.declared.member_numbers.numbers.Numbers.{Numbers}
use Rattle.jh_symbols.specs.member_numbers.Numbering.{number_in}
use Rattle.jh_rules.specs.Words.{text_of}
use Rattle.jh_containers.specs.transitive_closure.Spreads.{passed_to}
use Rattle.jh_vars.specs.Written.{Written, Callee, part_of, own_writes, own_calls}
use Rattle.jh_effects.specs.declared.written_state.flow.Flow.{Flow}
use Rattle.jh_effects.specs.declared.written_state.flow.Given.{Given}
use Rattle.jh_effects.specs.declared.written_state.flow.Link.{Link}
use Rattle.jh_effects.specs.declared.written_state.methods.Listed.{Listed}
use Rattle.jh_effects.specs.declared.written_state.places.MethodPlaces.{MethodPlaces}
use Rattle.jh_effects.specs.written_state.Keys.{key_of}

abbrev pub callee : ℕ → List ℕ → Callee
callee c x = record { class = c; name = x }

-- a method by its class and its name
abbrev pub callee_of : Listed → Callee
callee_of l = callee l.class (text_of l.method.now.name)

abbrev pub callees : List Listed → List Callee
callees ls = map callee_of ls

-- each of a list is the method that its program has for its class and name
abbrev pub AreMethods : ProgramTree → List Listed → Type 0
AreMethods p ls = (k : ℕ) (l : Listed) → slice_get ls k ≡ Some l → part_of p (callee_of l) ≡ Some (method_part l.method.now)

-- the number of a method is its place in a list
abbrev pub AreNumbered : Numbers → List Listed → Type 0
AreNumbered numbers ls = (c : ℕ) (x : List ℕ) (k : ℕ) → number_in numbers c x ≡ Some k → (l : Listed) × (slice_get ls k ≡ Some l) × (callee_of l ≡ callee c x)

-- each method has a number
abbrev pub AreAll : ProgramTree → Numbers → Type 0
AreAll p numbers = (c : ℕ) (x : List ℕ) → number_in numbers c x ≡ None → part_of p (callee c x) ≡ None

-- what is made of each of a list with its number, from a number on
unfoldable pub gathered_from : {X Y : Type 0} → (ℕ → X → List Y) → ℕ → List X → List Y
gathered_from f n [] = []
gathered_from f n (x ∷ xs) = f n x ++ gathered_from f (n + 1) xs

-- these are given and linked
pub record Adds (old new : Flow) (gs : List Given) (ls : List Link) : Type 0 where
  pub given : new.given.items ≡ old.given.items ++ gs
  pub links : new.links.items ≡ old.links.items ++ ls

module _ (numbers : Numbers) where
  -- the link from a method that is called to one that calls it
  abbrev pub link_to : ℕ → Callee → List Link
  link_to n m = option_map_or (λ k. record { from = k; to = n } ∷ []) (number_in numbers m.class m.name) []

  abbrev pub links_to : ℕ → List Callee → List Link
  links_to n ms = flat_map (link_to n) ms

module _ (p : ProgramTree) where
  -- some pieces of state, given to a thing
  abbrev pub given_to : ℕ → List Written → List Given
  given_to n xs = map (λ x. record { of = n; what = key_of p x }) xs

  -- what a method of a number writes itself
  abbrev pub given_by : ℕ → Callee → List Given
  given_by n m = given_to n (own_writes p m)

  -- the links to a method of a number from those that it calls
  abbrev pub links_by : Numbers → ℕ → Callee → List Link
  links_by numbers n m = links_to numbers n (own_calls p m)

-- the places that a method has
abbrev pub places_in : MethodPlaces → Callee → List ℕ
places_in made m = option_map_or (λ k. passed_to made.rows.items k) (number_in made.numbers m.class m.name) []
