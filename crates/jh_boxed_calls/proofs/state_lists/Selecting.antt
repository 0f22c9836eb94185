-- What stands at the chosen places of a list is what passes the test.
use Rattle.std.proofs.Common.{◌≡◌, refl, sym, ap, ◌∙◌, ℕ, zero, suc, ◌≤◌, ◌<◌, ◌+◌, arith, Bool, true, false, List, [], ◌∷◌, ◌++◌, append_assoc, append-nil, map, length, take, Option, Some, None, slice_get, get_or, if◌then◌else◌}
use Rattle.std.specs.Prelude.{filter}
use Rattle.std.specs.List.{flat_map}
use Rattle.std.specs.Option.{option_map_or}
use Rattle.std.proofs.lemmas.Grind.{flat_map-append}
use Rattle.std.proofs.lemmas.List.{take_all, map-append}
use Rattle.std.proofs.lemmas.List.Elements.{filter-append}
use Rattle.std.proofs.lemmas.Option.{slice_get-get_or}
use Rattle.jh_name.specs.declared.naming.Name.{Name}
use Rattle.jh_effects.specs.jh_vars.declared.state_names.state.StateName.{StateName}
use Rattle.jh_effects.specs.written_state.Arising.{passes_at}
use Rattle.jh_effects.specs.written_state.Chosen.{places_below}

-- the names at some places
abbrev pub name_at : List StateName → ℕ → List Name
name_at states i = option_map_or (λ (s : StateName). s.name ∷ []) (slice_get states i) []

abbrev pub names_of : List StateName → List ℕ → List Name
names_of states places = flat_map (name_at states) places

take-one : {X : Type 0} (xs : List X) (n : ℕ) (x : X) → slice_get xs n ≡ Some x → take (suc n) xs ≡ take n xs ++ x ∷ []
take-one [] n x e = absurd (cc)
take-one (y ∷ xs) zero x e = let same : y ≡ x = cc in ap (λ z. z ∷ []) same
take-one (y ∷ xs) (suc n) x e = ap (λ l. y ∷ l) (take-one xs n x e)

there : {X : Type 0} (xs : List X) (n : ℕ) → n < length xs → (x : X) × (slice_get xs n ≡ Some x)
there [] n lt = absurd (omega arith)
there (x ∷ xs) zero lt = (x, refl)
there (x ∷ xs) (suc n) lt = there xs n (omega arith)

one-name : {X : Type 0} (f : X → Name) (ss : List StateName) (xs : List X) → map (λ (s : StateName). s.name) ss ≡ map f xs → (n : ℕ) (x : X) → slice_get xs n ≡ Some x → name_at ss n ≡ f x ∷ []
one-name f [] [] e n x h = absurd (cc)
one-name f [] (y ∷ xs) e n x h = absurd (cc)
one-name f (s ∷ ss) [] e n x h = absurd (cc)
one-name f (s ∷ ss) (y ∷ xs) e zero x h = let at : y ≡ x = cc in let name : s.name ≡ f y = cc in ap (λ z. z ∷ []) (name ∙ ap f at)
one-name f (s ∷ ss) (y ∷ xs) e (suc n) x h = let rest : map (λ (s : StateName). s.name) ss ≡ map f xs = cc in one-name f ss xs rest n x h

-- a list of which the names are those of another
module _ {X : Type 0} (f : X → Name) (states : List StateName) (list : List X) (same : map (λ (s : StateName). s.name) states ≡ map f list) (test : X → Bool) where
  at-place : (n : ℕ) (x : X) → slice_get list n ≡ Some x → name_at states n ≡ f x ∷ []
  at-place n x e = one-name f states list same n x e

  picked : (n : ℕ) (x : X) → slice_get list n ≡ Some x → (b : Bool) → names_of states (if b then n ∷ [] else []) ≡ map f (if b then x ∷ [] else [])
  picked n x e true = append-nil (name_at states n) ∙ at-place n x e
  picked n x e false = refl

  pub chosen : (n : ℕ) → n ≤ length list → names_of states (places_below (passes_at test list) n) ≡ map f (filter test (take n list))
  unfolding places_below
  chosen zero le = refl
  chosen (suc n) le =
      let found = there list n (omega arith) in
      let x = found.0 in
      let one : (b : Bool) → names_of states (if b then n ∷ [] else []) ≡ map f (if b then x ∷ [] else []) = picked n x found.1 in
      flat_map-append (name_at states) (places_below (passes_at test list) n) (if passes_at test list n then n ∷ [] else [])
      ∙ (λ i. chosen n (omega arith) i ++ names_of states (if option_map_or test (found.1 i) false then n ∷ [] else []))
      ∙ ap (λ l. map f (filter test (take n list)) ++ l) (one (test x))
      ∙ sym (map-append f (filter test (take n list)) (filter test (x ∷ [])))
      ∙ ap (map f) (sym (filter-append test (take n list) (x ∷ [])))
      ∙ ap (λ l. map f (filter test l)) (sym (take-one list n x found.1))

  -- the names at the places of what passes the test
  pub named : (places : List ℕ) (names : List Name) → names ≡ names_of states places → places ≡ places_below (passes_at test list) (length list) → names ≡ map f (filter test list)
  named places names e at =
      e ∙ ap (names_of states) at ∙ chosen (length list) (omega arith) ∙ ap (λ l. map f (filter test l)) (take_all (length list) list (omega arith))

pub none-at : {X : Type 0} (xs : List X) (n : ℕ) → length xs ≤ n → slice_get xs n ≡ None
none-at [] n le = refl
none-at (x ∷ xs) zero le = absurd (omega arith)
none-at (x ∷ xs) (suc n) le = none-at xs n (omega arith)

pub some-at : {X : Type 0} (xs : List X) (n : ℕ) (x : X) → n < length xs → x ≡ get_or xs n x → slice_get xs n ≡ Some x
some-at xs n x lt e = slice_get-get_or xs n x lt ∙ ap (λ z. Some z) (sym e)
