-- What stands at the places of a list that pass a test, seen in lists that go along with it.
use Rattle.std.proofs.Common.{◌≡◌, refl, sym, ap, subst, ◌∙◌, ℕ, zero, suc, ◌+◌, ◌≤◌, ◌<◌, Bool, true, false, ◌||◌, if◌then◌else◌, List, [], ◌∷◌, ◌++◌, append-nil, map, length, take, Option, Some, None, slice_get, arith, ⊎_elim}
use Rattle.std.specs.Prelude.{filter}
use Rattle.std.specs.List.{flat_map, list_any, Contains}
use Rattle.std.specs.Option.{option_map_or, option_map}
use Rattle.std.proofs.lemmas.Bool.{true≢false}
use Rattle.std.proofs.lemmas.Grind.{flat_map-append}
use Rattle.std.proofs.lemmas.List.{take_all, map-append, length-map}
use Rattle.std.proofs.lemmas.List.Elements.{filter-append}
use Rattle.std.proofs.lemmas.Option.{slice_get-map}
use Rattle.jh_rules.specs.Words.{same_text}
use Rattle.jh_effects.specs.written_state.Arising.{passes_at}
use Rattle.jh_effects.specs.written_state.Chosen.{places_below}
use Rattle.jh_effects.proofs.written_state.Spreading.{places-same, same-bool}
use Rattle.jh_logic.proofs.source.Lists.{has-none, has-first, has-later, has-cases, at-has, some-same, no-none}
use Rattle.jh_logic.proofs.source.Texts.{same-is, is-same}
use Rattle.jh_method_commands.specs.environment.Outlines.{standing_at, standing}

take-one : {X : Type 0} (xs : List X) (n : ℕ) (x : X) → slice_get xs n ≡ Some x → take (suc n) xs ≡ take n xs ++ x ∷ []
take-one [] n x e = absurd (no-none x e)
take-one (y ∷ xs) zero x e = ap (λ z. z ∷ []) (some-same y x e)
take-one (y ∷ xs) (suc n) x e = ap (λ l. y ∷ l) (take-one xs n x e)

pub there : {X : Type 0} (xs : List X) (n : ℕ) → n < length xs → (x : X) × (slice_get xs n ≡ Some x)
there [] n lt = absurd (omega arith)
there (x ∷ xs) zero lt = (x, refl)
there (x ∷ xs) (suc n) lt = there xs n (omega arith)

-- what stands at the places that pass a test is what passes it
module _ {X : Type 0} (test : X → Bool) (xs : List X) where
  picked : (n : ℕ) (x : X) → slice_get xs n ≡ Some x → (b : Bool) → standing xs (if b then n ∷ [] else []) ≡ (if b then x ∷ [] else [])
  picked n x e true = append-nil (standing_at xs n) ∙ ap (λ o. option_map_or (λ y. y ∷ []) o []) e
  picked n x e false = refl

  one-passes : (x : X) (b : Bool) → test x ≡ b → filter test (x ∷ []) ≡ (if b then x ∷ [] else [])
  one-passes x b e = ap (λ c. if c then x ∷ [] else []) e

  below : (n : ℕ) → n ≤ length xs → standing xs (places_below (passes_at test xs) n) ≡ filter test (take n xs)
  unfolding places_below
  below zero le = refl
  below (suc n) le =
      let found = there xs n (omega arith) in
      let x = found.0 in
      flat_map-append (standing_at xs) (places_below (passes_at test xs) n) (if passes_at test xs n then n ∷ [] else [])
      ∙ (λ i. below n (omega arith) i ++ standing xs (if option_map_or test (found.1 i) false then n ∷ [] else []))
      ∙ ap (λ l. filter test (take n xs) ++ l) (picked n x found.1 (test x) ∙ sym (one-passes x (test x) refl))
      ∙ sym (filter-append test (take n xs) (x ∷ []))
      ∙ ap (filter test) (sym (take-one xs n x found.1))

  pub standing-below : standing xs (places_below (passes_at test xs) (length xs)) ≡ filter test xs
  standing-below = below (length xs) (omega arith) ∙ ap (filter test) (take_all (length xs) xs (omega arith))

-- what stands in a list that another maps to
pub standing-map : {X Y : Type 0} (f : X → Y) (xs : List X) (places : List ℕ) → map f (standing xs places) ≡ standing (map f xs) places
standing-map f xs [] = refl
standing-map f xs (n ∷ ns) = map-append f (standing_at xs n) (standing xs ns) ∙ (λ i. one (slice_get xs n) (slice_get (map f xs) n) (slice_get-map f xs n) i ++ standing-map f xs ns i)
  where
    one : (o : Option _) (p : Option _) → p ≡ option_map f o → map f (option_map_or (λ x. x ∷ []) o []) ≡ option_map_or (λ y. y ∷ []) p []
    one o p e = by o ∙ sym (ap (λ q. option_map_or (λ y. y ∷ []) q []) e)
      where
        by : (o : Option _) → map f (option_map_or (λ x. x ∷ []) o []) ≡ option_map_or (λ y. y ∷ []) (option_map f o) []
        by None = refl
        by (Some x) = refl

pub any-map : {X Y : Type 0} (test : Y → Bool) (f : X → Y) (xs : List X) → list_any test (map f xs) ≡ list_any (λ x. test (f x)) xs
any-map test f [] = refl
any-map test f (x ∷ xs) = ap (λ b. test (f x) || b) (any-map test f xs)

-- of what passes, by cases
pub passes-has : {X : Type 0} (test : X → Bool) (xs : List X) (x : X) → Contains (filter test xs) x → (Contains xs x) × (test x ≡ true)
passes-has test [] x h = absurd (has-none x h)
passes-has test (y ∷ ys) x h = by (test y) refl h (passes-has test ys x)
  where
    by : (b : Bool) → test y ≡ b → Contains (if b then y ∷ filter test ys else filter test ys) x → (Contains (filter test ys) x → (Contains ys x) × (test x ≡ true)) → (Contains (y ∷ ys) x) × (test x ≡ true)
    by true e g rest = ⊎_elim (λ s. (subst (Contains (y ∷ ys)) s (has-first y ys), ap test (sym s) ∙ e)) (λ k. let r = rest k in (has-later y ys x r.0, r.1)) (has-cases y (filter test ys) x g)
    by false e g rest = let r = rest g in (has-later y ys x r.0, r.1)

pub has-passes : {X : Type 0} (test : X → Bool) (xs : List X) (x : X) → Contains xs x → test x ≡ true → Contains (filter test xs) x
has-passes test [] x h t = absurd (has-none x h)
has-passes test (y ∷ ys) x h t = by (test y) refl (λ k. has-passes test ys x k t)
  where
    by : (b : Bool) → test y ≡ b → (Contains ys x → Contains (filter test ys) x) → Contains (if b then y ∷ filter test ys else filter test ys) x
    by true e rest = ⊎_elim (λ s. subst (Contains (y ∷ filter test ys)) s (has-first y (filter test ys))) (λ k. has-later y (filter test ys) x (rest k)) (has-cases y ys x h)
    by false e rest = ⊎_elim (λ s. absurd (true≢false (sym t ∙ ap test (sym s) ∙ e))) rest (has-cases y ys x h)

pub any-from : {X : Type 0} (test : X → Bool) (xs : List X) → list_any test xs ≡ true → (x : X) × (Contains xs x) × (test x ≡ true)
any-from test [] h = absurd (true≢false (sym h))
any-from test (x ∷ xs) h = by (test x) refl h (any-from test xs)
  where
    by : (b : Bool) → test x ≡ b → (b || list_any test xs) ≡ true → (list_any test xs ≡ true → (y : _) × (Contains xs y) × (test y ≡ true)) → (y : _) × (Contains (x ∷ xs) y) × (test y ≡ true)
    by true e g rest = (x, has-first x xs, e)
    by false e g rest = let r = rest g in (r.0, has-later x xs r.0 r.1, r.2)

pub any-of : {X : Type 0} (test : X → Bool) (xs : List X) (x : X) → Contains xs x → test x ≡ true → list_any test xs ≡ true
any-of test [] x i h = absurd (has-none x i)
any-of test (y ∷ ys) x i h = ⊎_elim (λ s. ap (λ b. b || list_any test ys) (ap test s ∙ h)) (λ j. by (test y) (any-of test ys x j h)) (has-cases y ys x i)
  where
    by : (b : Bool) → list_any test ys ≡ true → (b || list_any test ys) ≡ true
    by true rest = refl
    by false rest = rest

-- A list of which some things are so, each known by its text; and a list that has the same texts.
module _ {X : Type 0} (text : X → List ℕ) (xs : List X) (once : (x y : X) → Contains xs x → Contains xs y → text x ≡ text y → x ≡ y) (test : X → Bool) where
  -- whether a text is one of those that pass
  abbrev pub is_told : List ℕ → Bool
  is_told z = list_any (λ x. same_text (text x) z) (filter test xs)

  pub told-is : (x : X) → Contains xs x → is_told (text x) ≡ test x
  told-is x i = same-bool (is_told (text x)) (test x)
      (λ h. let r = any-from (λ y. same_text (text y) (text x)) (filter test xs) h in let p = passes-has test xs r.0 r.1 in sym (ap test (once r.0 x p.0 i (same-is (text r.0) (text x) r.2))) ∙ p.1)
      (λ h. any-of (λ y. same_text (text y) (text x)) (filter test xs) x (has-passes test xs x i h) (is-same (text x) (text x) refl))

  module _ {Y : Type 0} (name : Y → List ℕ) (ys : List Y) (along : map name ys ≡ map text xs) where
    -- the texts that stand at the places in the other list are told
    pub told-along : (z : List ℕ) → list_any (λ y. same_text (name y) z) (standing ys (places_below (passes_at test xs) (length xs))) ≡ is_told z
    told-along z =
        let places : List ℕ = places_below (passes_at test xs) (length xs) in
        sym (any-map (λ w. same_text w z) name (standing ys places))
        ∙ ap (list_any (λ w. same_text w z)) (standing-map name ys places ∙ ap (λ ws. standing ws places) along ∙ sym (standing-map text xs places) ∙ ap (map text) (standing-below test xs))
        ∙ any-map (λ w. same_text w z) text (filter test xs)

    same-long : length xs ≡ length ys
    same-long = sym (length-map xs text) ∙ ap length (sym along) ∙ length-map ys name

    at-along : (n : ℕ) → n < length xs → passes_at test xs n ≡ passes_at (λ y. is_told (name y)) ys n
    at-along n lt =
        let x = there xs n lt in
        let y = there ys n (subst (λ k. n < k) same-long lt) in
        let names : text x.0 ≡ name y.0 = some-same (text x.0) (name y.0) (sym (ap (option_map text) x.1) ∙ sym (slice_get-map text xs n) ∙ ap (λ l. slice_get l n) (sym along) ∙ slice_get-map name ys n ∙ ap (option_map name) y.1) in
        ap (λ o. option_map_or test o false) x.1 ∙ sym (told-is x.0 (at-has xs n x.0 x.1)) ∙ ap is_told names ∙ sym (ap (λ o. option_map_or (λ z. is_told (name z)) o false) y.1)

    -- what stands there is what is told
    pub told-stands : filter (λ y. is_told (name y)) ys ≡ standing ys (places_below (passes_at test xs) (length xs))
    told-stands =
        sym (standing-below (λ y. is_told (name y)) ys)
        ∙ ap (standing ys) (ap (places_below (passes_at (λ y. is_told (name y)) ys)) (sym same-long) ∙ sym (places-same (passes_at test xs) (passes_at (λ y. is_told (name y)) ys) (length xs) at-along))
