-- What lists have, and lists that are empty.
use Rattle.std.proofs.Common.{◌≡◌, refl, sym, ap, subst, ◌∙◌, ℕ, zero, suc, ◌<◌, Bool, true, false, ◌&&◌, ◌||◌, not, List, [], ◌∷◌, ◌++◌, map, Option, Some, None, slice_get, arith, ◌⊎◌, inl, inr, ⊎_elim}
use Rattle.std.specs.List.{Contains, flat_map, list_any, list_all}
use Rattle.std.specs.Option.{option_map_or}
use Rattle.std.proofs.lemmas.Bool.{true≢false}
use Rattle.std.proofs.lemmas.List.Elements.{Contains-append_left, Contains-append_right, Contains-append_cases}

no-place : (j : ℕ) → j < 0 → ⊥
no-place j lt = omega arith

-- whether a list has something
is_more : {X : Type 0} → List X → Bool
is_more [] = false
is_more (x ∷ xs) = true

pub more-not-empty : {X : Type 0} (x : X) (xs : List X) → x ∷ xs ≡ [] → ⊥
unfolding is_more
more-not-empty x xs e = true≢false (ap is_more e)

pub some-same : {T : Type 0} (x y : T) → Some x ≡ Some y → x ≡ y
some-same x y e = ap (λ o. option_map_or (λ z. z) o x) e

pub no-none : {T : Type 0} (x : T) → None ≡ Some x → ⊥
no-none {T = T} x e = true≢false (sym (ap (λ (o : Option T). option_map_or (λ z. true) o false) e))

module _ {X : Type 0} where
  pub has-none : (x : X) → Contains [] x → ⊥
  has-none x i = no-place i.0 i.1

  pub has-first : (x : X) (xs : List X) → Contains (x ∷ xs) x
  has-first x xs = (0, omega arith, refl)

  pub has-later : (y : X) (xs : List X) (x : X) → Contains xs x → Contains (y ∷ xs) x
  has-later y xs x i = Contains-append_right (y ∷ []) xs x i

  one-has : (y x : X) → Contains (y ∷ []) x → y ≡ x
  one-has y x (zero, lt, e) = e
  one-has y x (suc j, lt, e) = absurd (beyond lt)
    where
      beyond : suc j < 1 → ⊥
      beyond l = omega (l, arith)

  pub has-cases : (y : X) (xs : List X) (x : X) → Contains (y ∷ xs) x → (y ≡ x) ⊎ Contains xs x
  has-cases y xs x i = ⊎_elim (λ j. inl (one-has y x j)) (λ j. inr j) (Contains-append_cases (y ∷ []) xs x i)

  -- what stands at a place of a list
  pub at-has : (xs : List X) (n : ℕ) (x : X) → slice_get xs n ≡ Some x → Contains xs x
  at-has [] n x e = absurd (no-none x e)
  at-has (y ∷ ys) zero x e = subst (λ (z : X). Contains (y ∷ ys) z) (some-same y x e) (has-first y ys)
  at-has (y ∷ ys) (suc n) x e = has-later y ys x (at-has ys n x e)

  pub has-at : (xs : List X) (x : X) → Contains xs x → (n : ℕ) × (slice_get xs n ≡ Some x)
  has-at [] x i = absurd (has-none x i)
  has-at (y ∷ ys) x i = ⊎_elim (λ e. (zero, ap (λ (z : X). Some z) e)) (λ j. let r = has-at ys x j in (suc r.0, r.1)) (has-cases y ys x i)

  -- both parts of what is empty
  pub left-empty : (xs ys : List X) → xs ++ ys ≡ [] → xs ≡ []
  left-empty [] ys e = refl
  left-empty (x ∷ xs) ys e = absurd (more-not-empty x (xs ++ ys) e)

  pub right-empty : (xs ys : List X) → xs ++ ys ≡ [] → ys ≡ []
  right-empty [] ys e = e
  right-empty (x ∷ xs) ys e = absurd (more-not-empty x (xs ++ ys) e)

module _ {X Y : Type 0} where
  -- what nothing comes of
  pub each-empty : (f : X → List Y) (xs : List X) → flat_map f xs ≡ [] → (x : X) → Contains xs x → f x ≡ []
  each-empty f [] e x i = absurd (has-none x i)
  each-empty f (z ∷ zs) e x i = ⊎_elim (λ h. ap f (sym h) ∙ left-empty (f z) (flat_map f zs) e) (λ j. each-empty f zs (right-empty (f z) (flat_map f zs) e) x j) (has-cases z zs x i)

  pub map-has : (f : X → Y) (xs : List X) (x : X) → Contains xs x → Contains (map f xs) (f x)
  map-has f [] x i = absurd (has-none x i)
  map-has f (z ∷ zs) x i = ⊎_elim (λ h. subst (λ w. Contains (f z ∷ map f zs) (f w)) h (has-first (f z) (map f zs))) (λ j. has-later (f z) (map f zs) (f x) (map-has f zs x j)) (has-cases z zs x i)

  pub map-from : (f : X → Y) (xs : List X) (y : Y) → Contains (map f xs) y → (x : X) × Contains xs x × (f x ≡ y)
  map-from f [] y i = absurd (has-none y i)
  map-from f (z ∷ zs) y i = ⊎_elim (λ h. (z, has-first z zs, h)) (λ j. let r = map-from f zs y j in (r.0, has-later z zs r.0 r.1, r.2)) (has-cases (f z) (map f zs) y i)

  pub at-map : (f : X → Y) (xs : List X) (n : ℕ) (x : X) → slice_get xs n ≡ Some x → slice_get (map f xs) n ≡ Some (f x)
  at-map f [] n x e = absurd (no-none x e)
  at-map f (z ∷ zs) zero x e = ap (λ w. Some (f w)) (some-same z x e)
  at-map f (z ∷ zs) (suc n) x e = at-map f zs n x e

  pub map-at : (f : X → Y) (xs : List X) (n : ℕ) (y : Y) → slice_get (map f xs) n ≡ Some y → (x : X) × (slice_get xs n ≡ Some x) × (f x ≡ y)
  map-at f [] n y e = absurd (no-none y e)
  map-at f (z ∷ zs) zero y e = (z, refl, some-same (f z) y e)
  map-at f (z ∷ zs) (suc n) y e = map-at f zs n y e

  pub flat-has : (f : X → List Y) (xs : List X) (x : X) (y : Y) → Contains xs x → Contains (f x) y → Contains (flat_map f xs) y
  flat-has f [] x y i k = absurd (has-none x i)
  flat-has f (z ∷ zs) x y i k = ⊎_elim (λ h. Contains-append_left (f z) (flat_map f zs) y (subst (λ w. Contains (f w) y) (sym h) k)) (λ j. Contains-append_right (f z) (flat_map f zs) y (flat-has f zs x y j k)) (has-cases z zs x i)

  pub flat-from : (f : X → List Y) (xs : List X) (y : Y) → Contains (flat_map f xs) y → (x : X) × Contains xs x × Contains (f x) y
  flat-from f [] y i = absurd (has-none y i)
  flat-from f (z ∷ zs) y i = ⊎_elim (λ h. (z, has-first z zs, h)) (λ j. let r = flat-from f zs y j in (r.0, has-later z zs r.0 r.1, r.2)) (Contains-append_cases (f z) (flat_map f zs) y i)

-- tests of lists
pub or-false-left : (a b : Bool) → (a || b) ≡ false → a ≡ false
or-false-left true b e = e
or-false-left false b e = refl

pub or-false-right : (a b : Bool) → (a || b) ≡ false → b ≡ false
or-false-right true b e = absurd (true≢false e)
or-false-right false b e = e

pub and-left : (a b : Bool) → (a && b) ≡ true → a ≡ true
and-left true b e = refl
and-left false b e = e

pub and-right : (a b : Bool) → (a && b) ≡ true → b ≡ true
and-right true b e = e
and-right false b e = absurd (true≢false (sym e))

pub both-true : (a b : Bool) → a ≡ true → b ≡ true → (a && b) ≡ true
both-true true b e f = f
both-true false b e f = absurd (true≢false (sym e))

pub or-true-left : (a b : Bool) → a ≡ true → (a || b) ≡ true
or-true-left true b e = refl
or-true-left false b e = absurd (true≢false (sym e))

pub or-true-right : (a b : Bool) → b ≡ true → (a || b) ≡ true
or-true-right true b e = refl
or-true-right false b e = e

pub or-cases : (a b : Bool) → (a || b) ≡ true → (a ≡ true) ⊎ (b ≡ true)
or-cases true b e = inl refl
or-cases false b e = inr e

pub not-false : (b : Bool) → not b ≡ false → b ≡ true
not-false true e = refl
not-false false e = absurd (true≢false e)

pub not-true : (b : Bool) → not b ≡ true → b ≡ false
not-true true e = absurd (true≢false (sym e))
not-true false e = refl

module _ {X : Type 0} where
  pub none-passes : (test : X → Bool) (xs : List X) → list_any test xs ≡ false → (x : X) → Contains xs x → test x ≡ false
  none-passes test [] e x i = absurd (has-none x i)
  none-passes test (z ∷ zs) e x i = ⊎_elim (λ h. ap test (sym h) ∙ or-false-left (test z) (list_any test zs) e) (λ j. none-passes test zs (or-false-right (test z) (list_any test zs) e) x j) (has-cases z zs x i)

  pub any-passes : (test : X → Bool) (xs : List X) (x : X) → Contains xs x → test x ≡ true → list_any test xs ≡ true
  any-passes test [] x i e = absurd (has-none x i)
  any-passes test (z ∷ zs) x i e = ⊎_elim (λ h. or-true-left (test z) (list_any test zs) (ap test h ∙ e)) (λ j. or-true-right (test z) (list_any test zs) (any-passes test zs x j e)) (has-cases z zs x i)

  pub all-pass : (test : X → Bool) (xs : List X) → list_all test xs ≡ true → (x : X) → Contains xs x → test x ≡ true
  all-pass test [] e x i = absurd (has-none x i)
  all-pass test (z ∷ zs) e x i = ⊎_elim (λ h. ap test (sym h) ∙ and-left (test z) (list_all test zs) e) (λ j. all-pass test zs (and-right (test z) (list_all test zs) e) x j) (has-cases z zs x i)
