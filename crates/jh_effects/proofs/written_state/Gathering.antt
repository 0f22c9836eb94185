-- What is made of the things of a list, each with its number.
use Rattle.std.proofs.Common.{◌≡◌, refl, sym, ap, subst, ◌∙◌, ◌⊎◌, inl, inr, ℕ, zero, suc, ◌+◌, ◌≤◌, List, [], ◌∷◌, ◌++◌, map, drop, length, add-one, slice_get, Some, None, arith}
use Rattle.std.specs.List.{flat_map, Contains}
use Rattle.std.proofs.lemmas.List.{drop_all}
use Rattle.std.proofs.lemmas.Option.{slice_get_within, slice_get-get_or, get_or_from_slice_get}
use Rattle.jh_containers.specs.transitive_closure.Spreads.{IsIn}
use Rattle.jh_effects.specs.written_state.Methods.{gathered_from}

pub some-is : {X : Type 0} (a b : X) → Some a ≡ Some b → a ≡ b
some-is a b e = cc

pub none-some : {X : Type 0} (a : X) → None ≡ Some a → ⊥
none-some a e = cc

pub nothing-in : {X : Type 0} (x : X) → IsIn [] x → ⊥
nothing-in x (zero, e) = cc
nothing-in x (suc i, e) = cc

pub contains-in : {X : Type 0} (xs : List X) (x : X) → Contains xs x → IsIn xs x
contains-in xs x h = (h.0, slice_get-get_or xs h.0 x h.1 ∙ ap Some h.2)

pub in-contains : {X : Type 0} (xs : List X) (x : X) → IsIn xs x → Contains xs x
in-contains xs x h = (h.0, slice_get_within xs h.0 x h.1, get_or_from_slice_get xs h.0 x x h.1)

pub in-front : {X : Type 0} (xs ys : List X) (x : X) → IsIn xs x → IsIn (xs ++ ys) x
in-front [] ys x h = absurd (nothing-in x h)
in-front (z ∷ xs) ys x (zero, e) = (0, e)
in-front (z ∷ xs) ys x (suc i, e) = let k = in-front xs ys x (i, e) in (suc k.0, k.1)

pub in-back : {X : Type 0} (xs ys : List X) (x : X) → IsIn ys x → IsIn (xs ++ ys) x
in-back [] ys x h = h
in-back (z ∷ xs) ys x h = let k = in-back xs ys x h in (suc k.0, k.1)

pub in-either : {X : Type 0} (xs ys : List X) (x : X) → IsIn (xs ++ ys) x → IsIn xs x ⊎ IsIn ys x
in-either [] ys x h = inr h
in-either (z ∷ xs) ys x (zero, e) = inl (0, e)
in-either (z ∷ xs) ys x (suc i, e) = next (in-either xs ys x (i, e))
  where
    next : IsIn xs x ⊎ IsIn ys x → IsIn (z ∷ xs) x ⊎ IsIn ys x
    next (inl k) = inl (suc k.0, k.1)
    next (inr k) = inr k

pub map-of : {X Y : Type 0} (f : X → Y) (xs : List X) (y : Y) → IsIn (map f xs) y → (x : X) × IsIn xs x × (f x ≡ y)
map-of f [] y h = absurd (nothing-in y h)
map-of f (x ∷ xs) y (zero, e) = (x, (0, refl), some-is (f x) y e)
map-of f (x ∷ xs) y (suc i, e) = let w = map-of f xs y (i, e) in (w.0, (suc (w.1).0, (w.1).1), w.2)

pub in-map : {X Y : Type 0} (f : X → Y) (xs : List X) (x : X) (i : ℕ) → slice_get xs i ≡ Some x → slice_get (map f xs) i ≡ Some (f x)
in-map f [] x zero e = cc
in-map f [] x (suc i) e = cc
in-map f (y ∷ xs) x zero e = ap (λ z. Some (f z)) (some-is y x e)
in-map f (y ∷ xs) x (suc i) e = in-map f xs x i e

pub map-back : {X Y : Type 0} (f : X → Y) (xs : List X) (y : Y) (i : ℕ) → slice_get (map f xs) i ≡ Some y → (x : X) × (slice_get xs i ≡ Some x) × (f x ≡ y)
map-back f [] y zero e = cc
map-back f [] y (suc i) e = cc
map-back f (x ∷ xs) y zero e = (x, refl, some-is (f x) y e)
map-back f (x ∷ xs) y (suc i) e = map-back f xs y i e

pub flat-of : {X Y : Type 0} (f : X → List Y) (xs : List X) (y : Y) → IsIn (flat_map f xs) y → (x : X) × IsIn xs x × IsIn (f x) y
flat-of f [] y h = absurd (nothing-in y h)
flat-of f (x ∷ xs) y h = by (in-either (f x) (flat_map f xs) y h) (flat-of f xs y)
  where
    by : IsIn (f x) y ⊎ IsIn (flat_map f xs) y → (IsIn (flat_map f xs) y → (z : _) × IsIn xs z × IsIn (f z) y) → (z : _) × IsIn (x ∷ xs) z × IsIn (f z) y
    by (inl k) rest = (x, (0, refl), k)
    by (inr k) rest = let w = rest k in (w.0, (suc (w.1).0, (w.1).1), w.2)

pub in-flat : {X Y : Type 0} (f : X → List Y) (xs : List X) (x : X) (i : ℕ) (y : Y) → slice_get xs i ≡ Some x → IsIn (f x) y → IsIn (flat_map f xs) y
in-flat f [] x zero y e h = cc
in-flat f [] x (suc i) y e h = cc
in-flat f (z ∷ xs) x zero y e h = in-front (f z) (flat_map f xs) y (subst (λ (v : _). IsIn (f v) y) (sym (some-is z x e)) h)
in-flat f (z ∷ xs) x (suc i) y e h = in-back (f z) (flat_map f xs) y (in-flat f xs x i y e h)

module _ {X Y : Type 0} (f : ℕ → X → List Y) where
  pub gathered-of : (n : ℕ) (xs : List X) (y : Y) → IsIn (gathered_from f n xs) y → (k : ℕ) × (x : X) × (slice_get xs k ≡ Some x) × IsIn (f (n + k) x) y
  unfolding gathered_from
  gathered-of n [] y h = absurd (nothing-in y h)
  gathered-of n (x ∷ xs) y h = by (in-either (f n x) (gathered_from f (n + 1) xs) y h) (gathered-of (n + 1) xs y)
    where
      zero-more : n ≡ n + 0
      zero-more = omega arith

      one-more : (k : ℕ) → (n + 1) + k ≡ n + suc k
      one-more k = omega arith

      by : IsIn (f n x) y ⊎ IsIn (gathered_from f (n + 1) xs) y → (IsIn (gathered_from f (n + 1) xs) y → (k : ℕ) × (z : X) × (slice_get xs k ≡ Some z) × IsIn (f ((n + 1) + k) z) y) → (k : ℕ) × (z : X) × (slice_get (x ∷ xs) k ≡ Some z) × IsIn (f (n + k) z) y
      by (inl k) rest = (0, x, refl, subst (λ (m : ℕ). IsIn (f m x) y) zero-more k)
      by (inr k) rest = let w = rest k in (suc w.0, w.1, w.2, subst (λ (m : ℕ). IsIn (f m w.1) y) (one-more w.0) w.3)

  pub in-gathered : (n : ℕ) (xs : List X) (k : ℕ) (x : X) (y : Y) → slice_get xs k ≡ Some x → IsIn (f (n + k) x) y → IsIn (gathered_from f n xs) y
  unfolding gathered_from
  in-gathered n [] zero x y e h = cc
  in-gathered n [] (suc k) x y e h = cc
  in-gathered n (z ∷ xs) zero x y e h =
      let same : n + 0 ≡ n = omega arith in
      in-front (f n z) (gathered_from f (n + 1) xs) y (subst (λ (v : X). IsIn (f n v) y) (sym (some-is z x e)) (subst (λ (m : ℕ). IsIn (f m x) y) same h))
  in-gathered n (z ∷ xs) (suc k) x y e h =
      let same : n + suc k ≡ (n + 1) + k = omega arith in
      in-back (f n z) (gathered_from f (n + 1) xs) y (in-gathered (n + 1) xs k x y e (subst (λ (m : ℕ). IsIn (f m x) y) same h))

  -- what is made so far, as a loop goes on
  regroup : (xs ys zs : List Y) → (xs ++ ys) ++ zs ≡ xs ++ (ys ++ zs)
  regroup [] ys zs = refl
  regroup (x ∷ xs) ys zs = ap (λ us. x ∷ us) (regroup xs ys zs)

  nothing-more : (xs : List Y) → xs ≡ xs ++ []
  nothing-more [] = refl
  nothing-more (x ∷ xs) = ap (λ ys. x ∷ ys) (nothing-more xs)

  drop-at : (xs : List X) (n : ℕ) (x : X) → slice_get xs n ≡ Some x → drop n xs ≡ x ∷ drop (suc n) xs
  drop-at [] zero x e = cc
  drop-at [] (suc n) x e = cc
  drop-at (y ∷ xs) zero x e = ap (λ z. z ∷ xs) (some-is y x e)
  drop-at (y ∷ xs) (suc n) x e = drop-at xs n x e

  pub gathered-next : (start : ℕ) (xs : List X) (n : ℕ) (x : X) (made more whole : List Y) → slice_get xs n ≡ Some x → more ≡ made ++ f (start + n) x → made ++ gathered_from f (start + n) (drop n xs) ≡ whole → more ++ gathered_from f (start + (n + 1)) (drop (n + 1) xs) ≡ whole
  unfolding gathered_from
  gathered-next start xs n x made more whole at is h =
      let same : start + (n + 1) ≡ (start + n) + 1 = omega arith in
      ap (λ us. us ++ gathered_from f (start + (n + 1)) (drop (n + 1) xs)) is
      ∙ regroup made (f (start + n) x) (gathered_from f (start + (n + 1)) (drop (n + 1) xs))
      ∙ (λ i. made ++ (f (start + n) x ++ gathered_from f (same i) (drop (add-one n i) xs)))
      ∙ sym (ap (λ us. made ++ gathered_from f (start + n) us) (drop-at xs n x at))
      ∙ h

  pub gathered-end : (start : ℕ) (xs : List X) (n : ℕ) (made whole : List Y) → length xs ≤ n → made ++ gathered_from f (start + n) (drop n xs) ≡ whole → made ≡ whole
  unfolding gathered_from
  gathered-end start xs n made whole le h = nothing-more made ∙ sym (ap (λ us. made ++ gathered_from f (start + n) us) (drop_all n xs le)) ∙ h

-- what is made of each of a list, as a loop goes on
module _ {X Y Z : Type 0} (f : X → List Y) (g : Z → X) where
  regroup-all : (xs ys zs : List Y) → (xs ++ ys) ++ zs ≡ xs ++ (ys ++ zs)
  regroup-all [] ys zs = refl
  regroup-all (x ∷ xs) ys zs = ap (λ us. x ∷ us) (regroup-all xs ys zs)

  nothing-left : (xs : List Y) → xs ≡ xs ++ []
  nothing-left [] = refl
  nothing-left (x ∷ xs) = ap (λ ys. x ∷ ys) (nothing-left xs)

  drop-first : (zs : List Z) (n : ℕ) (z : Z) → slice_get zs n ≡ Some z → drop n zs ≡ z ∷ drop (suc n) zs
  drop-first [] zero z e = cc
  drop-first [] (suc n) z e = cc
  drop-first (y ∷ zs) zero z e = ap (λ v. v ∷ zs) (some-is y z e)
  drop-first (y ∷ zs) (suc n) z e = drop-first zs n z e

  pub flat-next : (zs : List Z) (n : ℕ) (z : Z) (made more whole : List Y) → slice_get zs n ≡ Some z → more ≡ made ++ f (g z) → made ++ flat_map f (map g (drop n zs)) ≡ whole → more ++ flat_map f (map g (drop (n + 1) zs)) ≡ whole
  flat-next zs n z made more whole at is h =
      ap (λ us. us ++ flat_map f (map g (drop (n + 1) zs))) is
      ∙ regroup-all made (f (g z)) (flat_map f (map g (drop (n + 1) zs)))
      ∙ (λ i. made ++ (f (g z) ++ flat_map f (map g (drop (add-one n i) zs))))
      ∙ sym (ap (λ us. made ++ flat_map f (map g us)) (drop-first zs n z at))
      ∙ h

  pub flat-end : (zs : List Z) (n : ℕ) (made whole : List Y) → length zs ≤ n → made ++ flat_map f (map g (drop n zs)) ≡ whole → made ≡ whole
  flat-end zs n made whole le h = nothing-left made ∙ sym (ap (λ us. made ++ flat_map f (map g us)) (drop_all n zs le)) ∙ h
