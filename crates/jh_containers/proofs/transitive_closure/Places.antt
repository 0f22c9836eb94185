-- What stands in lists, as loops over them say it.
use Rattle.std.proofs.Common.{◌≡◌, refl, sym, ap, subst, ◌∙◌, ◌⊎◌, inl, inr, ℕ, zero, suc, ◌+◌, ◌<◌, ◌≤◌, Bool, true, false, nat_eq, List, [], ◌∷◌, length, get_or, slice_get, slice_set, Some, arith}
use Rattle.std.proofs.lemmas.Bool.Decides.{nat_tests}
use Rattle.std.proofs.lemmas.Option.{slice_get_within, slice_get-get_or}
use Rattle.jh_containers.specs.declared.transitive_closure.facts.Fact.{Fact}
use Rattle.jh_containers.specs.transitive_closure.Spreads.{IsIn, Spreads, given, passed, passed_to}

pub item-get : {X : Type 0} (xs : List X) (i : ℕ) (d : X) → i < length xs → slice_get xs i ≡ Some (get_or xs i d)
item-get xs i d lt = slice_get-get_or xs i d lt

same-test : (a b : ℕ) (t : Bool) → nat_eq a b ≡ t → t ≡ true → a ≡ b
same-test a b t e h = grind (arith, nat_tests)

other-test : (a b : ℕ) (t : Bool) → nat_eq a b ≡ t → t ≡ false → a ≡ b → ⊥
other-test a b t e h same = grind (arith, nat_tests)

-- two numbers are one or not
pub same-or-not : (a b : ℕ) → (a ≡ b) ⊎ (a ≡ b → ⊥)
same-or-not a b = by (nat_eq a b) refl
  where
    by : (t : Bool) → nat_eq a b ≡ t → (a ≡ b) ⊎ (a ≡ b → ⊥)
    by true e = inl (same-test a b true e refl)
    by false e = inr (other-test a b false e refl)

-- a list in which one item is exchanged
pub set-here : {X : Type 0} (xs : List X) (k : ℕ) (v : X) → k < length xs → slice_get (slice_set xs k v) k ≡ Some v
set-here [] k v lt = absurd (omega arith)
set-here (x ∷ xs) zero v lt = refl
set-here (x ∷ xs) (suc k) v lt = set-here xs k v (omega arith)

pub set-other : {X : Type 0} (xs : List X) (k : ℕ) (v : X) (c : ℕ) → (c ≡ k → ⊥) → slice_get (slice_set xs k v) c ≡ slice_get xs c
set-other [] zero v c h = refl
set-other [] (suc k) v c h = refl
set-other (x ∷ xs) zero v zero h = absurd (h refl)
set-other (x ∷ xs) zero v (suc c) h = refl
set-other (x ∷ xs) (suc k) v zero h = refl
set-other (x ∷ xs) (suc k) v (suc c) h = set-other xs k v c (λ e. h (ap suc e))

pub is-in-item : {X : Type 0} (xs : List X) (i : ℕ) (d : X) → i < length xs → IsIn xs (get_or xs i d)
is-in-item xs i d lt = (i, item-get xs i d lt)

some-same : {X : Type 0} (a b : X) → Some a ≡ Some b → a ≡ b
some-same a b e = cc

-- a place is one of those before, or the next
pub before-or-at : (i j : ℕ) → i < j + 1 → (i < j) ⊎ (i ≡ j)
before-or-at zero zero h = inr refl
before-or-at zero (suc j) h = inl (omega arith)
before-or-at (suc i) zero h = absurd (omega arith)
before-or-at (suc i) (suc j) h = next (before-or-at i j (omega arith))
  where
    next : (i < j) ⊎ (i ≡ j) → (suc i < suc j) ⊎ (suc i ≡ suc j)
    next (inl l) = inl (omega arith)
    next (inr e) = inr (ap suc e)

-- each item of a front of a list has become a fact of the new list
module _ {X : Type 0} (xs : List X) (make : X → Fact) where
  abbrev pub Added : List Fact → ℕ → Type 0
  Added list j = (i : ℕ) (v : X) → i < j → slice_get xs i ≡ Some v → IsIn list (make v)

  pub added-more : (old new : List Fact) (j : ℕ) (v : X) → slice_get xs j ≡ Some v → ((i : ℕ) (f : Fact) → slice_get old i ≡ Some f → slice_get new i ≡ Some f) → IsIn new (make v) → Added old j → Added new (j + 1)
  added-more old new j v at keeps here h = λ i w lt e. one i w e (before-or-at i j lt)
    where
      one : (i : ℕ) (w : X) → slice_get xs i ≡ Some w → (i < j) ⊎ (i ≡ j) → IsIn new (make w)
      one i w e (inl l) = let k = h i w l e in (k.0, keeps k.0 (make w) k.1)
      one i w e (inr same) = subst (λ (z : X). IsIn new (make z)) (some-same v w (sym at ∙ ap (slice_get xs) (sym same) ∙ e)) here

  pub added-all : (list : List Fact) (j : ℕ) → length xs ≤ j → Added list j → (v : X) → IsIn xs v → IsIn list (make v)
  added-all list j le h v k = let inside : k.0 < length xs = slice_get_within xs k.0 v k.1 in h k.0 v (omega arith) k.1

there : (xs : List Fact) (i : ℕ) → i < length xs → (v : Fact) × (slice_get xs i ≡ Some v)
there [] i l = absurd (omega arith)
there (x ∷ xs) zero l = (x, refl)
there (x ∷ xs) (suc i) l = there xs i (omega arith)

-- where each fact is given or passed on, and all those behind no place are passed on, the list is exact
module _ (facts : List Fact) (edges : List (List ℕ)) where
  abbrev pub Done : List Fact → ℕ → Type 0
  Done list j = (i : ℕ) (f : Fact) → i < j → slice_get list i ≡ Some f → (m : ℕ) → IsIn (passed_to edges f.of) m → IsIn list (record { of = m; what = f.what })

  pub done-more : (old new : List Fact) (j : ℕ) (f : Fact) → j < length old → slice_get old j ≡ Some f → ((i : ℕ) (g : Fact) → slice_get old i ≡ Some g → slice_get new i ≡ Some g) → ((m : ℕ) → IsIn (passed_to edges f.of) m → IsIn new (record { of = m; what = f.what })) → Done old j → Done new (j + 1)
  done-more old new j f inside at keeps here h = λ i g lt e m k. one i g e m k (before-or-at i j lt)
    where
      back : (i : ℕ) (g : Fact) → i < length old → slice_get new i ≡ Some g → slice_get old i ≡ Some g
      back i g l e = let o = there old i l in let same : o.0 ≡ g = some-same o.0 g (sym (keeps i o.0 o.1) ∙ e) in o.1 ∙ ap Some same

      one : (i : ℕ) (g : Fact) → slice_get new i ≡ Some g → (m : ℕ) → IsIn (passed_to edges g.of) m → (i < j) ⊎ (i ≡ j) → IsIn new (record { of = m; what = g.what })
      one i g e m k (inl l) = let r = h i g l (back i g (omega arith) e) m k in (r.0, keeps r.0 (record { of = m; what = g.what }) r.1)
      one i g e m k (inr same) =
          let is : f ≡ g = some-same f g (sym (keeps j f at) ∙ ap (slice_get new) (sym same) ∙ e) in
          subst (λ (z : Fact). IsIn new (record { of = m; what = z.what })) is (here m (subst (λ (z : Fact). IsIn (passed_to edges z.of) m) (sym is) k))

  pub all-there : (list : List Fact) (j : ℕ) → length list ≤ j → ((f : Fact) → IsIn facts f → IsIn list f) → Done list j → (f : Fact) → Spreads facts edges f → IsIn list f
  all-there list j le start done f (given _ k) = start f k
  all-there list j le start done _ (passed m f k s) =
      let r = all-there list j le start done f s in
      let inside : r.0 < length list = slice_get_within list r.0 f r.1 in
      done r.0 f (omega arith) r.1 m k

  pub sound-more : (old new : List Fact) (f : Fact) → ((g : Fact) → IsIn new g → (IsIn (passed_to edges f.of) g.of × (g.what ≡ f.what)) ⊎ IsIn old g) → IsIn old f → ((g : Fact) → IsIn old g → Spreads facts edges g) → (g : Fact) → IsIn new g → Spreads facts edges g
  sound-more old new f only here h g k = one (only g k)
    where
      one : (IsIn (passed_to edges f.of) g.of × (g.what ≡ f.what)) ⊎ IsIn old g → Spreads facts edges g
      one (inl p) = subst (λ (w : ℕ). Spreads facts edges (record { of = g.of; what = w })) (sym p.1) (passed g.of f p.0 (h f here))
      one (inr q) = h g q

-- a fact of the list is one of those that were added, or was there before
pub more-only : (facts start old : List Fact) (added f : Fact) → IsIn facts added → ((g : Fact) → IsIn old g → IsIn facts g ⊎ IsIn start g) → (f ≡ added) ⊎ IsIn old f → IsIn facts f ⊎ IsIn start f
more-only facts start old added f here h (inl e) = inl (subst (λ (g : Fact). IsIn facts g) (sym e) here)
more-only facts start old added f here h (inr k) = h f k

pub more-passed : (to : List ℕ) (what : ℕ) (start old : List Fact) (m : ℕ) (f : Fact) → IsIn to m → ((g : Fact) → IsIn old g → (IsIn to g.of × (g.what ≡ what)) ⊎ IsIn start g) → (f ≡ record { of = m; what = what }) ⊎ IsIn old f → (IsIn to f.of × (f.what ≡ what)) ⊎ IsIn start f
more-passed to what start old m f here h (inl e) = inl (subst (λ (n : ℕ). IsIn to n) (sym (ap (λ (g : Fact). g.of) e)) here, ap (λ (g : Fact). g.what) e)
more-passed to what start old m f here h (inr k) = h f k

pub only-given : (facts : List Fact) (edges : List (List ℕ)) (start : List Fact) (f : Fact) → start ≡ [] → IsIn facts f ⊎ IsIn start f → Spreads facts edges f
only-given facts edges start f e (inl k) = given f k
only-given facts edges start f e (inr k) = absurd (none (subst (λ (xs : List Fact). IsIn xs f) e k))
  where
    none : IsIn [] f → ⊥
    none (zero, q) = cc
    none (suc i, q) = cc
