-- What is done, and what waits for what.
use Rattle.std.proofs.Common.{◌≡◌, refl, sym, ap, subst, ◌∙◌, ◌⊎◌, inl, inr, ℕ, zero, suc, ◌+◌, ◌<◌, ◌≤◌, ◌||◌, Bool, true, false, nat_eq, List, [], ◌∷◌, ◌++◌, length, get_or, slice_get, Some, arith}
use Rattle.std.specs.List.{list_any}
use Rattle.indexmap.proofs.IndexTableLemmas.Probe.{pigeonhole}
use Rattle.std.proofs.lemmas.Bool.{true≢false}
use Rattle.std.proofs.lemmas.Bool.Decides.{nat_tests}
use Rattle.std.proofs.lemmas.Option.{slice_get_within, slice_get-get_or}
use Rattle.jh_containers.specs.transitive_closure.Spreads.{IsIn}
use Rattle.jh_containers.proofs.transitive_closure.Places.{before-or-at, same-or-not}
use Rattle.jh_containers.specs.topological_order.Orders.{reads_of, IsOrdered, AreThings, AreDistinct, IsTried, IsReversed, Reaches, directly, through}

same-test : (a b : ℕ) (t : Bool) → nat_eq a b ≡ t → t ≡ true → a ≡ b
same-test a b t e h = grind (arith, nat_tests)

other-test : (a b : ℕ) (t : Bool) → nat_eq a b ≡ t → t ≡ false → a ≡ b → ⊥
other-test a b t e h same = grind (arith, nat_tests)

some-is : (a b : ℕ) → Some a ≡ Some b → a ≡ b
some-is a b e = cc

any-step : (x y : ℕ) (ys : List ℕ) (t : Bool) → nat_eq x y ≡ t → (list_any (nat_eq x) ys ≡ true → IsIn ys x) → list_any (nat_eq x) (y ∷ ys) ≡ true → IsIn (y ∷ ys) x
any-step x y ys true e rest h = (0, ap Some (sym (same-test x y true e refl)))
any-step x y ys false e rest h = let k = rest (sym (ap (λ t. t || list_any (nat_eq x) ys) e) ∙ h) in (suc k.0, k.1)

-- a test over a list
pub any-in : (x : ℕ) (xs : List ℕ) → list_any (nat_eq x) xs ≡ true → IsIn xs x
any-in x [] h = absurd (true≢false (sym h))
any-in x (y ∷ ys) h = any-step x y ys (nat_eq x y) refl (any-in x ys) h

none-step : (x y : ℕ) (ys : List ℕ) (t : Bool) → nat_eq x y ≡ t → (list_any (nat_eq x) ys ≡ false → IsIn ys x → ⊥) → list_any (nat_eq x) (y ∷ ys) ≡ false → IsIn (y ∷ ys) x → ⊥
none-step x y ys true e rest h k = true≢false (sym (ap (λ t. t || list_any (nat_eq x) ys) e) ∙ h)
none-step x y ys false e rest h (zero, q) = other-test x y false e refl (some-is x y (sym q))
none-step x y ys false e rest h (suc i, q) = rest (sym (ap (λ t. t || list_any (nat_eq x) ys) e) ∙ h) (i, q)

pub none-in : (x : ℕ) (xs : List ℕ) → list_any (nat_eq x) xs ≡ false → IsIn xs x → ⊥
none-in x [] h (zero, e) = cc
none-in x [] h (suc i, e) = cc
none-in x (y ∷ ys) h k = none-step x y ys (nat_eq x y) refl (none-in x ys) h k

pub there : (xs : List ℕ) (i : ℕ) → i < length xs → (v : ℕ) × (slice_get xs i ≡ Some v)
there [] i l = absurd (omega arith)
there (x ∷ xs) zero l = (x, refl)
there (x ∷ xs) (suc i) l = there xs i (omega arith)

-- a list with one more at the end
module _ {X : Type 0} where
  last-is : (x r : X) → Some x ≡ Some r → r ≡ x
  last-is x r e = cc

  pub push-keeps : (xs : List X) (x : X) (i : ℕ) (r : X) → slice_get xs i ≡ Some r → slice_get (xs ++ x ∷ []) i ≡ Some r
  push-keeps [] x zero r e = cc
  push-keeps [] x (suc i) r e = cc
  push-keeps (y ∷ xs) x zero r e = e
  push-keeps (y ∷ xs) x (suc i) r e = push-keeps xs x i r e

  pub push-last : (xs : List X) (x : X) → slice_get (xs ++ x ∷ []) (length xs) ≡ Some x
  push-last [] x = refl
  push-last (y ∷ xs) x = push-last xs x

  pub push-cases : (xs : List X) (x : X) (i : ℕ) (r : X) → slice_get (xs ++ x ∷ []) i ≡ Some r → (slice_get xs i ≡ Some r) ⊎ ((i ≡ length xs) × (r ≡ x))
  push-cases [] x zero r e = inr (refl, last-is x r e)
  push-cases [] x (suc i) r e = inl e
  push-cases (y ∷ xs) x zero r e = inl e
  push-cases (y ∷ xs) x (suc i) r e = next (push-cases xs x i r e)
    where
      next : (slice_get xs i ≡ Some r) ⊎ ((i ≡ length xs) × (r ≡ x)) → (slice_get (y ∷ xs) (suc i) ≡ Some r) ⊎ ((suc i ≡ length (y ∷ xs)) × (r ≡ x))
      next (inl k) = inl k
      next (inr k) = inr (ap suc k.0, k.1)

pub distinct-push : (xs new : List ℕ) (x : ℕ) → new ≡ xs ++ x ∷ [] → list_any (nat_eq x) xs ≡ false → AreDistinct xs → AreDistinct new
distinct-push xs new x p absent d = subst (λ (ys : List ℕ). AreDistinct ys) (sym p) (λ i j r e f. both i j r (push-cases xs x i r e) (push-cases xs x j r f))
  where
    apart : (i r : ℕ) → slice_get xs i ≡ Some r → r ≡ x → ⊥
    apart i r e s = none-in x xs absent (i, e ∙ ap Some s)

    both : (i j r : ℕ) → (slice_get xs i ≡ Some r) ⊎ ((i ≡ length xs) × (r ≡ x)) → (slice_get xs j ≡ Some r) ⊎ ((j ≡ length xs) × (r ≡ x)) → i ≡ j
    both i j r (inl e) (inl f) = d i j r e f
    both i j r (inl e) (inr f) = absurd (apart i r e f.1)
    both i j r (inr e) (inl f) = absurd (apart j r f e.1)
    both i j r (inr e) (inr f) = e.0 ∙ sym f.0

-- things that differ are no more than there are
pub few-things : (reads : List (List ℕ)) (order : List ℕ) → AreThings reads order → AreDistinct order → length order ≤ length reads
few-things reads order things d =
    pigeonhole (length order) (length reads) (λ i. get_or order i 0) (λ i lt. things i (get_or order i 0) (slice_get-get_or order i 0 lt))
    (λ i j p q e. d i j (get_or order i 0) (slice_get-get_or order i 0 p) (slice_get-get_or order j 0 q ∙ ap Some (sym e)))

abbrev pub Keeps : List ℕ → List ℕ → Type 0
Keeps old new = (i r : ℕ) → slice_get old i ≡ Some r → slice_get new i ≡ Some r

module _ (reads : List (List ℕ)) where
  pub ordered-push : (xs new : List ℕ) (x : ℕ) → new ≡ xs ++ x ∷ [] → IsOrdered reads xs → ((d : ℕ) → IsIn (reads_of reads x) d → IsIn xs d) → IsOrdered reads new
  ordered-push xs new x p o all = subst (λ (ys : List ℕ). IsOrdered reads ys) (sym p) (λ i r d e k. one i r d k (push-cases xs x i r e))
    where
      one : (i r d : ℕ) → IsIn (reads_of reads r) d → (slice_get xs i ≡ Some r) ⊎ ((i ≡ length xs) × (r ≡ x)) → (j : ℕ) × (j < i) × (slice_get (xs ++ x ∷ []) j ≡ Some d)
      one i r d k (inl e) = let q = o i r d e k in (q.0, q.1, push-keeps xs x q.0 d q.2)
      one i r d k (inr e) =
          let q = all d (subst (λ (z : ℕ). IsIn (reads_of reads z) d) e.1 k) in
          let inside : q.0 < length xs = slice_get_within xs q.0 d q.1 in
          (q.0, subst (λ (n : ℕ). q.0 < n) (sym e.0) inside, push-keeps xs x q.0 d q.1)

  pub things-push : (xs new : List ℕ) (x : ℕ) → new ≡ xs ++ x ∷ [] → AreThings reads xs → x < length reads → AreThings reads new
  things-push xs new x p t lt = subst (λ (ys : List ℕ). AreThings reads ys) (sym p) (λ i r e. one r (push-cases xs x i r e))
    where
      one : {i : ℕ} (r : ℕ) → (slice_get xs i ≡ Some r) ⊎ ((i ≡ length xs) × (r ≡ x)) → r < length reads
      one {i} r (inl e) = t i r e
      one r (inr e) = subst (λ (z : ℕ). z < length reads) (sym e.1) lt

  pub keeps-push : (xs new : List ℕ) (x : ℕ) → new ≡ xs ++ x ∷ [] → Keeps xs new
  keeps-push xs new x p = subst (λ (ys : List ℕ). Keeps xs ys) (sym p) (push-keeps xs x)

  pub in-push : (xs new : List ℕ) (x : ℕ) → new ≡ xs ++ x ∷ [] → IsIn new x
  in-push xs new x p = subst (λ (ys : List ℕ). IsIn ys x) (sym p) (length xs, push-last xs x)

  pub in-keeps : (xs ys : List ℕ) (x : ℕ) → Keeps xs ys → IsIn xs x → IsIn ys x
  in-keeps xs ys x k h = (h.0, k h.0 x h.1)

  -- what was tried stays so, where more is done, and less was looked at
  pub tried-stays : (old new missing less : List ℕ) (r : ℕ) → Keeps old new → Keeps less missing → IsTried reads old missing r → IsTried reads new less r
  tried-stays old new missing less r k m (inl h) = inl (in-keeps old new r k h)
  tried-stays old new missing less r k m (inr w) = inr (w.0, w.1, λ h. w.2 (in-keeps less missing w.0 m h))

  -- a thing is done, or reads something that is not among the first of what is done
  abbrev pub Waits : List ℕ → ℕ → ℕ → Type 0
  Waits list at r = IsIn list r ⊎ ((d : ℕ) × IsIn (reads_of reads r) d × ((i : ℕ) → i < at → slice_get list i ≡ Some d → ⊥))

  pub waits-none : (list missing : List ℕ) (r : ℕ) → IsTried reads list missing r → Waits list 0 r
  waits-none list missing r (inl h) = inl h
  waits-none list missing r (inr w) = inr (w.0, w.1, λ i lt e. absurd (omega arith))

  pub waits-end : (list : List ℕ) (at r : ℕ) → length list ≤ at → Waits list at r → IsTried reads list list r
  waits-end list at r le (inl h) = inl h
  waits-end list at r le (inr w) = inr (w.0, w.1, λ h. let inside : h.0 < length list = slice_get_within list h.0 w.0 h.1 in w.2 h.0 (omega arith) h.1)

  -- the thing at a place is done, and those that read it are tried
  pub waits-more : (readers : List (List ℕ)) (old new : List ℕ) (at x : ℕ) → IsReversed reads readers → at < length old → slice_get old at ≡ Some x → Keeps old new →
      ((r : ℕ) → IsIn (reads_of readers x) r → r < length reads → IsTried reads new old r) → (r : ℕ) → r < length reads → Waits old at r → Waits new (at + 1) r
  waits-more readers old new at x back inside here keeps tried r lt (inl h) = inl (in-keeps old new r keeps h)
  waits-more readers old new at x back inside here keeps tried r lt (inr w) = by (same-or-not w.0 x)
    where
      old-at : (i d : ℕ) → i < length old → slice_get new i ≡ Some d → slice_get old i ≡ Some d
      old-at i d l e = let o = there old i l in o.1 ∙ ap Some (some-is o.0 d (sym (keeps i o.0 o.1) ∙ e))

      fresh : IsTried reads new old r → Waits new (at + 1) r
      fresh (inl h) = inl h
      fresh (inr v) = inr (v.0, v.1, λ i l e. v.2 (i, old-at i v.0 (omega arith) e))

      stays : (w.0 ≡ x → ⊥) → (i : ℕ) → i < at + 1 → slice_get new i ≡ Some w.0 → ⊥
      stays other i l e = at-place (before-or-at i at l)
        where
          at-place : (i < at) ⊎ (i ≡ at) → ⊥
          at-place (inl b) = w.2 i b (old-at i w.0 (omega arith) e)
          at-place (inr s) = other (some-is w.0 x (sym (old-at i w.0 (omega arith) e) ∙ ap (slice_get old) s ∙ here))

      by : (w.0 ≡ x) ⊎ (w.0 ≡ x → ⊥) → Waits new (at + 1) r
      by (inl s) = fresh (tried r (subst (λ (d : ℕ). IsIn (reads_of readers d) r) s (back r w.0 w.1)) lt)
      by (inr other) = inr (w.0, w.1, stays other)

-- the first of a row that isn't done
module _ (row done : List ℕ) (at v : ℕ) (b : Bool) (here : slice_get row at ≡ Some v) (test : b ≡ list_any (nat_eq v) done) where
  pub undone-at : b ≡ false → (d : ℕ) → slice_get row at ≡ Some d → IsIn done d → ⊥
  undone-at h d e = none-in d done (subst (λ (x : ℕ). list_any (nat_eq x) done ≡ false) (some-is v d (sym here ∙ e)) (sym test ∙ h))

  pub before-more : b ≡ true → ((j d : ℕ) → j < at → slice_get row j ≡ Some d → IsIn done d) → (j d : ℕ) → j < at + 1 → slice_get row j ≡ Some d → IsIn done d
  before-more h before j d lt e = by (before-or-at j at lt)
    where
      by : (j < at) ⊎ (j ≡ at) → IsIn done d
      by (inl l) = before j d l e
      by (inr s) = any-in d done (subst (λ (x : ℕ). list_any (nat_eq x) done ≡ true) (some-is v d (sym here ∙ ap (slice_get row) (sym s) ∙ e)) (sym test ∙ h))

pub undone-end : (row done : List ℕ) (n d : ℕ) → length row ≤ n → slice_get row n ≡ Some d → IsIn done d → ⊥
undone-end row done n d le e k = let inside : n < length row = slice_get_within row n d e in omega arith

pub all-done : (row rest done : List ℕ) (n : ℕ) → row ≡ rest → length row ≤ n → ((j d : ℕ) → j < n → slice_get row j ≡ Some d → IsIn done d) → (d : ℕ) → IsIn rest d → IsIn done d
all-done row rest done n same le before d k =
    let e : slice_get row k.0 ≡ Some d = ap (λ ms. slice_get ms k.0) same ∙ k.1 in
    let inside : k.0 < length row = slice_get_within row k.0 d e in
    before k.0 d (omega arith) e

-- one more of a row is tried, and one more of all
module _ (reads : List (List ℕ)) (first old new : List ℕ) where
  pub tried-more : (things : List ℕ) (j v : ℕ) → slice_get things j ≡ Some v → Keeps first old → Keeps old new → (v < length reads → IsTried reads new old v) →
      ((i r : ℕ) → i < j → slice_get things i ≡ Some r → r < length reads → IsTried reads old first r) → (i r : ℕ) → i < j + 1 → slice_get things i ≡ Some r → r < length reads → IsTried reads new first r
  tried-more things j v here k m one before i r lt e inside = by (before-or-at i j lt)
    where
      by : (i < j) ⊎ (i ≡ j) → IsTried reads new first r
      by (inl l) = tried-stays reads old new first first r m (λ a b h. h) (before i r l e inside)
      by (inr s) =
          let same : v ≡ r = some-is v r (sym here ∙ ap (slice_get things) (sym s) ∙ e) in
          tried-stays reads new new old first r (λ a b h. h) k (subst (λ (z : ℕ). z < length reads → IsTried reads new old z) same one inside)

  pub tried-next : (j : ℕ) → j < length reads → Keeps first old → Keeps old new → (j < length reads → IsTried reads new old j) →
      ((r : ℕ) → r < j → IsTried reads old first r) → (r : ℕ) → r < j + 1 → IsTried reads new first r
  tried-next j inside k m one before r lt = by (before-or-at r j lt)
    where
      by : (r < j) ⊎ (r ≡ j) → IsTried reads new first r
      by (inl l) = tried-stays reads old new first first r m (λ a b h. h) (before r l)
      by (inr s) = tried-stays reads new new old first r (λ a b h. h) k (subst (λ (z : ℕ). IsTried reads new old z) (sym s) (one inside))

-- in an order all that is reached stands before
module _ (reads : List (List ℕ)) (order : List ℕ) (ordered : IsOrdered reads order) where
  reached-before : (i x y : ℕ) → slice_get order i ≡ Some x → Reaches reads x y → (j : ℕ) × (j < i) × (slice_get order j ≡ Some y)
  reached-before i x y e (directly _ _ k) = ordered i x y e k
  reached-before i x y e (through _ z _ k r) =
      let p = ordered i x z e k in
      let q = reached-before p.0 z y p.2 r in
      (q.0, omega arith, q.2)

  no-cycle-below : (n i x : ℕ) → i < n → slice_get order i ≡ Some x → Reaches reads x x → ⊥
  no-cycle-below zero i x lt e r = omega arith
  no-cycle-below (suc n) i x lt e r = let p = reached-before i x x e r in no-cycle-below n p.0 x (omega arith) p.2 r

  pub no-cycle : (i x : ℕ) → slice_get order i ≡ Some x → Reaches reads x x → ⊥
  no-cycle i x e r = no-cycle-below (suc i) i x (omega arith) e r
