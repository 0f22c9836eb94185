-- Representatives after the first merges.
use Rattle.std.proofs.Common.{◌≡◌, ◌≢◌, refl, sym, ap, subst, ◌∙◌, ℕ, zero, suc, ◌+◌, ◌++◌, add-one, ◌<◌, ◌≤◌, if◌then◌else◌, ◌==◌, List, [], ◌∷◌, length, slice_get, slice_index, get_or, ◌⊎◌, inl, inr, Option, Some, None, true, false, arith}
use Rattle.std.proofs.lemmas.Option.{slice_get_within, slice_get-get_or}
use Rattle.std.proofs.lemmas.Bool.Decides.{eqb_tells}
use Rattle.jh_closure.specs.declared.union_find.climbing.Turn.{Turn}
use Rattle.jh_closure.specs.declared.union_find.merge.Merge.{Merge}
use Rattle.jh_closure.specs.declared.union_find.merge.Why.TheVariants as w
use Rattle.jh_closure.specs.union_find.Merges.{merged, stepped, root, class_of}
use Rattle.jh_closure.specs.union_find.Stamps.{IsStamped, IsTurn}

-- a number is of the class that goes, or keeps its representative
pub merged-cases : (f : ℕ → ℕ) (small large k : ℕ) → ((f k ≡ small) × (merged f small large k ≡ large)) ⊎ ((f k ≢ small) × (merged f small large k ≡ f k))
merged-cases f small large k = elim (eqb_tells (f k) small) [ inl holds ↦ inl (holds.1, ap (λ b. if b then large else f k) holds.0) | inr differs ↦ inr (differs.1, ap (λ b. if b then large else f k) differs.0) ]

pub merged-gone : (f : ℕ → ℕ) (small large k : ℕ) → f k ≡ small → merged f small large k ≡ large
merged-gone f small large k e = elim (merged-cases f small large k) [ inl holds ↦ holds.1 | inr differs ↦ absurd (differs.0 e) ]

pub merged-stays : (f : ℕ → ℕ) (small large k : ℕ) → f k ≢ small → merged f small large k ≡ f k
merged-stays f small large k e = elim (merged-cases f small large k) [ inl holds ↦ absurd (e holds.0) | inr differs ↦ differs.1 ]

-- numbers of one class stay in one class
pub merged-same : (f : ℕ → ℕ) (small large j k : ℕ) → f j ≡ f k → merged f small large j ≡ merged f small large k
merged-same f small large j k e = λ i. if e i == small then large else e i

-- what merge t makes of representatives
pub root-step : (ms : List Merge) (t : ℕ) (m : Merge) (k : ℕ) → slice_get ms t ≡ Some m → root ms (suc t) k ≡ merged (root ms t) m.small m.large k
root-step ms t m k e = ap (λ o. stepped o (root ms t) k) e

stepped-same : (o : Option Merge) (f : ℕ → ℕ) (j k : ℕ) → f j ≡ f k → stepped o f j ≡ stepped o f k
stepped-same (Some m) f j k e = merged-same f m.small m.large j k e
stepped-same None f j k e = e

-- a merge behind others leaves what they made
pub get-front : {X : Type 0} (xs : List X) (y : X) (i : ℕ) → i < length xs → slice_get (xs ++ y ∷ []) i ≡ slice_get xs i
get-front [] y i h = absurd (omega (arith, h))
get-front (x ∷ xs) y zero h = refl
get-front (x ∷ xs) y (suc i) h = get-front xs y i (omega (arith, h))

pub get-last : {X : Type 0} (xs : List X) (y : X) → slice_get (xs ++ y ∷ []) (length xs) ≡ Some y
get-last [] y = refl
get-last (x ∷ xs) y = get-last xs y

pub one-longer : {X : Type 0} (xs : List X) (y : X) → length (xs ++ y ∷ []) ≡ suc (length xs)
one-longer [] y = refl
one-longer (x ∷ xs) y = ap suc (one-longer xs y)

pub root-front : (ms : List Merge) (m : Merge) (t k : ℕ) → t ≤ length ms → root (ms ++ m ∷ []) t k ≡ root ms t k
root-front ms m zero k h = refl
root-front ms m (suc t) k h = λ i. stepped (get-front ms m t (omega (arith, h)) i) (λ j. root-front ms m t j (omega (arith, h)) i) k

-- what one more merge makes of representatives
pub class-push : (ms : List Merge) (m : Merge) (k : ℕ) → class_of (ms ++ m ∷ []) k ≡ merged (class_of ms) m.small m.large k
class-push ms m k =
    ap (λ t. root (ms ++ m ∷ []) t k) (one-longer ms m)
    ∙ (root-step (ms ++ m ∷ []) (length ms) m k (get-last ms m)
    ∙ (λ i. merged (λ j. root-front ms m (length ms) j (omega arith) i) m.small m.large k))

-- a number below the next one is below this one, or it
pub below-next : (a t : ℕ) → a < suc t → (a < t) ⊎ (a ≡ t)
below-next a t h = elim (eqb_tells a t) [ inl same ↦ inr same.1 | inr other ↦ inl (let d = other.1 in omega (arith, h, d)) ]

pub one-merge : (o : Option Merge) (x y : Merge) → o ≡ Some x → o ≡ Some y → x ≡ y
one-merge o x y f g = cc

module _ (ms : List Merge) (stamps : List ℕ) (s : IsStamped ms stamps) where
  stepped-other : (o : Option Merge) (f : ℕ → ℕ) (k : ℕ) → ((m : Merge) → o ≡ Some m → k ≢ m.small) → f k ≡ k → stepped o f k ≡ k
  stepped-other (Some m) f k differs e = merged-stays f m.small m.large k (λ same. differs m refl (sym e ∙ same)) ∙ e
  stepped-other None f k differs e = e

  -- what hasn't gone yet stands for itself
  pub root-still : (t k : ℕ) → t ≤ slice_index stamps k → root ms t k ≡ k
  root-still zero k h = refl
  root-still (suc t) k h = stepped-other (slice_get ms t) (root ms t) k (λ m e same. let w : slice_index stamps m.small ≡ t = s.went t m e in let w2 : slice_index stamps k ≡ t = ap (slice_index stamps) same ∙ w in omega (arith, h, w2)) (root-still t k (omega (arith, h)))

  -- what has gone has the representative of where it went
  pub root-up : (t u : ℕ) (m : Merge) → slice_get ms u ≡ Some m → u < t → root ms t m.small ≡ root ms t m.large
  root-up zero u m e h = absurd (omega (arith, h))
  root-up (suc t) u m e h = step (λ earlier. root-up t u m e earlier) (below-next u t h)
    where
      step : ((u < t) → root ms t m.small ≡ root ms t m.large) → (u < t) ⊎ (u ≡ t) → root ms (suc t) m.small ≡ root ms (suc t) m.large
      step before (inl earlier) = stepped-same (slice_get ms t) (root ms t) m.small m.large (before earlier)
      step before (inr now) =
          let went : slice_index stamps m.small ≡ u = s.went u m e in
          let later : u < slice_index stamps m.large = s.later u m e in
          root-step ms t m m.small (ap (slice_get ms) (sym now) ∙ e)
          ∙ (merged-gone (root ms t) m.small m.large m.small (root-still t m.small (omega (arith, now, went)))
          ∙ sym (root-still (suc t) m.large (omega (arith, now, later))))

  inside-step : (o : Option Merge) (f : ℕ → ℕ) (k : ℕ) → ((m : Merge) → o ≡ Some m → m.large < length stamps) → f k < length stamps → stepped o f k < length stamps
  inside-step (Some m) f k large h = elim (merged-cases f m.small m.large k) [ inl gone ↦ subst (λ z. z < length stamps) (sym gone.1) (large m refl) | inr kept ↦ subst (λ z. z < length stamps) (sym kept.1) h ]
  inside-step None f k large h = h

  pub root-inside : (t k : ℕ) → k < length stamps → root ms t k < length stamps
  root-inside zero k h = h
  root-inside (suc t) k h = inside-step (slice_get ms t) (root ms t) k (λ m e. s.large t m e) (root-inside t k h)

  -- a representative after t merges hasn't gone by one of them
  pub root-late : (t k : ℕ) → k < length stamps → t ≤ length ms → t ≤ slice_index stamps (root ms t k)
  root-late zero k h l = omega arith
  root-late (suc t) k h l =
      let here : slice_get ms t ≡ Some (get_or ms t none) = slice_get-get_or ms t none (omega (arith, l)) in
      let m = get_or ms t none in
      let earlier : t ≤ slice_index stamps (root ms t k) = root-late t k h (omega (arith, l)) in
      let step : root ms (suc t) k ≡ merged (root ms t) m.small m.large k = root-step ms t m k here in
      elim (merged-cases (root ms t) m.small m.large k) [
        | inl gone ↦ let later : t < slice_index stamps m.large = s.later t m here in subst (λ z. suc t ≤ slice_index stamps z) (sym (step ∙ gone.1)) (omega (arith, later))
        | inr kept ↦ subst (λ z. suc t ≤ slice_index stamps z) (sym (step ∙ kept.1)) (elim (eqb_tells (slice_index stamps (root ms t k)) t) [
          | inl now ↦
              let e = now.1 in
              let r = s.leads (root ms t k) (root-inside t k h) (omega (arith, e, l)) in
              absurd (kept.0 (sym r.2 ∙ ap (λ (x : Merge). x.small) (one-merge (slice_get ms t) r.0 m (ap (slice_get ms) (sym e) ∙ r.1) here)))
          | inr other ↦ let d = other.1 in omega (arith, earlier, d)
        ])
      ]
    where
      none : Merge
      none = record { left = 0; right = 0; small = 0; large = 0; why = w.Alike }

  -- what represents itself hasn't gone
  pub root-free : (k : ℕ) → k < length stamps → root ms (length ms) k ≡ k → length ms ≤ slice_index stamps k
  root-free k h e = subst (λ z. length ms ≤ slice_index stamps z) e (root-late (length ms) k h (omega arith))
