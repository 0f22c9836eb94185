-- Merges added and taken back.
use Rattle.std.proofs.Common.{Bool, ◌≡◌, ◌≢◌, refl, sym, ap, subst, ◌∙◌, ℕ, zero, suc, ◌+◌, add-one, ◌++◌, ◌<◌, ◌≤◌, ◌==◌, if◌then◌else◌, List, [], ◌∷◌, length, set, replicate, get_or, slice_get, slice_index, ◌⊎◌, inl, inr, Option, Some, None, arith}
use Rattle.std.proofs.lemmas.Option.{slice_get_within}
use Rattle.std.proofs.lemmas.List.{get_or-set_other, get_or-set_same, length-set}
use Rattle.std.proofs.lemmas.Bool.Decides.{eqb_tells}
use Rattle.jh_closure.specs.declared.union_find.merge.Merge.{Merge}
use Rattle.jh_closure.specs.union_find.Merges.{root, class_of}
use Rattle.jh_closure.specs.union_find.Stamps.{IsStamped, IsForest, never, free_count}
use Rattle.jh_closure.proofs.union_find.Rooting.{below-next, root-free}

-- what stands at a place of a list with one more
pub at-push : {X : Type 0} (xs : List X) (x y : X) (i : ℕ) → slice_get (xs ++ x ∷ []) i ≡ Some y → (slice_get xs i ≡ Some y) ⊎ ((i ≡ length xs) × (x ≡ y))
at-push [] x y zero h = let e : x ≡ y = cc in inr (refl, e)
at-push [] x y (suc i) h = let l : suc i < 1 = slice_get_within (x ∷ []) (suc i) y h in absurd (omega (arith, l))
at-push (z ∷ xs) x y zero h = inl h
at-push (z ∷ xs) x y (suc i) h = elim (at-push xs x y i h) [ inl old ↦ inl old | inr new ↦ inr (ap suc new.0, new.1) ]

pub at-old : {X : Type 0} (xs : List X) (x y : X) (i : ℕ) → slice_get xs i ≡ Some y → slice_get (xs ++ x ∷ []) i ≡ Some y
at-old [] x y i h = let l : i < 0 = slice_get_within [] i y h in absurd (omega (arith, l))
at-old (z ∷ xs) x y zero h = h
at-old (z ∷ xs) x y (suc i) h = at-old xs x y i h

pub at-last : {X : Type 0} (xs : List X) (x : X) → slice_get (xs ++ x ∷ []) (length xs) ≡ Some x
at-last [] x = refl
at-last (z ∷ xs) x = at-last xs x

pub longer : {X : Type 0} (xs : List X) (x : X) → length (xs ++ x ∷ []) ≡ length xs + 1
longer [] x = refl
longer (z ∷ xs) x = let r : length (xs ++ x ∷ []) ≡ length xs + 1 = longer xs x in omega (arith, r)

-- how many numbers haven't gone
abbrev one-if : Bool → ℕ
one-if b = if b then 1 else 0

abbrev free-one : ℕ → ℕ
free-one t = if t == never then 1 else 0

not-free : (t : ℕ) → t ≢ never → free-one t ≡ 0
not-free t h = elim (eqb_tells t never) [ inl same ↦ absurd (h same.1) | inr other ↦ ap one-if other.0 ]

is-free : (t : ℕ) → t ≡ never → free-one t ≡ 1
is-free t h = elim (eqb_tells t never) [ inl same ↦ ap one-if same.0 | inr other ↦ absurd (other.1 h) ]

none-inside : (i : ℕ) → i < length {A = ℕ} [] → ⊥
none-inside i h = omega (arith, h)

free-set : (ss : List ℕ) (i t : ℕ) → i < length ss → slice_index ss i ≡ never → t ≢ never → free_count (set ss i t) + 1 ≡ free_count ss
free-set [] i t h e d = absurd (none-inside i h)
free-set (s ∷ ss) zero t h e d = let a = not-free t d in let b = is-free s e in omega (arith, a, b)
free-set (s ∷ ss) (suc i) t h e d = let r : free_count (set ss i t) + 1 ≡ free_count ss = free-set ss i t (omega (arith, h)) e d in omega (arith, r)

free-back : (ss : List ℕ) (i : ℕ) → i < length ss → slice_index ss i ≢ never → free_count (set ss i never) ≡ free_count ss + 1
free-back [] i h d = absurd (none-inside i h)
free-back (s ∷ ss) zero h d = let a = not-free s d in let b = is-free never refl in omega (arith, a, b)
free-back (s ∷ ss) (suc i) h d = let r : free_count (set ss i never) ≡ free_count ss + 1 = free-back ss i (omega (arith, h)) d in omega (arith, r)

module _ (ms : List Merge) (stamps : List ℕ) (m : Merge) (s : IsStamped ms stamps) (room : length ms < never) (hs : m.small < length stamps) (hl : m.large < length stamps)
    (fs : length ms ≤ slice_index stamps m.small) (fl : length ms ≤ slice_index stamps m.large) (differ : m.small ≢ m.large) where
  new-stamp : (k : ℕ) → ((k ≡ m.small) × (slice_index (set stamps m.small (length ms)) k ≡ length ms)) ⊎ ((k ≢ m.small) × (slice_index (set stamps m.small (length ms)) k ≡ slice_index stamps k))
  new-stamp k = elim (eqb_tells k m.small) [
    | inl same ↦ inl (same.1, subst (λ j. slice_index (set stamps m.small (length ms)) j ≡ length ms) (sym same.1) (get_or-set_same stamps m.small (length ms) 0 hs))
    | inr other ↦ inr (other.1, get_or-set_other stamps m.small k (length ms) 0 other.1)
  ]

  still-free : slice_index stamps m.small ≡ never
  still-free = s.free m.small hs fs

  ls : length (set stamps m.small (length ms)) ≡ length stamps
  ls = rw length-set refl

  lm : length (ms ++ m ∷ []) ≡ length ms + 1
  lm = longer ms m

  -- a stamp of the old merges, or of none
  early : (k : ℕ) → k < length stamps → slice_index stamps k < length ms + 1 → slice_index stamps k < length ms
  early k hk h = elim (below-next (slice_index stamps k) (length ms) (subst (λ z. slice_index stamps k < z) (add-one (length ms)) h)) [
    | inl l ↦ l
    | inr e ↦ let f : slice_index stamps k ≡ never = s.free k hk (omega (arith, e)) in absurd (omega (arith, e, f, room))
  ]

  new-large : slice_index (set stamps m.small (length ms)) m.large ≡ never
  new-large = elim (new-stamp m.large) [ inl same ↦ absurd (differ (sym same.0)) | inr other ↦ other.1 ∙ s.free m.large hl fl ]

  a-small : (t : ℕ) (x : Merge) → slice_get (ms ++ m ∷ []) t ≡ Some x → x.small < length (set stamps m.small (length ms))
  a-small t x h = subst (λ z. x.small < z) (sym ls) (elim (at-push ms m x t h) [ inl old ↦ s.small t x old | inr new ↦ subst (λ (y : Merge). y.small < length stamps) new.1 hs ])

  a-large : (t : ℕ) (x : Merge) → slice_get (ms ++ m ∷ []) t ≡ Some x → x.large < length (set stamps m.small (length ms))
  a-large t x h = subst (λ z. x.large < z) (sym ls) (elim (at-push ms m x t h) [ inl old ↦ s.large t x old | inr new ↦ subst (λ (y : Merge). y.large < length stamps) new.1 hl ])

  a-went : (t : ℕ) (x : Merge) → slice_get (ms ++ m ∷ []) t ≡ Some x → slice_index (set stamps m.small (length ms)) x.small ≡ t
  a-went t x h = elim (at-push ms m x t h) [
    | inl old ↦
        let w : slice_index stamps x.small ≡ t = s.went t x old in
        let l : t < length ms = slice_get_within ms t x old in
        elim (new-stamp x.small) [ inl same ↦ let f : slice_index stamps x.small ≡ never = ap (slice_index stamps) same.0 ∙ still-free in absurd (omega (arith, w, l, f, room)) | inr other ↦ other.1 ∙ w ]
    | inr new ↦ subst (λ (y : Merge). slice_index (set stamps m.small (length ms)) y.small ≡ t) new.1 (get_or-set_same stamps m.small (length ms) 0 hs ∙ sym new.0)
  ]

  a-later : (t : ℕ) (x : Merge) → slice_get (ms ++ m ∷ []) t ≡ Some x → t < slice_index (set stamps m.small (length ms)) x.large
  a-later t x h = elim (at-push ms m x t h) [
    | inl old ↦
        let w : t < slice_index stamps x.large = s.later t x old in
        let l : t < length ms = slice_get_within ms t x old in
        elim (new-stamp x.large) [ inl same ↦ let e = same.1 in omega (arith, e, l) | inr other ↦ let e = other.1 in omega (arith, e, w) ]
    | inr new ↦ let e = new.0 in subst (λ (y : Merge). t < slice_index (set stamps m.small (length ms)) y.large) new.1 (let f = new-large in omega (arith, e, f, room))
  ]

  a-leads : (k : ℕ) → k < length (set stamps m.small (length ms)) → slice_index (set stamps m.small (length ms)) k < length (ms ++ m ∷ []) →
      (x : Merge) × (slice_get (ms ++ m ∷ []) (slice_index (set stamps m.small (length ms)) k) ≡ Some x) × (x.small ≡ k)
  a-leads k h l =
      let hk : k < length stamps = subst (λ z. k < z) ls h in
      elim (new-stamp k) [
        | inl same ↦ (m, subst (λ z. slice_get (ms ++ m ∷ []) z ≡ Some m) (sym same.1) (at-last ms m), sym same.0)
        | inr other ↦
            let e : slice_index stamps k < length ms = early k hk (subst (λ z. z < length ms + 1) other.1 (subst (λ z. slice_index (set stamps m.small (length ms)) k < z) lm l)) in
            let r = s.leads k hk e in
            (r.0, subst (λ z. slice_get (ms ++ m ∷ []) z ≡ Some r.0) (sym other.1) (at-old ms m r.0 (slice_index stamps k) r.1), r.2)
      ]

  a-free : (k : ℕ) → k < length (set stamps m.small (length ms)) → length (ms ++ m ∷ []) ≤ slice_index (set stamps m.small (length ms)) k → slice_index (set stamps m.small (length ms)) k ≡ never
  a-free k h l =
      let hk : k < length stamps = subst (λ z. k < z) ls h in
      elim (new-stamp k) [
        | inl same ↦ let e = same.1 in absurd (omega (arith, l, lm, e))
        | inr other ↦ let e = other.1 in let g : length ms ≤ slice_index stamps k = omega (arith, l, lm, e) in e ∙ s.free k hk g
      ]

  pub attached : IsStamped (ms ++ m ∷ []) (set stamps m.small (length ms))
  attached = record { small = a-small; large = a-large; went = a-went; later = a-later; leads = a-leads; free = a-free }

module _ (ms : List Merge) (stamps : List ℕ) (m : Merge) (s : IsStamped (ms ++ m ∷ []) stamps) (room : length ms < never) where
  hs : m.small < length stamps
  hs = s.small (length ms) m (at-last ms m)

  back-stamp : (k : ℕ) → ((k ≡ m.small) × (slice_index (set stamps m.small never) k ≡ never)) ⊎ ((k ≢ m.small) × (slice_index (set stamps m.small never) k ≡ slice_index stamps k))
  back-stamp k = elim (eqb_tells k m.small) [
    | inl same ↦ inl (same.1, subst (λ j. slice_index (set stamps m.small never) j ≡ never) (sym same.1) (get_or-set_same stamps m.small never 0 hs))
    | inr other ↦ inr (other.1, get_or-set_other stamps m.small k never 0 other.1)
  ]

  bs : length (set stamps m.small never) ≡ length stamps
  bs = rw length-set refl

  bm : length (ms ++ m ∷ []) ≡ length ms + 1
  bm = longer ms m

  pub last-stamp : slice_index stamps m.small ≡ length ms
  last-stamp = s.went (length ms) m (at-last ms m)

  d-went : (t : ℕ) (x : Merge) → slice_get ms t ≡ Some x → slice_index (set stamps m.small never) x.small ≡ t
  d-went t x h =
      let w : slice_index stamps x.small ≡ t = s.went t x (at-old ms m x t h) in
      let l : t < length ms = slice_get_within ms t x h in
      elim (back-stamp x.small) [ inl same ↦ let f : slice_index stamps x.small ≡ length ms = ap (slice_index stamps) same.0 ∙ last-stamp in absurd (omega (arith, w, l, f)) | inr other ↦ other.1 ∙ w ]

  d-later : (t : ℕ) (x : Merge) → slice_get ms t ≡ Some x → t < slice_index (set stamps m.small never) x.large
  d-later t x h =
      let w : t < slice_index stamps x.large = s.later t x (at-old ms m x t h) in
      let l : t < length ms = slice_get_within ms t x h in
      elim (back-stamp x.large) [ inl same ↦ let e = same.1 in omega (arith, e, l, room) | inr other ↦ let e = other.1 in omega (arith, e, w) ]

  last-is : (x : Merge) → slice_get (ms ++ m ∷ []) (length ms) ≡ Some x → x ≡ m
  last-is x h = let g = at-last ms m in cc

  d-leads : (k : ℕ) → k < length (set stamps m.small never) → slice_index (set stamps m.small never) k < length ms →
      (x : Merge) × (slice_get ms (slice_index (set stamps m.small never) k) ≡ Some x) × (x.small ≡ k)
  d-leads k h l =
      let hk : k < length stamps = subst (λ z. k < z) bs h in
      elim (back-stamp k) [
        | inl same ↦ let e = same.1 in absurd (omega (arith, e, l, room))
        | inr other ↦
            let o = other.1 in
            let r = s.leads k hk (omega (arith, l, bm, o)) in
            elim (at-push ms m r.0 (slice_index stamps k) r.1) [
              | inl old ↦ (r.0, subst (λ z. slice_get ms z ≡ Some r.0) (sym o) old, r.2)
              | inr new ↦ let e = new.0 in absurd (omega (arith, e, l, o))
            ]
      ]

  d-free : (k : ℕ) → k < length (set stamps m.small never) → length ms ≤ slice_index (set stamps m.small never) k → slice_index (set stamps m.small never) k ≡ never
  d-free k h l =
      let hk : k < length stamps = subst (λ z. k < z) bs h in
      elim (back-stamp k) [
        | inl same ↦ same.1
        | inr other ↦ elim (eqb_tells (slice_index stamps k) (length ms)) [
          | inl now ↦
              let e = now.1 in
              let r = s.leads k hk (omega (arith, e, bm)) in
              absurd (other.0 (sym r.2 ∙ ap (λ (x : Merge). x.small) (last-is r.0 (subst (λ z. slice_get (ms ++ m ∷ []) z ≡ Some r.0) e r.1))))
          | inr differs ↦ let d = differs.1 in let o = other.1 in o ∙ s.free k hk (omega (arith, l, d, o, bm))
        ]
      ]

  pub detached : IsStamped ms (set stamps m.small never)
  detached = record {
    small = λ t x h. subst (λ z. x.small < z) (sym bs) (s.small t x (at-old ms m x t h));
    large = λ t x h. subst (λ z. x.large < z) (sym bs) (s.large t x (at-old ms m x t h));
    went = d-went;
    later = d-later;
    leads = d-leads;
    free = d-free;
  }

-- one more merge of two representatives
pub attached-forest : (ms : List Merge) (stamps weights more : List ℕ) (m : Merge) → IsForest ms stamps weights → m.small < length stamps → m.large < length stamps →
    class_of ms m.small ≡ m.small → class_of ms m.large ≡ m.large → m.small ≢ m.large → length more ≡ length weights → IsForest (ms ++ m ∷ []) (set stamps m.small (length ms)) more
attached-forest ms stamps weights more m f hs hl rs rl differ same =
    let fs = root-free ms stamps f.stamped m.small hs rs in
    let fl = root-free ms stamps f.stamped m.large hl rl in
    let free : slice_index stamps m.small ≡ never = f.stamped.free m.small hs fs in
    let some : free_count (set stamps m.small 0) + 1 ≡ free_count stamps = free-set stamps m.small 0 hs free (λ e. absurd (omega (arith, e))) in
    let count = f.count in
    let bounded = f.bounded in
    let room : length ms < never = omega (arith, some, count, bounded) in
    let less : free_count (set stamps m.small (length ms)) + 1 ≡ free_count stamps = free-set stamps m.small (length ms) hs free (λ e. absurd (omega (arith, e, room))) in
    let long : length (set stamps m.small (length ms)) ≡ length stamps = rw length-set refl in
    let one : length (ms ++ m ∷ []) ≡ length ms + 1 = longer ms m in
    record {
      stamped = attached ms stamps m f.stamped room hs hl fs fl differ;
      weighed = same ∙ (f.weighed ∙ sym long);
      count = omega (arith, one, less, count, long);
      bounded = omega (arith, long, bounded);
    }

-- the last merge taken back
pub detached-forest : (ms : List Merge) (stamps weights more : List ℕ) (m : Merge) → IsForest (ms ++ m ∷ []) stamps weights → length more ≡ length weights → IsForest ms (set stamps m.small never) more
detached-forest ms stamps weights more m f same =
    let count = f.count in
    let bounded = f.bounded in
    let one : length (ms ++ m ∷ []) ≡ length ms + 1 = longer ms m in
    let room : length ms < never = omega (arith, one, count, bounded) in
    let hs : m.small < length stamps = f.stamped.small (length ms) m (at-last ms m) in
    let last : slice_index stamps m.small ≡ length ms = f.stamped.went (length ms) m (at-last ms m) in
    let more : free_count (set stamps m.small never) ≡ free_count stamps + 1 = free-back stamps m.small hs (λ e. absurd (omega (arith, e, last, room))) in
    let long : length (set stamps m.small never) ≡ length stamps = rw length-set refl in
    record {
      stamped = detached ms stamps m f.stamped room;
      weighed = same ∙ (f.weighed ∙ sym long);
      count = omega (arith, one, more, count, long);
      bounded = omega (arith, long, bounded);
    }

-- there are no more merges than numbers
pub few-merges : (ms : List Merge) (stamps weights : List ℕ) → IsForest ms stamps weights → length ms ≤ length stamps
few-merges ms stamps weights f = let count = f.count in omega (arith, count)

fresh-long : (n : ℕ) → length (replicate n never) ≡ n
fresh-long zero = refl
fresh-long (suc n) = ap suc (fresh-long n)

fresh-at : (n k : ℕ) → k < length (replicate n never) → slice_index (replicate n never) k ≡ never
fresh-at zero k h = absurd (none-inside k h)
fresh-at (suc n) zero h = refl
fresh-at (suc n) (suc k) h = fresh-at n k (omega (arith, h))

fresh-count : (n : ℕ) → free_count (replicate n never) ≡ length (replicate n never)
fresh-count zero = refl
fresh-count (suc n) = let r : free_count (replicate n never) ≡ length (replicate n never) = fresh-count n in let b = is-free never refl in omega (arith, r, b)

no-merge : (t : ℕ) (m : Merge) → slice_get {X = Merge} [] t ≡ Some m → ⊥
no-merge t m h = let l : t < 0 = slice_get_within [] t m h in omega (arith, l)

-- no merge at all
pub fresh-forest : (n : ℕ) (weights : List ℕ) → length weights ≡ n → n ≤ never → IsForest [] (replicate n never) weights
fresh-forest n weights same bounded = record {
  stamped = record {
    small = λ t m h. absurd (no-merge t m h);
    large = λ t m h. absurd (no-merge t m h);
    went = λ t m h. absurd (no-merge t m h);
    later = λ t m h. absurd (no-merge t m h);
    leads = λ k h l. absurd (omega (arith, l));
    free = λ k h l. fresh-at n k h;
  };
  weighed = same ∙ sym (fresh-long n);
  count = let e = fresh-count n in omega (arith, e);
  bounded = let e = fresh-long n in omega (arith, e, bounded);
}
