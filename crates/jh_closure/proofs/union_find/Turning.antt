-- Where two numbers come together.
use Rattle.std.proofs.Common.{◌≡◌, ◌≢◌, refl, sym, ap, subst, ◌∙◌, ℕ, suc, ◌+◌, ◌<◌, ◌≤◌, List, length, slice_get, slice_index, ◌⊎◌, inl, inr, Option, Some, true, false, arith}
use Rattle.std.proofs.lemmas.Bool.{true≢false}
use Rattle.std.proofs.lemmas.Bool.Decides.{eqb_tells, leb_tells}
use Rattle.jh_closure.specs.declared.union_find.climbing.Turn.{Turn}
use Rattle.jh_closure.specs.declared.union_find.merge.Merge.{Merge}
use Rattle.jh_closure.specs.union_find.Merges.{root}
use Rattle.jh_closure.specs.union_find.Stamps.{IsStamped, IsTurn}
use Rattle.jh_closure.proofs.union_find.Rooting.{root-still, root-up, one-merge}

-- a and b are one after some merges, and a goes before b
module _ (ms : List Merge) (stamps : List ℕ) (s : IsStamped ms stamps) (before a b : ℕ) (inside : before ≤ length ms) (ha : a < length stamps) (hb : b < length stamps)
    (apart : a ≢ b) (same : root ms before a ≡ root ms before b) (first : slice_index stamps a ≤ slice_index stamps b) where
  pub goes-early : slice_index stamps a < before
  goes-early = elim (leb_tells before (slice_index stamps a)) [
    | inl late ↦ let l = late.1 in absurd (apart (sym (root-still ms stamps s before a l) ∙ (same ∙ root-still ms stamps s before b (omega (arith, l, first)))))
    | inr early ↦ early.1
  ]

  pub goes-at : slice_index stamps a < length ms
  goes-at = let e = goes-early in omega (arith, e, inside)

  pub goes-small : (m : Merge) → slice_get ms (slice_index stamps a) ≡ Some m → m.small ≡ a
  goes-small m e = let r = s.leads a ha goes-at in ap (λ (x : Merge). x.small) (one-merge (slice_get ms (slice_index stamps a)) m r.0 e r.1) ∙ r.2

  pub goes-first : slice_index stamps a < slice_index stamps b
  goes-first = elim (eqb_tells (slice_index stamps a) (slice_index stamps b)) [
    | inl one ↦
        let r = s.leads a ha goes-at in
        let at : slice_index stamps b < length ms = let e = one.1 in let g = goes-at in omega (arith, e, g) in
        let q = s.leads b hb at in
        absurd (apart (sym r.2 ∙ (ap (λ (x : Merge). x.small) (one-merge (slice_get ms (slice_index stamps a)) r.0 q.0 r.1 (ap (slice_get ms) one.1 ∙ q.1)) ∙ q.2)))
    | inr other ↦ let d = other.1 in omega (arith, first, d)
  ]

  goes-root : root ms (slice_index stamps a) a ≡ a
  goes-root = root-still ms stamps s (slice_index stamps a) a (omega arith)

  stays-root : root ms (slice_index stamps a) b ≡ b
  stays-root = root-still ms stamps s (slice_index stamps a) b first

  module _ (m : Merge) (here : slice_get ms (slice_index stamps a) ≡ Some m) where
    -- it goes into b itself
    pub meets-here : m.large ≡ b → (root ms (slice_index stamps a) a ≡ m.small) × (root ms (slice_index stamps a) b ≡ m.large)
    meets-here e = (goes-root ∙ sym (goes-small m here), stays-root ∙ sym e)

    pub above-late : slice_index stamps a < slice_index stamps m.large
    above-late = s.later (slice_index stamps a) m here

    pub above-inside : m.large < length stamps
    above-inside = s.large (slice_index stamps a) m here

    pub above-same : root ms before m.large ≡ root ms before b
    above-same = sym (root-up ms stamps s before (slice_index stamps a) m here goes-early) ∙ (ap (root ms before) (goes-small m here) ∙ same)

    -- at a later merge it has the representative of where it went
    pub above-root : (t : ℕ) → slice_index stamps a < t → root ms t a ≡ root ms t m.large
    above-root t l = ap (root ms t) (sym (goes-small m here)) ∙ root-up ms stamps s t (slice_index stamps a) m here l

-- the same by the stamps themselves, u of a and w of b, and with the merge m at u
module _ (ms : List Merge) (stamps : List ℕ) (s : IsStamped ms stamps) (before a b : ℕ) (inside : before ≤ length ms) (ha : a < length stamps) (hb : b < length stamps)
    (apart : a ≢ b) (same : root ms before a ≡ root ms before b) (u w : ℕ) (eu : u ≡ slice_index stamps a) (ew : w ≡ slice_index stamps b) (first : u ≤ w) where
  least : slice_index stamps a ≤ slice_index stamps b
  least = omega (arith, eu, ew, first)

  pub early : u < before
  early = let e = goes-early ms stamps s before a b inside ha hb apart same least in omega (arith, e, eu)

  pub placed : u < length ms
  placed = let e = early in omega (arith, e, inside)

  module _ (m : Merge) (here : slice_get ms u ≡ Some m) where
    at-a : slice_get ms (slice_index stamps a) ≡ Some m
    at-a = ap (slice_get ms) (sym eu) ∙ here

    meets : m.large ≡ b → (root ms u a ≡ m.small) × (root ms u b ≡ m.large)
    meets e = subst (λ t. (root ms t a ≡ m.small) × (root ms t b ≡ m.large)) (sym eu) (meets-here ms stamps s before a b inside ha hb apart same least m at-a e)

    pub left-meets : m.large ≡ b → IsTurn ms a b (record { time = u; left_went = true })
    left-meets e = record { merge = m; here = here; left_goes = λ t. meets e; right_goes = λ t. absurd (true≢false t) }

    pub right-meets : m.large ≡ b → IsTurn ms b a (record { time = u; left_went = false })
    right-meets e = record { merge = m; here = here; left_goes = λ t. absurd (true≢false (sym t)); right_goes = λ t. meets e }

    pub above : m.large < length stamps
    above = above-inside ms stamps s before a b inside ha hb apart same least m at-a

    pub above-one : root ms before m.large ≡ root ms before b
    above-one = above-same ms stamps s before a b inside ha hb apart same least m at-a

    pub above-later : u < slice_index stamps m.large
    above-later = let e = above-late ms stamps s before a b inside ha hb apart same least m at-a in omega (arith, e, eu)

    other-later : u < slice_index stamps b
    other-later = let e = goes-first ms stamps s before a b inside ha hb apart same least in omega (arith, e, eu)

    climbs : (t : ℕ) → u < t → root ms t a ≡ root ms t m.large
    climbs t l = above-root ms stamps s before a b inside ha hb apart same least m at-a t (omega (arith, l, eu))

    pub left-turn : (j : Turn) → ((t : ℕ) → t ≤ slice_index stamps m.large → t ≤ slice_index stamps b → t ≤ j.time) → IsTurn ms m.large b j → IsTurn ms a b j
    left-turn j late h =
        let x = above-later in
        let y = other-later in
        let l : u + 1 ≤ j.time = late (u + 1) (omega (arith, x)) (omega (arith, y)) in
        let e = climbs j.time (omega (arith, l)) in
        record { merge = h.merge; here = h.here; left_goes = λ t. let r = h.left_goes t in (e ∙ r.0, r.1); right_goes = λ t. let r = h.right_goes t in (r.0, e ∙ r.1) }

    pub right-turn : (j : Turn) → ((t : ℕ) → t ≤ slice_index stamps b → t ≤ slice_index stamps m.large → t ≤ j.time) → IsTurn ms b m.large j → IsTurn ms b a j
    right-turn j late h =
        let x = above-later in
        let y = other-later in
        let l : u + 1 ≤ j.time = late (u + 1) (omega (arith, y)) (omega (arith, x)) in
        let e = climbs j.time (omega (arith, l)) in
        record { merge = h.merge; here = h.here; left_goes = λ t. let r = h.left_goes t in (r.0, e ∙ r.1); right_goes = λ t. let r = h.right_goes t in (e ∙ r.0, r.1) }
