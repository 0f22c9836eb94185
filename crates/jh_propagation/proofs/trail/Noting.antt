-- The places of literals in an array by their atoms.
use Rattle.std.proofs.Common.{◌≡◌, refl, sym, ap, ◌∙◌, subst, ℕ, zero, suc, ◌<◌, ◌++◌, arith, Bool, List, [], ◌∷◌, ◌⊎◌, inl, inr, Option, Some, length, slice_get, slice_set, take, None, ◌↔◌}
use Rattle.std.proofs.lemmas.Option.{slice_get_within}
use Rattle.jh_closure.specs.congruence_closure.Nodes.{Has}
use Rattle.jh_closure.proofs.congruence_closure.Having.{has-at, place-of}
use Rattle.jh_propagation.specs.declared.trail.decided.Decided.{Decided}
use Rattle.jh_propagation.specs.trail.Listing.{decided, IsUndecided, StandsAt, DecideOnce, AreNoted}
use Rattle.jh_propagation.proofs.trail.Formed.{some-is}

pub noted-once : (ds : List Decided) (places : List ℕ) → AreNoted ds places → DecideOnce ds
noted-once ds places noted p q d e at_p at_q same = some-is p q (sym (noted p d at_p) ∙ (ap (slice_get places) same ∙ noted q e at_q))

-- what is at a place after one more was put to the end
before-or-last : (ds : List Decided) (d e : Decided) (p : ℕ) → slice_get (ds ++ d ∷ []) p ≡ Some e → (slice_get ds p ≡ Some e) ⊎ ((p ≡ length ds) × (d ≡ e))
before-or-last [] d e zero h = inr (refl, some-is d e h)
before-or-last [] d e (suc p) h = absurd (cc)
before-or-last (c ∷ ds) d e zero h = inl h
before-or-last (c ∷ ds) d e (suc p) h = elim (before-or-last ds d e p h) [ inl a ↦ inl a | inr b ↦ inr (ap suc b.0, b.1) ]

set-there : (xs : List ℕ) (k v : ℕ) → k < length xs → slice_get (slice_set xs k v) k ≡ Some v
set-there [] k v lt = absurd (omega (arith, lt))
set-there (x ∷ xs) zero v lt = refl
set-there (x ∷ xs) (suc k) v lt = set-there xs k v (omega (arith, lt))

set-elsewhere : (xs : List ℕ) (k v c : ℕ) → (c ≡ k → ⊥) → slice_get (slice_set xs k v) c ≡ slice_get xs c
set-elsewhere [] zero v c h = refl
set-elsewhere [] (suc k) v c h = refl
set-elsewhere (x ∷ xs) zero v zero h = absurd (h refl)
set-elsewhere (x ∷ xs) zero v (suc c) h = refl
set-elsewhere (x ∷ xs) (suc k) v zero h = refl
set-elsewhere (x ∷ xs) (suc k) v (suc c) h = set-elsewhere xs k v c (λ e. h (ap suc e))

-- an array that is longer has the same places
pub noted-longer : (ds : List Decided) (places longer : List ℕ) → ((k p : ℕ) → slice_get places k ≡ Some p → slice_get longer k ≡ Some p) → AreNoted ds places → AreNoted ds longer
noted-longer ds places longer kept noted p d at = kept d.atom p (noted p d at)

-- and one more is noted
pub noted-more : (ds : List Decided) (places : List ℕ) (d : Decided) → d.atom < length places → IsUndecided ds d.atom → AreNoted ds places → AreNoted (ds ++ d ∷ []) (slice_set places d.atom (length ds))
noted-more ds places d inside new noted p e at = elim (before-or-last ds d e p at) [
  | inl before ↦ set-elsewhere places d.atom (length ds) e.atom (λ same. new e.holds (subst (λ z. Has ds z) (on-atom same) (has-at ds p e before))) ∙ noted p e before
  | inr last ↦ ap (λ (z : Decided). slice_get (slice_set places d.atom (length ds)) z.atom) (sym last.1) ∙ (set-there places d.atom (length ds) inside ∙ ap Some (sym last.0))
]
  where
    on-atom : e.atom ≡ d.atom → e ≡ decided d.atom e.holds
    on-atom same = λ i. record { atom = same i; holds = e.holds }

-- a literal at the end of a longer list
pub noted-none : (places : List ℕ) (ds : List Decided) → ds ≡ [] → AreNoted ds places
noted-none places ds none p d at = absurd (let inside : p < length ds = slice_get_within ds p d at in let short : length ds ≡ 0 = ap length none in omega (arith, inside, short))

-- the first literals stand where they stood
taken-at : (xs : List Decided) (n p : ℕ) (x : Decided) → slice_get (take n xs) p ≡ Some x → (p < n) × (slice_get xs p ≡ Some x)
taken-at [] zero p x e = absurd (cc)
taken-at [] (suc n) p x e = absurd (cc)
taken-at (y ∷ xs) zero p x e = absurd (cc)
taken-at (y ∷ xs) (suc n) zero x e = (omega arith, e)
taken-at (y ∷ xs) (suc n) (suc p) x e = let rest : (p < n) × (slice_get xs p ≡ Some x) = taken-at xs n p x e in (let less : p < n = rest.0 in omega (arith, less), rest.1)

pub noted-first : (ds first : List Decided) (places : List ℕ) (n : ℕ) → first ≡ take n ds → AreNoted ds places → AreNoted first places
noted-first ds first places n e noted p d at = noted p d (taken-at ds n p d (ap (λ (xs : List Decided). slice_get xs p) (sym e) ∙ at)).1

-- where the place of the array is tested
pub tested : (ds : List Decided) (p k : ℕ) (d : Decided) → slice_get ds p ≡ Some d → d.atom ≡ k → StandsAt ds k p
tested ds p k d at same = (d.holds, at ∙ ap Some (λ i. record { atom = same i; holds = d.holds }))

pub stands-has : (ds : List Decided) (k p : ℕ) (b : Bool) → slice_get ds p ≡ Some (decided k b) → Has ds (decided k b)
stands-has ds k p b at = has-at ds p (decided k b) at

-- what the array says of an atom
module _ (ds : List Decided) (places : List ℕ) (noted : AreNoted ds places) (k : ℕ) where
  abbrev pub Answers : Option ℕ → Type 0
  Answers r = (p : ℕ) → (r ≡ Some p) ↔ StandsAt ds k p

  answers-none : ((p : ℕ) → StandsAt ds k p → ⊥) → Answers None
  answers-none never p = (λ e. absurd (cc), λ s. absurd (never p s))

  pub no-number : slice_get places k ≡ None → Answers None
  no-number e = answers-none (λ p s. let there : slice_get places k ≡ Some p = noted p (decided k s.0) s.1 in cc)

  pub no-literal : (q : ℕ) → slice_get places k ≡ Some q → slice_get ds q ≡ None → Answers None
  no-literal q at e = answers-none (λ p s. let there : slice_get places k ≡ Some p = noted p (decided k s.0) s.1 in let same : q ≡ p = some-is q p (sym at ∙ there) in let gone : slice_get ds p ≡ None = ap (slice_get ds) (sym same) ∙ e in let here : slice_get ds p ≡ Some (decided k s.0) = s.1 in cc)

  at-place : (q p : ℕ) (d : Decided) → slice_get places k ≡ Some q → slice_get ds q ≡ Some d → (s : StandsAt ds k p) → d ≡ decided k s.0
  at-place q p d at e s = some-is d (decided k s.0) (sym e ∙ (ap (slice_get ds) (some-is q p (sym at ∙ noted p (decided k s.0) s.1)) ∙ s.1))

  pub other-literal : (q : ℕ) (d : Decided) → slice_get places k ≡ Some q → slice_get ds q ≡ Some d → (d.atom ≡ k → ⊥) → Answers None
  other-literal q d at e other = answers-none (λ p s. other (ap (λ (z : Decided). z.atom) (at-place q p d at e s)))

  pub its-literal : (q : ℕ) (d : Decided) → slice_get places k ≡ Some q → slice_get ds q ≡ Some d → d.atom ≡ k → Answers (Some q)
  its-literal q d at e same p = (
    λ is. tested ds p k d (ap (slice_get ds) (sym (some-is q p is)) ∙ e) same,
    λ s. sym at ∙ noted p (decided k s.0) s.1,
  )

-- what is said of an atom, by the place of its literal
module _ (ds : List Decided) (once : DecideOnce ds) (k : ℕ) where
  abbrev pub Says : Option Bool → Type 0
  Says r = (b : Bool) → (r ≡ Some b) ↔ Has ds (decided k b)

  pub says-none : ((p : ℕ) → (None ≡ Some p) ↔ StandsAt ds k p) → Says None
  says-none answers b = (λ e. absurd (cc), λ h. let at = place-of ds (decided k b) h in let gone : ◌≡◌ {A = Option ℕ} None (Some at.0) = (answers at.0).1 (b, at.1) in absurd (cc))

  pub says-placed : (p : ℕ) (d : Decided) → slice_get ds p ≡ Some d → StandsAt ds k p → Says (Some d.holds)
  says-placed p d e s b = (
    λ is. has-at ds p (decided k b) (e ∙ ap Some (on-atom ∙ ap (decided k) (some-is d.holds b is))),
    λ h. let at = place-of ds (decided k b) h in let same : p ≡ at.0 = once p at.0 d (decided k b) e at.1 (ap (λ (z : Decided). z.atom) its) in ap (λ (z : Decided). Some z.holds) (some-is d (decided k b) (sym e ∙ (ap (slice_get ds) same ∙ at.1))),
  )
    where
      its : d ≡ decided k s.0
      its = some-is d (decided k s.0) (sym e ∙ s.1)

      on-atom : d ≡ decided k d.holds
      on-atom = λ i. record { atom = (ap (λ (z : Decided). z.atom) its) i; holds = d.holds }

-- a literal before a place stands where its atom does
pub record IsBefore (ds : List Decided) (r : Option ℕ) (before : ℕ) (d : Decided) : Type 0 where
  pub place : ℕ
  pub is : r ≡ Some place
  pub below : place < before
  pub at : slice_get ds place ≡ Some d

pub before-found : (ds : List Decided) (before : ℕ) (d : Decided) (r : Option ℕ) → ((p : ℕ) → (r ≡ Some p) ↔ StandsAt ds d.atom p) → Has (take before ds) d → IsBefore ds r before d
before-found ds before d r answers h =
    let at = place-of (take before ds) d h in
    let there = taken-at ds before at.0 d at.1 in
    record { place = at.0; is = (answers at.0).1 (d.holds, there.1); below = there.0; at = there.1 }
