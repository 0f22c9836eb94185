-- Tests of all numbers below a bound, the numbers that pass one, and sets that are compared.
use Rattle.std.proofs.Common.{◌≡◌, ◌≢◌, refl, ℕ, zero, suc, ◌+◌, ◌<◌, ◌≤◌, ◌==◌, Bool, true, false, not, ◌&&◌, ◌||◌, if◌then◌else◌, List, [], ◌∷◌, ◌++◌, length, get_or, ap, sym, ◌∙◌, arith, ◌⊎◌, inl, inr}
use Rattle.std.specs.Prelude.{slice_index}
use Rattle.std.proofs.lemmas.Bool.{eqb-true, eq-eqb, or_cases, or_left, or_right, cases_eq, true≢false}
use Rattle.std.proofs.lemmas.List.{length-append}
use Rattle.std.proofs.Math.ListN.{get_or-append}
use Rattle.std.proofs.Math.Seq.{get_or-append_seam}
use Rattle.jh_form.specs.Meaning.{all_below, any_below}
use Rattle.jh_query.specs.declared.queries.sizes.Spot.{Spot}
use Rattle.jh_query.specs.queries.Tree.{SetExprTree}
use Rattle.jh_query.specs.queries.Sizing.{Sizing}
use Rattle.jh_query.specs.queries.Truth.{class_lies, compares, rest_lies, rest_of}
use Rattle.jh_bapa.specs.decision.Lists.{picks}

pub first : (p q : Bool) → (p && q) ≡ true → p ≡ true
first true q e = refl
first false q e = e

pub second : (p q : Bool) → (p && q) ≡ true → q ≡ true
second true q e = e
second false q e = cc

pub both : (p q : Bool) → p ≡ true → q ≡ true → (p && q) ≡ true
both p q e f = rw (e, f) refl

pub not-true : (p : Bool) → not p ≡ true → p ≡ false
not-true true e = cc
not-true false e = refl

pub not-false : (p : Bool) → not p ≡ false → p ≡ true
not-false true e = refl
not-false false e = cc

pub none_one : (p q : Bool) → (p || q) ≡ false → p ≡ false
none_one true q e = cc
none_one false q e = refl

pub none_two : (p q : Bool) → (p || q) ≡ false → q ≡ false
none_two true q e = cc
none_two false q e = e

and_false : (p : Bool) → (p && false) ≡ false
and_false true = refl
and_false false = refl

pub any-some : (n : ℕ) (p : ℕ → Bool) → any_below n p ≡ true → (x : ℕ) × (x < n) × (p x ≡ true)
any-some zero p h = absurd (cc)
any-some (suc n) p h =
    elim (or_cases (any_below n p) (p n) h) [
      | inl e ↦ let r = any-some n p e in let lt = r.1 in (r.0, omega arith, r.2)
      | inr e ↦ (n, omega arith, e)
    ]

pub some-any : (n x : ℕ) (p : ℕ → Bool) → x < n → p x ≡ true → any_below n p ≡ true
some-any zero x p lt h = absurd (omega arith)
some-any (suc n) x p lt h =
    elim (cases_eq x n) [
      | inl e ↦ or_right (any_below n p) (p n) (cc)
      | inr e ↦ or_left (any_below n p) (p n) (some-any n x p (omega arith) h)
    ]

pub any-none : (n x : ℕ) (p : ℕ → Bool) → any_below n p ≡ false → x < n → p x ≡ false
any-none zero x p h lt = absurd (omega arith)
any-none (suc n) x p h lt =
    elim (cases_eq x n) [
      | inl e ↦ let last = none_two (any_below n p) (p n) h in cc
      | inr e ↦ any-none n x p (none_one (any_below n p) (p n) h) (omega arith)
    ]

pub none-any : (n : ℕ) (p : ℕ → Bool) → ((x : ℕ) → x < n → p x ≡ false) → any_below n p ≡ false
none-any zero p h = refl
none-any (suc n) p h = λ i. none-any n p (λ x lt. h x (omega arith)) i || h n (omega arith) i

pub all-at : (n x : ℕ) (p : ℕ → Bool) → all_below n p ≡ true → x < n → p x ≡ true
all-at zero x p h lt = absurd (omega arith)
all-at (suc n) x p h lt =
    elim (cases_eq x n) [
      | inl e ↦ let last = second (all_below n p) (p n) h in cc
      | inr e ↦ all-at n x p (first (all_below n p) (p n) h) (omega arith)
    ]

pub at-all : (n : ℕ) (p : ℕ → Bool) → ((x : ℕ) → x < n → p x ≡ true) → all_below n p ≡ true
at-all zero p h = refl
at-all (suc n) p h = λ i. at-all n p (λ x lt. h x (omega arith)) i && h n (omega arith) i

pub one-fails : (n x : ℕ) (p : ℕ → Bool) → x < n → p x ≡ false → all_below n p ≡ false
one-fails zero x p lt h = absurd (omega arith)
one-fails (suc n) x p lt h =
    elim (cases_eq x n) [
      | inl e ↦ let last : p n ≡ false = cc in rw last (and_false (all_below n p))
      | inr e ↦ let below : all_below n p ≡ false = one-fails n x p (omega arith) h in rw below refl
    ]

pub sure : (b : Bool) → (b ≡ true) ⊎ (b ≡ false)
sure true = inl refl
sure false = inr refl

front : (a b : Bool) → (a && b) ≡ false → b ≡ true → a ≡ false
front true b e f = cc
front false b e f = refl

pub all-fails : (n : ℕ) (p : ℕ → Bool) → all_below n p ≡ false → (x : ℕ) × (x < n) × (p x ≡ false)
all-fails zero p h = absurd (cc)
all-fails (suc n) p h =
    elim (sure (p n)) [
      | inr e ↦ (n, omega arith, e)
      | inl e ↦ let r = all-fails n p (front (all_below n p) (p n) h e) in let lt = r.1 in (r.0, omega arith, r.2)
    ]

-- The numbers below n that pass a test are those of the list.
pub picks-in : (n : ℕ) (p : ℕ → Bool) (r : ℕ) → r < n → p r ≡ true → (i : ℕ) × (i < length (picks n p)) × (slice_index (picks n p) i ≡ r)
picks-in zero p r lt h = absurd (omega arith)
picks-in (suc n) p r lt h =
    elim (sure (p n)) [
      | inl e ↦ elim (cases_eq r n) [
        | inl f ↦ rw e (length (picks n p), omega (arith, length-append (picks n p) (n ∷ [])), get_or-append_seam (picks n p) n [] 0 ∙ sym f)
        | inr f ↦ let k = picks-in n p r (omega arith) h in let lt = k.1 in rw e (k.0, omega (arith, length-append (picks n p) (n ∷ [])), get_or-append (picks n p) (n ∷ []) 0 k.0 k.1 ∙ k.2)
      ]
      | inr e ↦ elim (cases_eq r n) [
        | inl f ↦ let bad : true ≡ false = cc in absurd (true≢false bad)
        | inr f ↦ rw e (picks-in n p r (omega arith) h)
      ]
    ]

last_place : (i n : ℕ) → i < suc n → (i ≡ n → ⊥) → i < n
last_place i n h k = elim (cases_eq i n) [
  | inl e ↦ absurd (k e)
  | inr e ↦ omega arith
]

picks_more : (xs : List ℕ) (n : ℕ) (p : ℕ → Bool) (i : ℕ) → p n ≡ true → i < length (xs ++ n ∷ []) → (i < length xs → (slice_index xs i < n) × (p (slice_index xs i) ≡ true)) → (slice_index (xs ++ n ∷ []) i < suc n) × (p (slice_index (xs ++ n ∷ []) i) ≡ true)
picks_more xs n p i e h k =
    elim (cases_eq i (length xs)) [
      | inl f ↦ let there : slice_index (xs ++ n ∷ []) i ≡ n = ap (slice_index (xs ++ n ∷ [])) f ∙ get_or-append_seam xs n [] 0 in (omega arith, ap p there ∙ e)
      | inr f ↦
          let lt : i < length xs = omega (arith, length-append xs (n ∷ [])) in
          let there : slice_index (xs ++ n ∷ []) i ≡ slice_index xs i = get_or-append xs (n ∷ []) 0 i lt in
          let below = (k lt).0 in
          (omega arith, ap p there ∙ (k lt).1)
    ]

pub picks-at : (n : ℕ) (p : ℕ → Bool) (i : ℕ) → i < length (picks n p) → (slice_index (picks n p) i < n) × (p (slice_index (picks n p) i) ≡ true)
picks-at zero p i h = absurd (omega arith)
picks-at (suc n) p i h =
    elim (sure (p n)) [
      | inl e ↦ rw e (picks_more (picks n p) n p i e (rw e at h) (picks-at n p i))
      | inr e ↦ let k = picks-at n p i (rw e at h) in let lt = k.0 in rw e (omega arith, k.1)
    ]

-- Two sets under a test that compares them: c differs where the test fails.
module _ (z : Sizing) (test : Bool → Bool → Bool) (a b : SetExprTree) where
  abbrev pub class_fails : ℕ → Bool
  class_fails i = not (test (class_lies z.spots i a) (class_lies z.spots i b))

  abbrev pub rest_fails : ℕ → Bool
  rest_fails r = not (test (rest_lies r a) (rest_lies r b))

  rest_passes : (r : ℕ) → (rest_fails r ≡ true → rest_of z r ≡ 0) → (rest_of z r == 0 || test (rest_lies r a) (rest_lies r b)) ≡ true
  rest_passes r h = elim (sure (rest_fails r)) [
    | inl e ↦ or_left (rest_of z r == 0) (test (rest_lies r a) (rest_lies r b)) (eq-eqb (rest_of z r) 0 (h e))
    | inr e ↦ or_right (rest_of z r == 0) (test (rest_lies r a) (rest_lies r b)) (not-false (test (rest_lies r a) (rest_lies r b)) e)
  ]

  pub set-true : any_below (length z.spots) class_fails ≡ false → ((r : ℕ) → r < length z.rest → rest_fails r ≡ true → rest_of z r ≡ 0) → compares z test a b ≡ true
  set-true e h = both _ _
      (at-all (length z.spots) (λ i. test (class_lies z.spots i a) (class_lies z.spots i b)) (λ i k. not-false (test (class_lies z.spots i a) (class_lies z.spots i b)) (any-none (length z.spots) i class_fails e k)))
      (at-all (length z.rest) (λ r. rest_of z r == 0 || test (rest_lies r a) (rest_lies r b)) (λ r k. rest_passes r (h r k)))

  pub set-classes : compares z test a b ≡ true → any_below (length z.spots) class_fails ≡ false
  set-classes e = none-any (length z.spots) class_fails (λ i k. ap not (all-at (length z.spots) i (λ i. test (class_lies z.spots i a) (class_lies z.spots i b)) (first _ _ e) k))

  pub set-rest : compares z test a b ≡ true → (r : ℕ) → r < length z.rest → rest_fails r ≡ true → rest_of z r ≡ 0
  set-rest e r k f = elim (or_cases (rest_of z r == 0) (test (rest_lies r a) (rest_lies r b)) (all-at (length z.rest) r (λ r. rest_of z r == 0 || test (rest_lies r a) (rest_lies r b)) (second _ _ e) k)) [
    | inl g ↦ eqb-true (rest_of z r) 0 g
    | inr g ↦ let bad : false ≡ true = sym (ap not g) ∙ f in absurd (true≢false (sym bad))
  ]

  pub set-class-false : any_below (length z.spots) class_fails ≡ true → compares z test a b ≡ false
  set-class-false e = elim (sure (compares z test a b)) [
    | inl f ↦ let bad : true ≡ false = sym e ∙ set-classes f in absurd (true≢false bad)
    | inr f ↦ f
  ]

  pub set-rest-false : (r : ℕ) → r < length z.rest → rest_fails r ≡ true → rest_of z r ≢ 0 → compares z test a b ≡ false
  set-rest-false r k f n = elim (sure (compares z test a b)) [
    | inl g ↦ absurd (n (set-rest g r k f))
    | inr g ↦ g
  ]

  -- where no class makes the comparison false, a rest does
  pub set-wanted : compares z test a b ≡ false → any_below (length z.spots) class_fails ≡ false → (r : ℕ) × (r < length z.rest) × ((rest_fails r ≡ true) × (rest_of z r ≢ 0))
  set-wanted e f =
      let classes : all_below (length z.spots) (λ i. test (class_lies z.spots i a) (class_lies z.spots i b)) ≡ true =
      at-all (length z.spots) (λ i. test (class_lies z.spots i a) (class_lies z.spots i b)) (λ i k. not-false (test (class_lies z.spots i a) (class_lies z.spots i b)) (any-none (length z.spots) i class_fails f k)) in
      let rests : all_below (length z.rest) (λ r. rest_of z r == 0 || test (rest_lies r a) (rest_lies r b)) ≡ false = behind _ _ e classes in
      let found = all-fails (length z.rest) (λ r. rest_of z r == 0 || test (rest_lies r a) (rest_lies r b)) rests in
      (found.0, found.1, (ap not (none_two (rest_of z found.0 == 0) _ found.2), λ g. true≢false (sym (eq-eqb (rest_of z found.0) 0 g) ∙ none_one (rest_of z found.0 == 0) _ found.2)))
    where
      behind : (p q : Bool) → (p && q) ≡ false → p ≡ true → q ≡ false
      behind true q e f = e
      behind false q e f = cc
