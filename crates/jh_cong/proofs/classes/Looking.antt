-- Loops over lists that look at one item after the other.
use Rattle.std.proofs.Common.{◌≡◌, sym, ap, subst, ◌∙◌, ℕ, zero, suc, ◌+◌, ◌<◌, List, [], ◌∷◌, ◌++◌, length, take, slice_get, ◌⊎◌, inl, inr, Some, arith}
use Rattle.std.proofs.lemmas.Bool.{cases_lt}
use Rattle.std.proofs.lemmas.Bool.Decides.{eqb_tells}
use Rattle.std.proofs.lemmas.Option.{slice_get_within, same_Some}
use Rattle.jh_closure.specs.congruence_closure.Nodes.{Has}
use Rattle.jh_closure.proofs.congruence_closure.Having.{place-of}

before-or-at : (i n : ℕ) → i < n + 1 → (i < n) ⊎ (i ≡ n)
before-or-at i n l = elim (cases_lt i n) [ inl before ↦ inl before | inr past ↦ inr (omega (arith, l, past)) ]

-- one more item is looked at
pub looked-more : {X : Type 0} (P : X → Type 0) (xs : List X) (n : ℕ) (x : X) → slice_get xs n ≡ Some x → P x → ((i : ℕ) (y : X) → i < n → slice_get xs i ≡ Some y → P y) → (i : ℕ) (y : X) → i < n + 1 → slice_get xs i ≡ Some y → P y
looked-more P xs n x here p all i y l e = elim (before-or-at i n l) [
  | inl before ↦ all i y before e
  | inr at ↦ subst P (same_Some x y (sym here ∙ (ap (slice_get xs) (sym at) ∙ e))) p
]

-- all items are looked at
pub looked-all : {X : Type 0} (P : X → Type 0) (xs : List X) (n : ℕ) → n ≡ length xs → ((i : ℕ) (y : X) → i < n → slice_get xs i ≡ Some y → P y) → (y : X) → Has xs y → P y
looked-all P xs n e all y h =
    let r = place-of xs y h in
    let l : r.0 < length xs = slice_get_within xs r.0 y r.1 in
    all r.0 y (omega (arith, l, e)) r.1

pub take-next : {X : Type 0} (xs : List X) (n : ℕ) (x : X) → slice_get xs n ≡ Some x → take (n + 1) xs ≡ take n xs ++ x ∷ []
take-next [] n x e = absurd (let l : n < 0 = slice_get_within [] n x e in omega (arith, l))
take-next (y ∷ xs) zero x e = ap (λ z. z ∷ []) (same_Some y x e)
take-next (y ∷ xs) (suc n) x e =
    let more : suc n + 1 ≡ suc (n + 1) = omega arith in
    ap (λ k. take k (y ∷ xs)) more ∙ ap (λ zs. y ∷ zs) (take-next xs n x e)

-- one more item is looked at, where what holds of it speaks of its place
pub placed-more : {X : Type 0} (P : ℕ → X → Type 0) (xs : List X) (n : ℕ) (x : X) → slice_get xs n ≡ Some x → P n x → ((i : ℕ) (y : X) → i < n → slice_get xs i ≡ Some y → P i y) → (i : ℕ) (y : X) → i < n + 1 → slice_get xs i ≡ Some y → P i y
placed-more P xs n x here p all i y l e = elim (before-or-at i n l) [
  | inl before ↦ all i y before e
  | inr at ↦ subst (λ k. P k y) (sym at) (subst (P n) (same_Some x y (sym here ∙ (ap (slice_get xs) (sym at) ∙ e))) p)
]

-- a number stands in a list or it doesn't
pub has-or-not : (xs : List ℕ) (x : ℕ) → Has xs x ⊎ (Has xs x → ⊥)
has-or-not [] x = inr (λ h. h)
has-or-not (y ∷ ys) x = elim (eqb_tells y x) [
  | inl same ↦ inl (inl same.1)
  | inr other ↦ elim (has-or-not ys x) [ inl later ↦ inl (inr later) | inr never ↦ inr (λ h. elim h [ inl e ↦ other.1 e | inr w ↦ never w ]) ]
]
