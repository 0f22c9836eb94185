-- Lists of universals, of facts and of formulas, front by front.
use Rattle.std.proofs.Common.{◌≡◌, refl, sym, ap, ◌∙◌, ℕ, zero, suc, ◌+◌, ◌<◌, ◌≤◌, ◌==◌, add-one, append_assoc, Bool, true, false, if◌then◌else◌, arith, List, [], ◌∷◌, ◌++◌, length, take, drop, slice_get, Some}
use Rattle.std.proofs.lemmas.Bool.{eq-eqb, ne_eqb}
use Rattle.std.proofs.lemmas.List.{append-nil}
use Rattle.jh_form.specs.Tree.{TermTree, FormulaTree}
use Rattle.jh_inst.specs.instances.Prenex.{in_front}
use Rattle.jh_inst.specs.instances.Entries.{Entry, formulas}
use Rattle.jh_inst.specs.instances.Rounds.{AtHand, universals}
use Rattle.jh_inst.specs.instances.Terms.{closed_terms, with_terms, with_terms_of}

if-both : {X : Type 0} (b : Bool) (x : X) (xs ys : List X) → (if b then xs else x ∷ xs) ++ ys ≡ (if b then xs ++ ys else x ∷ (xs ++ ys))
if-both true x xs ys = refl
if-both false x xs ys = refl

-- the universals of two lists of entries
pub universals-both : (n : ℕ) (es fs : List Entry) → universals n (es ++ fs) ≡ universals n es ++ universals (n + length es) fs
universals-both n [] fs = let same : n ≡ n + 0 = omega arith in ap (λ k. universals k fs) same
universals-both n (e ∷ es) fs =
    let same : suc n + length es ≡ n + suc (length es) = omega arith in
    let x : AtHand = record { place = n; formula = e.formula; old = [] } in
    ap (λ hs. if in_front e.formula == 0 then hs else x ∷ hs) (universals-both (suc n) es fs ∙ ap (λ k. universals (suc n) es ++ universals k fs) same)
    ∙ sym (if-both (in_front e.formula == 0) x (universals (suc n) es) (universals (n + suc (length es)) fs))

-- the terms of two lists of formulas
pub terms-of-both : (ts : List TermTree) (xs ys : List FormulaTree) → with_terms_of ts (xs ++ ys) ≡ with_terms_of (with_terms_of ts xs) ys
terms-of-both ts [] ys = refl
terms-of-both ts (a ∷ xs) ys = terms-of-both (with_terms ts (closed_terms a)) xs ys

-- the item at a place of a list, what stands from it on, and what stands before the next place
pub item-there : {X : Type 0} (xs : List X) (i : ℕ) → i < length xs → (x : X) × (slice_get xs i ≡ Some x)
item-there [] i h = absurd (omega (arith, h))
item-there (x ∷ xs) zero h = (x, refl)
item-there (x ∷ xs) (suc i) h = item-there xs i (omega (arith, h))

pub drop-at : {X : Type 0} (xs : List X) (i : ℕ) (x : X) → slice_get xs i ≡ Some x → drop i xs ≡ x ∷ drop (i + 1) xs
drop-at xs i x e = at-place xs i x e ∙ ap (λ k. x ∷ drop k xs) (sym (add-one i))
  where
    at-place : {X : Type 0} (xs : List X) (i : ℕ) (x : X) → slice_get xs i ≡ Some x → drop i xs ≡ x ∷ drop (suc i) xs
    at-place [] i x e = absurd (cc)
    at-place (y ∷ xs) zero x e = let same : y ≡ x = cc in ap (λ z. z ∷ xs) same
    at-place (y ∷ xs) (suc i) x e = at-place xs i x e

pub drop-all : {X : Type 0} (xs : List X) (i : ℕ) → length xs ≤ i → drop i xs ≡ []
drop-all [] zero h = refl
drop-all [] (suc i) h = refl
drop-all (x ∷ xs) zero h = absurd (omega (arith, h))
drop-all (x ∷ xs) (suc i) h = drop-all xs i (omega (arith, h))

pub take-next : {X : Type 0} (xs : List X) (i : ℕ) (x : X) → slice_get xs i ≡ Some x → take (i + 1) xs ≡ take i xs ++ (x ∷ [])
take-next xs i x e = ap (λ k. take k xs) (add-one i) ∙ at-place xs i x e
  where
    at-place : {X : Type 0} (xs : List X) (i : ℕ) (x : X) → slice_get xs i ≡ Some x → take (suc i) xs ≡ take i xs ++ (x ∷ [])
    at-place [] i x e = absurd (cc)
    at-place (y ∷ xs) zero x e = let same : y ≡ x = cc in ap (λ z. z ∷ []) same
    at-place (y ∷ xs) (suc i) x e = ap (λ zs. y ∷ zs) (at-place xs i x e)

-- the universals from a place on: one more entry, and none that is left
pub universals-next : (us : List AtHand) (es : List Entry) (i : ℕ) (e : Entry) → slice_get es i ≡ Some e → us ++ universals i (drop i es) ≡ (us ++ universals i (e ∷ [])) ++ universals (i + 1) (drop (i + 1) es)
universals-next us es i e s =
    ap (λ xs. us ++ universals i xs) (drop-at es i e s)
    ∙ ap (λ xs. us ++ xs) (universals-both i (e ∷ []) (drop (i + 1) es))
    ∙ sym (append_assoc us (universals i (e ∷ [])) (universals (i + 1) (drop (i + 1) es)))

pub universals-end : (us : List AtHand) (es : List Entry) (i : ℕ) → length es ≤ i → us ++ universals i (drop i es) ≡ us
universals-end us es i h = ap (λ xs. us ++ universals i xs) (drop-all es i h) ∙ append-nil us

pub universals-none : (us : List AtHand) (i : ℕ) (e : Entry) → in_front e.formula ≡ 0 → us ++ universals i (e ∷ []) ≡ us
universals-none us i e h = ap (λ b. us ++ (if b then [] else record { place = i; formula = e.formula; old = [] } ∷ [])) (eq-eqb (in_front e.formula) 0 h) ∙ append-nil us

pub universals-one : (us : List AtHand) (i : ℕ) (e : Entry) → (in_front e.formula ≡ 0 → ⊥) → us ++ universals i (e ∷ []) ≡ us ++ (record { place = i; formula = e.formula; old = [] } ∷ [])
universals-one us i e h = ap (λ b. us ++ (if b then [] else record { place = i; formula = e.formula; old = [] } ∷ [])) (ne_eqb (in_front e.formula) 0 h)

-- and the terms from a place on
pub terms-next : (us : List TermTree) (es : List Entry) (i : ℕ) (e : Entry) → slice_get es i ≡ Some e → with_terms_of us (formulas (drop i es)) ≡ with_terms_of (with_terms us (closed_terms e.formula)) (formulas (drop (i + 1) es))
terms-next us es i e s = ap (λ xs. with_terms_of us (formulas xs)) (drop-at es i e s)

pub terms-end : (us : List TermTree) (es : List Entry) (i : ℕ) → length es ≤ i → with_terms_of us (formulas (drop i es)) ≡ us
terms-end us es i h = ap (λ xs. with_terms_of us (formulas xs)) (drop-all es i h)

pub drop-front : {X : Type 0} (xs ys : List X) → drop (length xs) (xs ++ ys) ≡ ys
drop-front [] ys = refl
drop-front (x ∷ xs) ys = drop-front xs ys

pub no-items : {X : Type 0} (xs : List X) → length xs ≡ 0 → xs ≡ []
no-items [] e = refl
no-items (x ∷ xs) e = absurd (omega (arith, e))
