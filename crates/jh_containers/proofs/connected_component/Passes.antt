-- Rows that are gone over.
use Rattle.std.proofs.Common.{◌≡◌, refl, sym, ap, subst, ◌∙◌, ℕ, ◌≤◌, Bool, true, false, ◌||◌, if◌then◌else◌, nat_eq, List, [], ◌∷◌, ◌++◌, length, length-append, arith, ◌⊎◌, inl, inr, zero, suc, slice_get, Some}
use Rattle.std.proofs.lemmas.Bool.{true≢false, eqb-true, eq-eqb}
use Rattle.indexmap.specs.IndexSet.{insert_key}
use Rattle.jh_containers.specs.connected_component.Reaching.{has, shares, with_row, passed, IsRow, Reached, IsReach, IsMore}
use Rattle.jh_containers.specs.connected_component.Reaching as r

abbrev pub Within : List ℕ → List ℕ → Type 0
Within xs ys = (n : ℕ) → has xs n ≡ true → has ys n ≡ true

either : (p q : Bool) → (p || q) ≡ true → (p ≡ true) ⊎ (q ≡ true)
either true q h = inl refl
either false q h = inr h

in-front : (p q : Bool) → p ≡ true → (p || q) ≡ true
in-front p q h = λ i. h i || q

behind : (p q : Bool) → q ≡ true → (p || q) ≡ true
behind true q h = refl
behind false q h = h

some-same : {X : Type 0} (x y : X) → Some x ≡ Some y → x ≡ y
some-same x y e = cc

has-itself : (n : ℕ) → nat_eq n n ≡ true
has-itself n = eq-eqb n n refl

has-left : (xs : List ℕ) (n m : ℕ) → has xs m ≡ true → has (xs ++ n ∷ []) m ≡ true
has-left [] n m h = absurd (true≢false (sym h))
has-left (x ∷ xs) n m h = elim (either (nat_eq m x) (has xs m) h) [ inl e ↦ in-front (nat_eq m x) (has (xs ++ n ∷ []) m) e | inr k ↦ behind (nat_eq m x) (has (xs ++ n ∷ []) m) (has-left xs n m k) ]

has-last : (xs : List ℕ) (n : ℕ) → has (xs ++ n ∷ []) n ≡ true
has-last [] n = in-front (nat_eq n n) false (has-itself n)
has-last (x ∷ xs) n = behind (nat_eq n x) (has (xs ++ n ∷ []) n) (has-last xs n)

has-one : (xs : List ℕ) (n m : ℕ) → has (xs ++ n ∷ []) m ≡ true → (has xs m ≡ true) ⊎ (m ≡ n)
has-one [] n m h = elim (either (nat_eq m n) false h) [ inl e ↦ inr (eqb-true m n e) | inr k ↦ absurd (true≢false (sym k)) ]
has-one (x ∷ xs) n m h =
    elim (either (nat_eq m x) (has (xs ++ n ∷ []) m) h) [
      | inl e ↦ inl (in-front (nat_eq m x) (has xs m) e)
      | inr k ↦ elim (has-one xs n m k) [ inl u ↦ inl (behind (nat_eq m x) (has xs m) u) | inr u ↦ inr u ]
    ]

-- ---- one number

chosen-keeps : (b : Bool) (xs : List ℕ) (n : ℕ) → Within xs (if b then xs else xs ++ n ∷ [])
chosen-keeps true xs n m h = h
chosen-keeps false xs n m h = has-left xs n m h

chosen-has : (b : Bool) (xs : List ℕ) (n : ℕ) → has xs n ≡ b → has (if b then xs else xs ++ n ∷ []) n ≡ true
chosen-has true xs n h = h
chosen-has false xs n h = has-last xs n

chosen-only : (b : Bool) (xs : List ℕ) (n m : ℕ) → has (if b then xs else xs ++ n ∷ []) m ≡ true → (has xs m ≡ true) ⊎ (m ≡ n)
chosen-only true xs n m h = inl h
chosen-only false xs n m h = has-one xs n m h

chosen-longer : (b : Bool) (xs : List ℕ) (n : ℕ) → length xs ≤ length (if b then xs else xs ++ n ∷ [])
chosen-longer true xs n = omega arith
chosen-longer false xs n = omega (arith, length-append xs (n ∷ []))

chosen-same : (b : Bool) (xs : List ℕ) (n : ℕ) → length (if b then xs else xs ++ n ∷ []) ≡ length xs → (if b then xs else xs ++ n ∷ []) ≡ xs
chosen-same true xs n h = refl
chosen-same false xs n h = absurd (omega (arith, h, length-append xs (n ∷ [])))

-- ---- a row

row-keeps : (row known : List ℕ) → Within known (with_row known row)
row-keeps [] known m h = h
row-keeps (n ∷ row) known m h = row-keeps row (insert_key nat_eq known n) m (chosen-keeps (has known n) known n m h)

row-has : (row known : List ℕ) → Within row (with_row known row)
row-has [] known m h = absurd (true≢false (sym h))
row-has (n ∷ row) known m h =
    elim (either (nat_eq m n) (has row m) h) [
      | inl e ↦ row-keeps row (insert_key nat_eq known n) m (subst (λ (k : ℕ). has (insert_key nat_eq known n) k ≡ true) (sym (eqb-true m n e)) (chosen-has (has known n) known n refl))
      | inr k ↦ row-has row (insert_key nat_eq known n) m k
    ]

row-only : (row known : List ℕ) (m : ℕ) → has (with_row known row) m ≡ true → (has known m ≡ true) ⊎ (has row m ≡ true)
row-only [] known m h = inl h
row-only (n ∷ row) known m h =
    elim (row-only row (insert_key nat_eq known n) m h) [
      | inl k ↦ elim (chosen-only (has known n) known n m k) [ inl u ↦ inl u | inr e ↦ inr (in-front (nat_eq m n) (has row m) (eq-eqb m n e)) ]
      | inr k ↦ inr (behind (nat_eq m n) (has row m) k)
    ]

row-longer : (row known : List ℕ) → length known ≤ length (with_row known row)
row-longer [] known = omega arith
row-longer (n ∷ row) known = let h = chosen-longer (has known n) known n in let k = row-longer row (insert_key nat_eq known n) in omega (arith, h, k)

row-same : (row known : List ℕ) → length (with_row known row) ≡ length known → with_row known row ≡ known
row-same [] known h = refl
row-same (n ∷ row) known h =
    let l = chosen-longer (has known n) known n in
    let m = row-longer row (insert_key nat_eq known n) in
    let here : length (insert_key nat_eq known n) ≡ length known = omega (arith, h, l, m) in
    let rest : length (with_row (insert_key nat_eq known n) row) ≡ length (insert_key nat_eq known n) = omega (arith, h, here) in
    row-same row (insert_key nat_eq known n) rest ∙ chosen-same (has known n) known n here

-- ---- rows

abbrev step : Bool → List ℕ → List ℕ → List ℕ
step b row known = if b then with_row known row else known

step-keeps : (b : Bool) (row known : List ℕ) → Within known (step b row known)
step-keeps true row known m h = row-keeps row known m h
step-keeps false row known m h = h

step-longer : (b : Bool) (row known : List ℕ) → length known ≤ length (step b row known)
step-longer true row known = row-longer row known
step-longer false row known = omega arith

step-same : (b : Bool) (row known : List ℕ) → length (step b row known) ≡ length known → step b row known ≡ known
step-same true row known h = row-same row known h
step-same false row known h = refl

step-takes : (b : Bool) (row known : List ℕ) → step b row known ≡ known → b ≡ true → Within row known
step-takes true row known e h m k = ap (λ xs. has xs m) (sym e) ∙ row-has row known m k
step-takes false row known e h m k = absurd (true≢false (sym h))

pub passed-keeps : (rows : List (List ℕ)) (known : List ℕ) → Within known (passed rows known)
passed-keeps [] known m h = h
passed-keeps (row ∷ rows) known m h = passed-keeps rows (step (shares row known) row known) m (step-keeps (shares row known) row known m h)

passed-longer : (rows : List (List ℕ)) (known : List ℕ) → length known ≤ length (passed rows known)
passed-longer [] known = omega arith
passed-longer (row ∷ rows) known = let h = step-longer (shares row known) row known in let k = passed-longer rows (step (shares row known) row known) in omega (arith, h, k)

-- each row that has one of the numbers is among them
abbrev pub Closed : List (List ℕ) → List ℕ → Type 0
Closed [] known = Unit {0}
Closed (row ∷ rows) known = (shares row known ≡ true → Within row known) × Closed rows known

-- where nothing was added, nothing is left to add
pub passed-same : (rows : List (List ℕ)) (known : List ℕ) → length (passed rows known) ≡ length known → (passed rows known ≡ known) × Closed rows known
passed-same [] known h = (refl, tt)
passed-same (row ∷ rows) known h =
    let l = step-longer (shares row known) row known in
    let m = passed-longer rows (step (shares row known) row known) in
    let here : length (step (shares row known) row known) ≡ length known = omega (arith, h, l, m) in
    let same : step (shares row known) row known ≡ known = step-same (shares row known) row known here in
    let rest : length (passed rows known) ≡ length known = ap (λ xs. length (passed rows xs)) (sym same) ∙ h in
    let behind_it = passed-same rows known rest in
    (ap (passed rows) same ∙ behind_it.0, (step-takes (shares row known) row known same, behind_it.1))

some-shared : (row known : List ℕ) → shares row known ≡ true → (n : ℕ) × (has row n ≡ true) × (has known n ≡ true)
some-shared [] known h = absurd (true≢false (sym h))
some-shared (x ∷ row) known h =
    elim (either (has known x) (shares row known) h) [
      | inl e ↦ (x, in-front (nat_eq x x) (has row x) (has-itself x), e)
      | inr k ↦ let f = some-shared row known k in (f.0, behind (nat_eq f.0 x) (has row f.0) f.1, f.2)
    ]

shared-some : (row known : List ℕ) (n : ℕ) → has row n ≡ true → has known n ≡ true → shares row known ≡ true
shared-some [] known n h k = absurd (true≢false (sym h))
shared-some (x ∷ row) known n h k =
    elim (either (nat_eq n x) (has row n) h) [
      | inl e ↦ in-front (has known x) (shares row known) (subst (λ (m : ℕ). has known m ≡ true) (eqb-true n x e) k)
      | inr l ↦ behind (has known x) (shares row known) (shared-some row known n l k)
    ]

-- ---- what is reached

module _ (all : List (List ℕ)) (start : List ℕ) where
  abbrev pub Sound : List ℕ → Type 0
  Sound known = (n : ℕ) → has known n ≡ true → Reached all start n

  step-sound : (b : Bool) (row known : List ℕ) → IsRow row all → shares row known ≡ b → Sound known → Sound (step b row known)
  step-sound true row known is e sound n h =
      let f = some-shared row known e in
      elim (row-only row known n h) [ inl k ↦ sound n k | inr k ↦ r.along f.0 n row is f.1 k (sound f.0 f.2) ]
  step-sound false row known is e sound n h = sound n h

  rows-sound : (rows : List (List ℕ)) (known : List ℕ) → ((row : List ℕ) → IsRow row rows → IsRow row all) → Sound known → Sound (passed rows known)
  rows-sound [] known are sound = sound
  rows-sound (row ∷ rows) known are sound = rows-sound rows (step (shares row known) row known) (λ x is. are x (inr is)) (step-sound (shares row known) row known (are row (inl refl)) refl sound)

  pub passed-sound : (known : List ℕ) → Sound known → Sound (passed all known)
  passed-sound known sound = rows-sound all known (λ row is. is) sound

  pub start-sound : Sound (with_row [] start)
  start-sound n h = elim (row-only start [] n h) [ inl k ↦ absurd (true≢false (sym k)) | inr k ↦ r.given n k ]

  pub start-within : Within start (with_row [] start)
  start-within = row-has start []

  closed-at : (rows : List (List ℕ)) (known row : List ℕ) → Closed rows known → IsRow row rows → shares row known ≡ true → Within row known
  closed-at [] known row c is h = absurd is
  closed-at (x ∷ rows) known row c (inl e) h = subst (λ (y : List ℕ). Within y known) e (c.0 (subst (λ (y : List ℕ). shares y known ≡ true) (sym e) h))
  closed-at (x ∷ rows) known row c (inr is) h = closed-at rows known row c.1 is h

  all-reached : (known : List ℕ) → Within start known → Closed all known → (n : ℕ) → Reached all start n → has known n ≡ true
  all-reached known within c _ (r.given n h) = within n h
  all-reached known within c _ (r.along m n row is h k before) = closed-at all known row c is (shared-some row known m h (all-reached known within c m before)) n k

  -- where a pass adds nothing, all is there
  pub pass-ends : (known more : List ℕ) → Sound known → Within start known → more ≡ passed all known → length more ≡ length known → IsReach all start more
  pass-ends known more sound within e l =
      let same = passed-same all known (ap length (sym e) ∙ l) in
      let is : more ≡ known = e ∙ same.0 in
      subst (λ (xs : List ℕ). IsReach all start xs) (sym is) (record { sound = sound; complete = all-reached known within same.1 })

  -- the first numbers
  pub begins : (none known : List ℕ) → none ≡ [] → known ≡ with_row none start → Sound known × Within start known
  begins none known e f =
      let is : known ≡ with_row [] start = f ∙ ap (λ xs. with_row xs start) e in
      (subst Sound (sym is) start-sound, subst (λ (xs : List ℕ). Within start xs) (sym is) start-within)

  -- one more pass
  pub goes-on : (known more : List ℕ) → Sound known → Within start known → more ≡ passed all known → Sound more × Within start more
  goes-on known more sound within e =
      (subst Sound (sym e) (passed-sound known sound), subst (λ (xs : List ℕ). Within start xs) (sym e) (λ n h. passed-keeps all known n (within n h)))

-- ---- more numbers that are reached

pub row-at : (rows : List (List ℕ)) (i : ℕ) (row : List ℕ) → slice_get rows i ≡ Some row → IsRow row rows
row-at [] zero row e = cc
row-at [] (suc i) row e = cc
row-at (x ∷ rows) zero row e = inl (some-same x row e)
row-at (x ∷ rows) (suc i) row e = inr (row-at rows i row e)

module _ (rows : List (List ℕ)) where
  pub more-none : (known : List ℕ) → IsMore rows known known
  more-none known = record { keeps = λ n h. h; sound = λ n h. r.given n h }

  reached-more : (start mid : List ℕ) → ((n : ℕ) → has mid n ≡ true → Reached rows start n) → (n : ℕ) → Reached rows mid n → Reached rows start n
  reached-more start mid sound _ (r.given n h) = sound n h
  reached-more start mid sound _ (r.along m n row is h k before) = r.along m n row is h k (reached-more start mid sound m before)

  pub more-then : (first mid last : List ℕ) → IsMore rows first mid → IsMore rows mid last → IsMore rows first last
  more-then first mid last a b = record { keeps = λ n h. b.keeps n (a.keeps n h); sound = λ n h. reached-more first mid a.sound n (b.sound n h) }

  pub more-row : (row known new : List ℕ) → IsRow row rows → new ≡ (if shares row known then with_row known row else known) → IsMore rows known new
  more-row row known new is e =
      subst (λ (xs : List ℕ). IsMore rows known xs) (sym e)
      (record { keeps = step-keeps (shares row known) row known; sound = step-sound rows known (shares row known) row known is refl (λ n h. r.given n h) })

  pub more-sound : (start known new : List ℕ) → Sound rows start known → IsMore rows known new → Sound rows start new
  more-sound start known new sound more n h = reached-more start known sound n (more.sound n h)
