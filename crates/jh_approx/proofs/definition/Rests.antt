-- How often a region stands among those of the objects that are no element.
use Rattle.std.proofs.Common.{◌≡◌, refl, sym, ap, ◌∙◌, ℕ, zero, suc, ◌+◌, ◌<◌, ◌≤◌, ◌-◌, ◌==◌, nat_lt, Bool, true, false, List, [], ◌∷◌, length, get_or, replicate, arith, inl, inr}
use Rattle.std.proofs.lemmas.Bool.{eqb-true, eq-eqb, false_from_ne_true, ltb-true, ltb-false}
use Rattle.std.proofs.lemmas.List.{get_or_append_left, get_or-append-add, get_or-replicate, length-append, length-replicate, get_or_past}
use Rattle.jh_form.specs.Meaning.{count_below}
use Rattle.jh_approx.specs.definition.Listed.{rests}
use Rattle.jh_approx.proofs.definition.Counts.{count-same, sure}

-- a range is counted in two parts
pub count-sum : (a b : ℕ) (p : ℕ → Bool) → count_below (a + b) p ≡ count_below a p + count_below b (λ x. p (a + x))
count-sum a zero p = let e : a + 0 ≡ a = omega arith in ap (λ n. count_below n p) e ∙ omega arith
count-sum a (suc b) p =
    let e : a + suc b ≡ suc (a + b) = omega arith in
    let h : count_below (a + b) p ≡ count_below a p + count_below b (λ x. p (a + x)) = count-sum a b p in
    ap (λ n. count_below n p) e ∙ omega (arith, h)

pub count-nothing : (n : ℕ) → count_below n (λ x. false) ≡ 0
count-nothing zero = refl
count-nothing (suc n) = let h = count-nothing n in omega (arith, h)

pub count-each : (n : ℕ) → count_below n (λ x. true) ≡ n
count-each zero = refl
count-each (suc n) = let h = count-each n in omega (arith, h)

apart : (a b : ℕ) → (a ≡ b → ⊥) → (a == b) ≡ false
apart a b h = false_from_ne_true (a == b) (λ e. h (eqb-true a b e))

-- what stands first in a list of regions, and behind it
long-is : (r n : ℕ) (ns : List ℕ) → length (rests r (n ∷ ns)) ≡ n + length (rests (suc r) ns)
long-is r n ns = length-append (replicate n r) (rests (suc r) ns) ∙ ap (λ k. k + length (rests (suc r) ns)) (length-replicate n r)

rest-first : (r n : ℕ) (ns : List ℕ) (x : ℕ) → x < n → get_or (rests r (n ∷ ns)) x 0 ≡ r
rest-first r n ns x lt = get_or_append_left (replicate n r) (rests (suc r) ns) 0 x (omega (arith, lt, length-replicate n r)) ∙ get_or-replicate n x r 0 lt

rest-later : (r n : ℕ) (ns : List ℕ) (x : ℕ) → get_or (rests r (n ∷ ns)) (n + x) 0 ≡ get_or (rests (suc r) ns) x 0
rest-later r n ns x =
    let place : n + x ≡ length (replicate n r) + x = omega (arith, length-replicate n r) in
    ap (λ k. get_or (rests r (n ∷ ns)) k 0) place ∙ get_or-append-add (replicate n r) (rests (suc r) ns) x 0

-- regions from r on are r or more, and below r and their number
pub rests-within : (r : ℕ) (ns : List ℕ) (x : ℕ) → x < length (rests r ns) → (r ≤ get_or (rests r ns) x 0) × (get_or (rests r ns) x 0 < r + length ns)
rests-within r [] x lt = absurd (omega (arith, lt))
rests-within r (n ∷ ns) x lt =
    elim (sure (nat_lt x n)) [
      | inl e ↦
          let here : get_or (rests r (n ∷ ns)) x 0 ≡ r = rest-first r n ns x (ltb-true x n e) in
          (omega (arith, here), omega (arith, here))
      | inr e ↦
          let past : n ≤ x = ltb-false x n e in
          let place : x ≡ n + (x - n) = omega (arith, past) in
          let here : get_or (rests r (n ∷ ns)) x 0 ≡ get_or (rests (suc r) ns) (x - n) 0 = ap (λ k. get_or (rests r (n ∷ ns)) k 0) place ∙ rest-later r n ns (x - n) in
          let more = rests-within (suc r) ns (x - n) (omega (arith, lt, long-is r n ns, past)) in
          (omega (arith, here, more.0), omega (arith, here, more.1))
    ]

abbrev mine : ℕ → ℕ → ℕ
mine n zero = n
mine n (suc j) = 0

abbrev theirs : List ℕ → ℕ → ℕ
theirs ns zero = 0
theirs ns (suc j) = get_or ns j 0

mine-count : (r n : ℕ) (ns : List ℕ) (j : ℕ) → count_below n (λ x. get_or (rests r (n ∷ ns)) x 0 == r + j) ≡ mine n j
mine-count r n ns zero = count-same n _ (λ x. true) (λ x lt. eq-eqb _ _ (omega (arith, rest-first r n ns x lt))) ∙ count-each n
mine-count r n ns (suc j) = count-same n _ (λ x. false) (λ x lt. apart _ _ (λ e. omega (arith, rest-first r n ns x lt, e))) ∙ count-nothing n

both : (n : ℕ) (ns : List ℕ) (j : ℕ) → mine n j + theirs ns j ≡ get_or (n ∷ ns) j 0
both n ns zero = omega arith
both n ns (suc j) = omega arith

theirs-count : (r n : ℕ) (ns : List ℕ) → ((k : ℕ) → count_below (length (rests (suc r) ns)) (λ x. get_or (rests (suc r) ns) x 0 == suc r + k) ≡ get_or ns k 0) → (j : ℕ) →
    count_below (length (rests (suc r) ns)) (λ x. get_or (rests r (n ∷ ns)) (n + x) 0 == r + j) ≡ theirs ns j
theirs-count r n ns rest zero =
    count-same (length (rests (suc r) ns)) _ (λ x. false) (λ x lt. apart _ _ (λ e. omega (arith, rest-later r n ns x, e, (rests-within (suc r) ns x lt).0)))
    ∙ count-nothing (length (rests (suc r) ns))
theirs-count r n ns rest (suc j) =
    count-same (length (rests (suc r) ns)) _ (λ x. get_or (rests (suc r) ns) x 0 == suc r + j) (λ x lt. let e : r + suc j ≡ suc r + j = omega arith in λ i. rest-later r n ns x i == e i)
    ∙ rest j

-- a region as often as it has objects
pub rests-count : (r : ℕ) (ns : List ℕ) (k : ℕ) → count_below (length (rests r ns)) (λ x. get_or (rests r ns) x 0 == r + k) ≡ get_or ns k 0
rests-count r [] k = sym (get_or_past [] k 0 (omega arith))
rests-count r (n ∷ ns) k =
    ap (λ a. count_below a (λ x. get_or (rests r (n ∷ ns)) x 0 == r + k)) (long-is r n ns)
    ∙ count-sum n (length (rests (suc r) ns)) (λ x. get_or (rests r (n ∷ ns)) x 0 == r + k)
    ∙ (λ i. mine-count r n ns k i + theirs-count r n ns (rests-count (suc r) ns) k i)
    ∙ both n ns k
