-- Sums over lists that are made one after the other.
use Rattle.std.proofs.Common.{◌≡◌, refl, ℕ, zero, suc, ◌+◌, ◌*◌, ◌≤◌, ◌<◌, Bool, true, false, List, [], ◌∷◌, ◌++◌, length, get_or, ℤ, pos, negsuc, ◌+ℤ◌, ◌-ℤ◌, ◌*ℤ◌, neg_ℤ, ap, sym, ◌∙◌, arith}
use Rattle.std.proofs.lemmas.List.{length-append}
use Rattle.std.proofs.lemmas.Int.{ints}
use Rattle.std.proofs.Math.IntN.{*ℤ_comm, zero-*ℤ}
use Rattle.jh_digits.specs.solver.Solution.{weighted}
use Rattle.jh_query.specs.queries.Linearity.{whole_sum}
use Rattle.jh_query.proofs.queries.Products.{neg-times, times-add}
use Rattle.jh_bapa.specs.decision.Lists.{dot, listed, pairs, zeros}

pub length-listed : {A : Type 0} (n : ℕ) (f : ℕ → A) → length (listed n f) ≡ n
length-listed zero f = refl
length-listed (suc n) f = length-append (listed n f) (f n ∷ []) ∙ omega (arith, length-listed n f)

pub length-pairs : (n : ℕ) (f : ℕ → ℤ) → length (pairs n f) ≡ 2 * n
length-pairs zero f = refl
length-pairs (suc n) f =
    length-append (pairs n f ++ f n ∷ []) (neg_ℤ (f n) ∷ []) ∙ omega (arith, length-append (pairs n f) (f n ∷ []), length-pairs n f)

pub dot-append : (xs ys : List ℤ) (v : ℕ → ℕ) (k : ℕ) → dot (xs ++ ys) v k ≡ dot xs v k +ℤ dot ys v (k + length xs)
dot-append [] ys v k =
    let same : k + 0 ≡ k = omega arith in
    let there : dot ys v (k + 0) ≡ dot ys v k = ap (dot ys v) same in
    omega (arith, ints, there)
dot-append (x ∷ xs) ys v k =
    let same : suc k + length xs ≡ k + suc (length xs) = omega arith in
    let there : dot ys v (suc k + length xs) ≡ dot ys v (k + suc (length xs)) = ap (dot ys v) same in
    omega (arith, ints, there, dot-append xs ys v (suc k))

-- the numbers matter alone from their place on
pub dot-same : (xs : List ℤ) (v w : ℕ → ℕ) (k l : ℕ) → ((t : ℕ) → t < length xs → v (k + t) ≡ w (l + t)) → dot xs v k ≡ dot xs w l
dot-same [] v w k l h = refl
dot-same (x ∷ xs) v w k l h =
    let first : v k ≡ w l = ap v (zero_more k) ∙ h 0 (omega arith) ∙ ap w (sym (zero_more l)) in
    let rest : dot xs v (suc k) ≡ dot xs w (suc l) = dot-same xs v w (suc k) (suc l) (λ t e. ap v (one_more k t) ∙ h (suc t) (omega arith) ∙ ap w (sym (one_more l t))) in
    λ i. (x *ℤ pos (first i)) +ℤ rest i
  where
    zero_more : (k : ℕ) → k ≡ k + 0
    zero_more k = omega arith

    one_more : (k t : ℕ) → suc k + t ≡ k + suc t
    one_more k t = omega arith

pub dot-listed : (n : ℕ) (f : ℕ → ℤ) (v : ℕ → ℕ) (k : ℕ) → dot (listed n f) v k ≡ whole_sum n (λ r. f r *ℤ pos (v (k + r)))
dot-listed zero f v k = refl
dot-listed (suc n) f v k =
    let there : dot (f n ∷ []) v (k + length (listed n f)) ≡ dot (f n ∷ []) v (k + n) = ap (λ m. dot (f n ∷ []) v (k + m)) (length-listed n f) in
    omega (arith, ints, dot-append (listed n f) (f n ∷ []) v k, there, dot-listed n f v k)

pair_is : (x : ℤ) (a b : ℕ) → (x *ℤ pos a) +ℤ (neg_ℤ x *ℤ pos b) ≡ x *ℤ (pos a -ℤ pos b)
pair_is x a b =
    let turned : pos a -ℤ pos b ≡ pos a +ℤ neg_ℤ (pos b) = omega (arith, ints) in
    let split : x *ℤ (pos a -ℤ pos b) ≡ (x *ℤ pos a) +ℤ (x *ℤ neg_ℤ (pos b)) = ap (λ y. x *ℤ y) turned ∙ times-add x (pos a) (neg_ℤ (pos b)) in
    let under : x *ℤ neg_ℤ (pos b) ≡ neg_ℤ (x *ℤ pos b) = *ℤ_comm x (neg_ℤ (pos b)) ∙ neg-times (pos b) x ∙ ap neg_ℤ (*ℤ_comm (pos b) x) in
    let other : neg_ℤ x *ℤ pos b ≡ neg_ℤ (x *ℤ pos b) = neg-times x (pos b) in
    omega (arith, ints, split, under, other)

pub dot-pairs : (n : ℕ) (f : ℕ → ℤ) (v : ℕ → ℕ) (k : ℕ) → dot (pairs n f) v k ≡ whole_sum n (λ l. f l *ℤ (pos (v (k + 2 * l)) -ℤ pos (v (k + (2 * l + 1)))))
dot-pairs zero f v k = refl
dot-pairs (suc n) f v k =
    let size : length (pairs n f ++ f n ∷ []) ≡ 2 * n + 1 = length-append (pairs n f) (f n ∷ []) ∙ omega (arith, length-pairs n f) in
    let first : dot (f n ∷ []) v (k + length (pairs n f)) ≡ dot (f n ∷ []) v (k + 2 * n) = ap (λ m. dot (f n ∷ []) v (k + m)) (length-pairs n f) in
    let second : dot (neg_ℤ (f n) ∷ []) v (k + length (pairs n f ++ f n ∷ [])) ≡ dot (neg_ℤ (f n) ∷ []) v (k + (2 * n + 1)) = ap (λ m. dot (neg_ℤ (f n) ∷ []) v (k + m)) size in
    omega (
      arith,
      ints,
      dot-append (pairs n f ++ f n ∷ []) (neg_ℤ (f n) ∷ []) v k,
      dot-append (pairs n f) (f n ∷ []) v k,
      first,
      second,
      dot-pairs n f v k,
      pair_is (f n) (v (k + 2 * n)) (v (k + (2 * n + 1))),
    )

pub dot-zeros : (n : ℕ) (v : ℕ → ℕ) (k : ℕ) → dot (zeros n) v k ≡ pos 0
dot-zeros zero v k = refl
dot-zeros (suc n) v k =
    omega (arith, ints, dot-append (zeros n) (pos 0 ∷ []) v k, dot-zeros n v k, zero-*ℤ (pos (v (k + length (zeros n)))))

pub sum-same : (n : ℕ) (f g : ℕ → ℤ) → ((i : ℕ) → i < n → f i ≡ g i) → whole_sum n f ≡ whole_sum n g
sum-same zero f g h = refl
sum-same (suc n) f g h = λ i. sum-same n f g (λ j e. h j (omega arith)) i +ℤ h n (omega arith) i

pub weighted-same : (n : ℕ) (e f : ℕ → ℤ) (v : ℕ → ℕ) → ((j : ℕ) → j < n → e j ≡ f j) → weighted e v n ≡ weighted f v n
weighted-same zero e f v h = refl
weighted-same (suc n) e f v h = λ i. weighted-same n e f v (λ j k. h j (omega arith)) i +ℤ (h n (omega arith) i *ℤ pos (v n))

-- the sum that a system asks for, from the front
weighted_front : (n : ℕ) (e : ℕ → ℤ) (v : ℕ → ℕ) (k : ℕ) → weighted (λ j. e (k + j)) (λ j. v (k + j)) (suc n) ≡ (e (k + 0) *ℤ pos (v (k + 0))) +ℤ weighted (λ j. e (k + suc j)) (λ j. v (k + suc j)) n
weighted_front zero e v k = omega (arith, ints)
weighted_front (suc n) e v k = omega (arith, ints, weighted_front n e v k)

weighted_from : (xs : List ℤ) (v : ℕ → ℕ) (k : ℕ) (e : ℕ → ℤ) → ((j : ℕ) → j < length xs → e (k + j) ≡ get_or xs j (pos 0)) → weighted (λ j. e (k + j)) (λ j. v (k + j)) (length xs) ≡ dot xs v k
weighted_from [] v k e h = refl
weighted_from (x ∷ xs) v k e h =
    let first : e (k + 0) ≡ x = h 0 (omega arith) in
    let here : v (k + 0) ≡ v k = ap v (zero_more k) in
    let product : e (k + 0) *ℤ pos (v (k + 0)) ≡ x *ℤ pos (v k) = λ i. first i *ℤ pos (here i) in
    let moved : weighted (λ j. e (k + suc j)) (λ j. v (k + suc j)) (length xs) ≡ weighted (λ j. e (suc k + j)) (λ j. v (suc k + j)) (length xs) = λ i. weighted (λ j. e (one_more k j i)) (λ j. v (one_more k j i)) (length xs) in
    let rest : weighted (λ j. e (suc k + j)) (λ j. v (suc k + j)) (length xs) ≡ dot xs v (suc k) = weighted_from xs v (suc k) e (λ j l. ap e (sym (one_more k j)) ∙ h (suc j) (omega arith)) in
    omega (arith, ints, weighted_front (length xs) e v k, product, moved, rest)
  where
    zero_more : (k : ℕ) → k + 0 ≡ k
    zero_more k = omega arith

    one_more : (k j : ℕ) → k + suc j ≡ suc k + j
    one_more k j = omega arith

pub weighted-dot : (xs : List ℤ) (v : ℕ → ℕ) (e : ℕ → ℤ) → ((j : ℕ) → j < length xs → e j ≡ get_or xs j (pos 0)) → weighted e v (length xs) ≡ dot xs v 0
weighted-dot xs v e h =
    (λ i. weighted (λ j. e (from_zero j i)) (λ j. v (from_zero j i)) (length xs)) ∙ weighted_from xs v 0 e (λ j l. ap e (sym (from_zero j)) ∙ h j l)
  where
    from_zero : (j : ℕ) → j ≡ 0 + j
    from_zero j = omega arith
