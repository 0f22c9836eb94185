-- A number is a sum over the rests of regions and over numbers.
use Rattle.std.proofs.Common.{◌≡◌, refl, ℕ, zero, suc, ◌==◌, ◌<◌, ◌≤◌, Bool, true, false, if◌then◌else◌, List, length, get_or, ℤ, pos, negsuc, ◌+ℤ◌, ◌-ℤ◌, ◌*ℤ◌, neg_ℤ, ap, sym, ◌∙◌, ⊎_elim, arith}
use Rattle.std.proofs.lemmas.Int.{ints}
use Rattle.std.proofs.lemmas.Bool.{cases_lt, eq-eqb}
use Rattle.std.proofs.lemmas.List.{get_or_past}
use Rattle.std.proofs.Math.IntN.{zero-*ℤ, *ℤ-zero}
use Rattle.jh_query.specs.queries.Tree.{NumTree, SetExprTree}
use Rattle.jh_query.specs.queries.Tree as t
use Rattle.jh_query.specs.queries.Sizing.{Sizing}
use Rattle.jh_query.specs.queries.Truth.{read_number, rest_of, rest_lies, sum_below}
use Rattle.jh_query.specs.queries.Linear.{rest_factor, number_factor, placed_part}
use Rattle.jh_query.specs.queries.Linearity.{whole_sum, IsLinear}
use Rattle.jh_query.proofs.queries.Products.{add-times, times-add, neg-times, times-times}

-- sums of products of which the first factors are 0, sums, differences, negated or multiplied
nought_sum : (n : ℕ) (w : ℕ → ℤ) → whole_sum n (λ i. pos 0 *ℤ w i) ≡ pos 0
nought_sum zero w = refl
nought_sum (suc n) w = let none : pos 0 *ℤ w n ≡ pos 0 = zero-*ℤ (w n) in omega (arith, ints, nought_sum n w, none)

add_sum : (n : ℕ) (f g w : ℕ → ℤ) → whole_sum n (λ i. (f i +ℤ g i) *ℤ w i) ≡ whole_sum n (λ i. f i *ℤ w i) +ℤ whole_sum n (λ i. g i *ℤ w i)
add_sum zero f g w = refl
add_sum (suc n) f g w = omega (arith, ints, add_sum n f g w, add-times (f n) (g n) (w n))

neg_sum : (n : ℕ) (f w : ℕ → ℤ) → whole_sum n (λ i. neg_ℤ (f i) *ℤ w i) ≡ neg_ℤ (whole_sum n (λ i. f i *ℤ w i))
neg_sum zero f w = refl
neg_sum (suc n) f w = omega (arith, ints, neg_sum n f w, neg-times (f n) (w n))

sub_times : (a b c : ℤ) → (a -ℤ b) *ℤ c ≡ (a *ℤ c) -ℤ (b *ℤ c)
sub_times a b c =
    let turned : a -ℤ b ≡ a +ℤ neg_ℤ b = omega (arith, ints) in
    let split : (a -ℤ b) *ℤ c ≡ (a *ℤ c) +ℤ (neg_ℤ b *ℤ c) = ap (λ x. x *ℤ c) turned ∙ add-times a (neg_ℤ b) c in
    omega (arith, ints, split, neg-times b c)

sub_sum : (n : ℕ) (f g w : ℕ → ℤ) → whole_sum n (λ i. (f i -ℤ g i) *ℤ w i) ≡ whole_sum n (λ i. f i *ℤ w i) -ℤ whole_sum n (λ i. g i *ℤ w i)
sub_sum zero f g w = refl
sub_sum (suc n) f g w = omega (arith, ints, sub_sum n f g w, sub_times (f n) (g n) (w n))

scale_sum : (n : ℕ) (k : ℤ) (f w : ℕ → ℤ) → whole_sum n (λ i. (k *ℤ f i) *ℤ w i) ≡ k *ℤ whole_sum n (λ i. f i *ℤ w i)
scale_sum zero k f w = sym (*ℤ-zero k)
scale_sum (suc n) k f w = omega (arith, ints, scale_sum n k f w, times-times k (f n) (w n), times-add k (whole_sum n (λ i. f i *ℤ w i)) (f n *ℤ w n))

-- the rests inside a set
rest_term : (b : Bool) (x : ℕ) → (if b then pos 1 else pos 0) *ℤ pos x ≡ pos (if b then x else 0)
rest_term true x = omega (arith, ints)
rest_term false x = omega (arith, ints)

rest_sum : (n : ℕ) (inside : ℕ → Bool) (rest : ℕ → ℕ) → whole_sum n (λ r. (if inside r then pos 1 else pos 0) *ℤ pos (rest r)) ≡ pos (sum_below n (λ r. if inside r then rest r else 0))
rest_sum zero inside rest = refl
rest_sum (suc n) inside rest = omega (arith, ints, rest_sum n inside rest, rest_term (inside n) (rest n))

-- one of the numbers
pick_sum : (n j : ℕ) (w : ℕ → ℤ) → n ≤ j → whole_sum n (λ l. (if j == l then pos 1 else pos 0) *ℤ w l) ≡ pos 0
pick_sum zero j w h = refl
pick_sum (suc n) j w h =
    let other : (j == n) ≡ false = grind arith in
    let none : (if j == n then pos 1 else pos 0) *ℤ w n ≡ pos 0 = rw other (zero-*ℤ (w n)) in
    omega (arith, ints, pick_sum n j w (omega arith), none)

once : (x : ℤ) → pos 1 *ℤ x ≡ x
once (pos n) = omega (arith, ints)
once (negsuc n) = omega (arith, ints)

one_number : (n j : ℕ) (w : ℕ → ℤ) → j < n → whole_sum n (λ l. (if j == l then pos 1 else pos 0) *ℤ w l) ≡ w j
one_number zero j w h = absurd (omega arith)
one_number (suc n) j w h =
    ⊎_elim
    (λ (k : j < n).
    let other : (j == n) ≡ false = grind arith in
    let none : (if j == n then pos 1 else pos 0) *ℤ w n ≡ pos 0 = rw other (zero-*ℤ (w n)) in
    omega (arith, ints, one_number n j w k, none))
    (λ (k : n ≤ j).
    let same : j ≡ n = omega arith in
    let here : (j == n) ≡ true = eq-eqb j n same in
    let one : (if j == n then pos 1 else pos 0) *ℤ w n ≡ w j = rw (here, same) (once (w n)) in
    omega (arith, ints, pick_sum n j w k, one))
    (cases_lt j n)

-- a number that is one of the numbers, or 0 where there is no such number
picked_number : (numbers : List ℤ) (j : ℕ) → whole_sum (length numbers) (λ l. (if j == l then pos 1 else pos 0) *ℤ get_or numbers l (pos 0)) ≡ get_or numbers j (pos 0)
picked_number numbers j =
    ⊎_elim
    (λ (k : j < length numbers). one_number (length numbers) j (λ l. get_or numbers l (pos 0)) k)
    (λ (k : length numbers ≤ j). pick_sum (length numbers) j (λ l. get_or numbers l (pos 0)) k ∙ sym (get_or_past numbers j (pos 0) k))
    (cases_lt j (length numbers))

pub linear : (z : Sizing) (a : NumTree) → IsLinear z a
linear z (t.const c) = omega (arith, ints, nought_sum (length z.rest) (λ r. pos (rest_of z r)), nought_sum (length z.numbers) (λ l. get_or z.numbers l (pos 0)))
linear z (t.number j) = omega (arith, ints, nought_sum (length z.rest) (λ r. pos (rest_of z r)), picked_number z.numbers j)
linear z (t.add a b) =
    omega (
      arith,
      ints,
      linear z a,
      linear z b,
      add_sum (length z.rest) (λ r. read_number (rest_factor r) a) (λ r. read_number (rest_factor r) b) (λ r. pos (rest_of z r)),
      add_sum (length z.numbers) (λ l. read_number (number_factor l) a) (λ l. read_number (number_factor l) b) (λ l. get_or z.numbers l (pos 0)),
    )
linear z (t.sub a b) =
    omega (
      arith,
      ints,
      linear z a,
      linear z b,
      sub_sum (length z.rest) (λ r. read_number (rest_factor r) a) (λ r. read_number (rest_factor r) b) (λ r. pos (rest_of z r)),
      sub_sum (length z.numbers) (λ l. read_number (number_factor l) a) (λ l. read_number (number_factor l) b) (λ l. get_or z.numbers l (pos 0)),
    )
linear z (t.neg a) =
    omega (
      arith,
      ints,
      linear z a,
      neg_sum (length z.rest) (λ r. read_number (rest_factor r) a) (λ r. pos (rest_of z r)),
      neg_sum (length z.numbers) (λ l. read_number (number_factor l) a) (λ l. get_or z.numbers l (pos 0)),
    )
linear z (t.scale k a) =
    let rests = whole_sum (length z.rest) (λ r. read_number (rest_factor r) a *ℤ pos (rest_of z r)) in
    let numbers = whole_sum (length z.numbers) (λ l. read_number (number_factor l) a *ℤ get_or z.numbers l (pos 0)) in
    ap (λ x. k *ℤ x) (linear z a) ∙ times-add k (rests +ℤ numbers) (read_number (placed_part z.spots) a)
    ∙ ap (λ x. x +ℤ (k *ℤ read_number (placed_part z.spots) a))
    (times-add k rests numbers
    ∙ ap (λ x. x +ℤ (k *ℤ numbers)) (sym (scale_sum (length z.rest) k (λ r. read_number (rest_factor r) a) (λ r. pos (rest_of z r))))
    ∙ ap (λ x. whole_sum (length z.rest) (λ r. (k *ℤ read_number (rest_factor r) a) *ℤ pos (rest_of z r)) +ℤ x)
    (sym (scale_sum (length z.numbers) k (λ l. read_number (number_factor l) a) (λ l. get_or z.numbers l (pos 0)))))
linear z (t.card s) =
    omega (arith, ints, rest_sum (length z.rest) (λ r. rest_lies r s) (rest_of z), nought_sum (length z.numbers) (λ l. get_or z.numbers l (pos 0)))
