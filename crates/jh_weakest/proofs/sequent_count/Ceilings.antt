-- Sums and products that stay at the greatest count.
use Rattle.std.proofs.Common.{◌≡◌, ℕ, zero, suc, ◌+◌, ◌*◌, ◌^◌, ◌≤◌, ◌<◌, min, refl, sym, ap, ◌∙◌, ⊎_elim, arith}
use Rattle.std.proofs.lemmas.Bool.{cases_lt}
use Rattle.std.proofs.Math.Nat.{mul-le-mul_left}
use Rattle.jh_seq.specs.counting.Goals.{capped, count_max}

le_times : (a b : ℕ) → 1 ≤ b → a ≤ a * b
le_times a b h = omega (arith, mul-le-mul_left a h)

-- the first factor may stay at m already
first_stays : (a b m : ℕ) → min (min a m * b) m ≡ min (a * b) m
first_stays a zero m = omega arith
first_stays a (suc b) m =
    let some : 1 ≤ suc b = omega arith in
    let times : m ≤ m * suc b = le_times m (suc b) some in
    let more : a ≤ a * suc b = le_times a (suc b) some in
    ⊎_elim
    (λ (k : a < m). let e : min a m ≡ a = omega arith in rw e refl)
    (λ (k : m ≤ a). let e : min a m ≡ m = omega arith in rw e (omega arith))
    (cases_lt a m)

sum_same : (x y u v m : ℕ) → min x m ≡ min y m → min u m ≡ min v m → min (x + u) m ≡ min (y + v) m
sum_same x y u v m e f = omega arith

-- sums of what is the same but for the greatest count
pub sum-capped : (x y u v : ℕ) → capped x ≡ capped y → capped u ≡ capped v → capped (x + u) ≡ capped (y + v)
sum-capped x y u v e f = sum_same x y u v count_max e f

pub times-capped : (x y z : ℕ) → capped x ≡ capped y → capped (x * z) ≡ capped (y * z)
times-capped x y z e = sym (first_stays x z count_max) ∙ ap (λ n. capped (n * z)) e ∙ first_stays y z count_max

twice_min : (x m : ℕ) → min (min x m) m ≡ min x m
twice_min x m = omega arith

pub capped-twice : (x : ℕ) → capped (capped x) ≡ capped x
capped-twice x = twice_min x count_max

pub is-capped : (r x : ℕ) → r ≡ capped x → capped r ≡ capped x
is-capped r x e = ap capped e ∙ capped-twice x

-- one summand after another
pub added-twice : (first second start o a b : ℕ) → capped first ≡ capped (start + o * a) → capped second ≡ capped (first + o * b) → capped second ≡ capped (start + o * (a + b))
added-twice first second start o a b e f =
    let grouped : (start + o * a) + o * b ≡ start + o * (a + b) = omega arith in
    f ∙ sum-capped first (start + o * a) (o * b) (o * b) e refl ∙ ap capped grouped

-- what is added to the part that hangs on no name
pub added-fixed : (old new shares n m : ℕ) → new ≡ capped (old + n) → capped n ≡ capped m → capped (new + shares) ≡ capped ((old + shares) + m)
added-fixed old new shares n m e f =
    let grouped : (old + n) + shares ≡ (old + shares) + n = omega arith in
    sum-capped new (old + n) shares shares (is-capped new (old + n) e) refl ∙ ap capped grouped ∙ sum-capped (old + shares) (old + shares) n m refl f

pub once : (n : ℕ) → capped n ≡ capped (n * 1)
once n = let same : n ≡ n * 1 = omega arith in ap capped same

pub never : (start n : ℕ) → capped start ≡ capped (start + n * 0)
never start n = let same : start ≡ start + n * 0 = omega arith in ap capped same

-- a product whose second factor stays at the greatest count
pub factor-capped : (p o r n : ℕ) → p ≡ capped (o * r) → r ≡ capped n → capped p ≡ capped (o * n)
factor-capped p o r n e f =
    let turned : o * r ≡ r * o = omega arith in
    let back : n * o ≡ o * n = omega arith in
    is-capped p (o * r) e ∙ ap capped turned ∙ times-capped r n o (is-capped r n f) ∙ ap capped back

-- two tallies that are joined, share by share
pub join-start : (fixed shares more others sum : ℕ) → sum ≡ capped (fixed + more) → capped ((fixed + shares) + (more + others)) ≡ capped ((sum + shares) + others)
join-start fixed shares more others sum e =
    let before : (fixed + shares) + (more + others) ≡ (fixed + more) + (shares + others) = omega arith in
    let after : sum + (shares + others) ≡ (sum + shares) + others = omega arith in
    ap capped before ∙ sum-capped (fixed + more) sum (shares + others) (shares + others) (sym (is-capped sum (fixed + more) e)) refl ∙ ap capped after

pub join-step : (tally new share rest : ℕ) → capped new ≡ capped (tally + share) → capped (tally + (share + rest)) ≡ capped (new + rest)
join-step tally new share rest e =
    let grouped : tally + (share + rest) ≡ (tally + share) + rest = omega arith in
    ap capped grouped ∙ sum-capped (tally + share) new rest rest (sym e) refl

-- a count that fits is not capped
fitting : (n m : ℕ) → n ≤ m → min n m ≡ n
fitting n m h = omega arith

pub total-end : (n x : ℕ) → n < 2 ^ 128 → capped x ≡ capped (n + 0) → n ≡ capped x
total-end n x h e =
    let le : n ≤ count_max = omega (arith, h) in
    let same : n + 0 ≡ n = omega arith in
    sym (e ∙ ap capped same ∙ fitting n count_max le)
