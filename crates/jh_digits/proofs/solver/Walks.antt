-- The coordinates of a cell on a walk through the columns of a layer.
use Rattle.std.proofs.Common.{◌≡◌, ℕ, zero, suc, ◌+◌, ◌*◌, ◌-◌, ◌≤◌, ◌<◌, ◌⊎◌, ℤ, List, [], ◌∷◌, Bool, true, false, cond, ◌||◌, eqb, length, get_or, refl, sym, ap, ◌∙◌, inl, inr, ⊎_elim, arith}
use Rattle.std.proofs.lemmas.Bool.{eq-eqb, le-leb, false≢true, cases_lt}
use Rattle.jh_digits.specs.declared.systems.system.System.{System}
use Rattle.jh_digits.specs.declared.solver.space.Step.TheVariants.{Take}
use Rattle.jh_digits.specs.systems.Solution.{entry_of, need_of}
use Rattle.jh_digits.specs.systems.Nodes.{plus, minus, positive, negative, width_of}
use Rattle.jh_digits.specs.systems.Totals.{plus_total, minus_total}
use Rattle.jh_digits.specs.solver.Cells.{row_take, names, after}
use Rattle.jh_digits.proofs.solver.Coordinates.{after_need, after_row}

-- coordinate i after the first j columns, with the digits d, from the coordinates x
abbrev pub walked : System → (ℕ → ℕ) → (ℕ → ℕ) → ℕ → ℕ → ℕ
walked s d x zero i = x i
walked s d x (suc j) i = cond (eqb (d j) 1) (after s (Take j) i (walked s d x j i)) (walked s d x j i)

abbrev pub row_walked : (ℕ → ℤ) → ℕ → (ℕ → ℕ) → ℕ → ℕ → ℕ
row_walked e w d x zero = x
row_walked e w d x (suc j) = cond (eqb (d j) 1) (row_take (e j) w (row_walked e w d x j)) (row_walked e w d x j)

abbrev pub flag_walked : List ℕ → (ℕ → ℕ) → ℕ → ℕ → ℕ
flag_walked need d x zero = x
flag_walked need d x (suc j) = cond (eqb (d j) 1) (cond (names need j) 1 (flag_walked need d x j)) (flag_walked need d x j)

pub walked_need : (s : System) (d x : ℕ → ℕ) (j i : ℕ) → i < length s.needs → walked s d x j i ≡ flag_walked (need_of s i) d (x i) j
walked_need s d x zero i h = refl
walked_need s d x (suc j) i h =
    let r : walked s d x j i ≡ flag_walked (need_of s i) d (x i) j = walked_need s d x j i h in
    let t : after s (Take j) i (walked s d x j i) ≡ cond (names (need_of s i) j) 1 (flag_walked (need_of s i) d (x i) j) = ap (after s (Take j) i) r ∙ after_need s (Take j) i (flag_walked (need_of s i) d (x i) j) h in
    λ k. cond (eqb (d j) 1) (t k) (r k)

pub walked_row : (s : System) (d x : ℕ → ℕ) (j i : ℕ) → length s.needs ≤ i → walked s d x j i ≡ row_walked (entry_of s (i - length s.needs)) (width_of s (i - length s.needs)) d (x i) j
walked_row s d x zero i h = refl
walked_row s d x (suc j) i h =
    let r : walked s d x j i ≡ row_walked (entry_of s (i - length s.needs)) (width_of s (i - length s.needs)) d (x i) j = walked_row s d x j i h in
    let t : after s (Take j) i (walked s d x j i) ≡ row_take (entry_of s (i - length s.needs) j) (width_of s (i - length s.needs)) (row_walked (entry_of s (i - length s.needs)) (width_of s (i - length s.needs)) d (x i) j) = ap (after s (Take j) i) r ∙ after_row s (Take j) i (row_walked (entry_of s (i - length s.needs)) (width_of s (i - length s.needs)) d (x i) j) h in
    λ k. cond (eqb (d j) 1) (t k) (r k)

-- ---- rows

-- digits are 0 or 1
abbrev pub AreDigits : (ℕ → ℕ) → Type 0
AreDigits d = (j : ℕ) → d j ≤ 1

pub digit_cases : (n : ℕ) → n ≤ 1 → (n ≡ 1) ⊎ (n ≡ 0)
digit_cases zero h = inr refl
digit_cases (suc n) h = inl (omega arith)

part_step : (t p a v : ℕ) → t ≤ p → v ≤ 1 → t + a * v ≤ p + a
part_step t p a v h k =
    ⊎_elim
    (λ (e : v ≡ 1). rw e (omega arith))
    (λ (e : v ≡ 0). rw e (omega arith))
    (digit_cases v k)

pub plus_part_of : (e : ℕ → ℤ) (d : ℕ → ℕ) (n : ℕ) → AreDigits d → plus_total e d n ≤ positive e n
plus_part_of e d zero h = omega arith
plus_part_of e d (suc n) h = part_step (plus_total e d n) (positive e n) (plus (e n)) (d n) (plus_part_of e d n h) (h n)

pub minus_part_of : (e : ℕ → ℤ) (d : ℕ → ℕ) (n : ℕ) → AreDigits d → minus_total e d n ≤ negative e n
minus_part_of e d zero h = omega arith
minus_part_of e d (suc n) h = part_step (minus_total e d n) (negative e n) (minus (e n)) (d n) (minus_part_of e d n h) (h n)

pub positive_more : (e : ℕ → ℤ) (j n : ℕ) → j ≤ n → positive e j ≤ positive e n
positive_more e j zero h = let f : j ≡ 0 = omega arith in rw f (omega arith)
positive_more e j (suc n) h =
    ⊎_elim
    (λ (l : j < suc n). omega (arith, positive_more e j n (omega arith)))
    (λ (l : suc n ≤ j). let f : j ≡ suc n = omega arith in rw f (omega arith))
    (cases_lt j (suc n))

pub negative_more : (e : ℕ → ℤ) (j n : ℕ) → j ≤ n → negative e j ≤ negative e n
negative_more e j zero h = let f : j ≡ 0 = omega arith in rw f (omega arith)
negative_more e j (suc n) h =
    ⊎_elim
    (λ (l : j < suc n). omega (arith, negative_more e j n (omega arith)))
    (λ (l : suc n ≤ j). let f : j ≡ suc n = omega arith in rw f (omega arith))
    (cases_lt j (suc n))

pub zero_test : (n : ℕ) → n ≡ 0 → eqb n 1 ≡ false
zero_test n h = rw h refl

take_is : (e : ℤ) (w y : ℕ) → plus e ≤ y + minus e → row_take e w y ≡ y + minus e - plus e
take_is e w y h = rw (le-leb (plus e) (y + minus e) h) refl

taken : (y z a b p m x v : ℕ) → a ≤ y + b → z ≡ y + b - a → y + p ≡ x + m → v ≡ 1 → z + (p + a * v) ≡ x + (m + b * v)
taken y z a b p m x v h e f g = rw g (omega arith)

passed : (y a b p m x v : ℕ) → y + p ≡ x + m → v ≡ 0 → y + (p + a * v) ≡ x + (m + b * v)
passed y a b p m x v f g = rw g (omega arith)

-- a remainder that is not below p at the start of a layer loses what the digits take
pub row_sum : (e : ℕ → ℤ) (w : ℕ) (d : ℕ → ℕ) (x j : ℕ) → AreDigits d → positive e j ≤ x → row_walked e w d x j + plus_total e d j ≡ x + minus_total e d j
row_sum e w d x zero h k = refl
row_sum e w d x (suc j) h k =
    let r : row_walked e w d x j + plus_total e d j ≡ x + minus_total e d j = row_sum e w d x j h (omega arith) in
    let fits : plus (e j) ≤ row_walked e w d x j + minus (e j) = omega (arith, plus_part_of e d j h, k) in
    ⊎_elim
    (λ (l : d j ≡ 1). rw (eq-eqb (d j) 1 l) (taken (row_walked e w d x j) (row_take (e j) w (row_walked e w d x j)) (plus (e j)) (minus (e j)) (plus_total e d j) (minus_total e d j) x (d j) fits (take_is (e j) w (row_walked e w d x j) fits) r l))
    (λ (l : d j ≡ 0). rw (zero_test (d j) l) (passed (row_walked e w d x j) (plus (e j)) (minus (e j)) (plus_total e d j) (minus_total e d j) x (d j) r l))
    (digit_cases (d j) (h j))

-- ---- needs

or_second : (a b : Bool) → b ≡ true → (a || b) ≡ true
or_second true b h = refl
or_second false b h = h

pub names_place : (need : List ℕ) (p j : ℕ) → p < length need → get_or need p 0 ≡ j → names need j ≡ true
names_place [] p j h e = absurd (omega arith)
names_place (c ∷ cs) zero j h e = rw (eq-eqb c j e) refl
names_place (c ∷ cs) (suc p) j h e = or_second (eqb c j) (names cs j) (names_place cs p j (omega arith) e)

-- a digit 1 was at none of the first j columns that the need names
abbrev pub Missed : List ℕ → (ℕ → ℕ) → ℕ → Type 0
Missed need d j = (c : ℕ) → c < j → names need c ≡ true → d c ≡ 0

missed_more : (need : List ℕ) (d : ℕ → ℕ) (j : ℕ) → Missed need d j → (names need j ≡ true → d j ≡ 0) → Missed need d (suc j)
missed_more need d j m here c h t =
    ⊎_elim
    (λ (l : c < j). m c l t)
    (λ (l : j ≤ c). let e : c ≡ j = omega arith in rw e (here (rw e at t)))
    (cases_lt c j)

abbrev pub FlagState : List ℕ → (ℕ → ℕ) → ℕ → ℕ → ℕ → Type 0
FlagState need d x j y = (y ≡ 1) ⊎ ((y ≡ 0) × (x ≡ 0) × Missed need d j)

flag_step : (need : List ℕ) (d : ℕ → ℕ) (x j y : ℕ) (b : Bool) → d j ≡ 1 → names need j ≡ b → FlagState need d x j y → FlagState need d x (suc j) (cond b 1 y)
flag_step need d x j y true e n f = inl refl
flag_step need d x j y false e n f =
    ⊎_elim
    (λ (l : y ≡ 1). inl l)
    (λ (l : (y ≡ 0) × (x ≡ 0) × Missed need d j). inr (l.0, l.1, missed_more need d j l.2 (λ t. absurd (false≢true (sym n ∙ t)))))
    f

flag_pass : (need : List ℕ) (d : ℕ → ℕ) (x j y : ℕ) → d j ≡ 0 → FlagState need d x j y → FlagState need d x (suc j) y
flag_pass need d x j y e f =
    ⊎_elim
    (λ (l : y ≡ 1). inl l)
    (λ (l : (y ≡ 0) × (x ≡ 0) × Missed need d j). inr (l.0, l.1, missed_more need d j l.2 (λ t. e)))
    f

-- a need is met after j columns where it was before, or where one of them that it names has a digit 1
pub flag_state : (need : List ℕ) (d : ℕ → ℕ) (x j : ℕ) → AreDigits d → x ≤ 1 → FlagState need d x j (flag_walked need d x j)
flag_state need d x zero h k =
    ⊎_elim
    (λ (l : x ≡ 1). inl l)
    (λ (l : x ≡ 0). inr (l, l, λ c m. absurd (omega arith)))
    (digit_cases x k)
flag_state need d x (suc j) h k =
    let r = flag_state need d x j h k in
    ⊎_elim
    (λ (l : d j ≡ 1). rw (eq-eqb (d j) 1 l) (flag_step need d x j (flag_walked need d x j) (names need j) l refl r))
    (λ (l : d j ≡ 0). rw (zero_test (d j) l) (flag_pass need d x j (flag_walked need d x j) l r))
    (digit_cases (d j) (h j))
