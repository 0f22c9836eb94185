-- Pairs, lists and whole numbers as natural numbers.
use Rattle.std.proofs.Common.{◌≡◌, refl, sym, ap, ◌∙◌, ℕ, zero, suc, ◌+◌, ◌-◌, ◌≤◌, ℤ, pos, negsuc, List, [], ◌∷◌, arith}
use Rattle.jh_cong.specs.flattening.Plain.{plus, minus}

-- the next pair: along a diagonal, and then to the next one
abbrev next : ℕ × ℕ → ℕ × ℕ
next (x, zero) = (zero, suc x)
next (x, suc y) = (suc x, y)

abbrev unpaired : ℕ → ℕ × ℕ
unpaired zero = (zero, zero)
unpaired (suc n) = next (unpaired n)

abbrev diagonal : ℕ → ℕ
diagonal zero = zero
diagonal (suc n) = suc (diagonal n + n)

-- a pair as a number, and its parts
abbrev pub pair : ℕ → ℕ → ℕ
pair x y = diagonal (x + y) + x

abbrev pub first : ℕ → ℕ
first p = (unpaired p).0

abbrev pub second : ℕ → ℕ
second p = (unpaired p).1

along : (n : ℕ) → unpaired (diagonal n) ≡ (zero, n) → (x y : ℕ) → x + y ≡ n → unpaired (diagonal n + x) ≡ (x, y)
along n start zero y h =
    let a : diagonal n + zero ≡ diagonal n = omega arith in
    let b : n ≡ y = omega (arith, h) in
    ap unpaired a ∙ (start ∙ ap (λ z. (zero, z)) b)
along n start (suc x) y h =
    let a : diagonal n + suc x ≡ suc (diagonal n + x) = omega arith in
    ap unpaired a ∙ ap next (along n start x (suc y) (omega (arith, h)))

diagonal-start : (n : ℕ) → unpaired (diagonal n) ≡ (zero, n)
diagonal-start zero = refl
diagonal-start (suc n) = ap next (along n (diagonal-start n) n 0 (omega arith))

pub unpaired-pair : (x y : ℕ) → unpaired (pair x y) ≡ (x, y)
unpaired-pair x y = along (x + y) (diagonal-start (x + y)) x y refl

pub first-pair : (x y : ℕ) → first (pair x y) ≡ x
first-pair x y = ap (λ (p : ℕ × ℕ). p.0) (unpaired-pair x y)

pub second-pair : (x y : ℕ) → second (pair x y) ≡ y
second-pair x y = ap (λ (p : ℕ × ℕ). p.1) (unpaired-pair x y)

pub pair-first : (x y v w : ℕ) → pair x y ≡ pair v w → x ≡ v
pair-first x y v w e = sym (first-pair x y) ∙ (ap first e ∙ first-pair v w)

pub pair-second : (x y v w : ℕ) → pair x y ≡ pair v w → y ≡ w
pair-second x y v w e = sym (second-pair x y) ∙ (ap second e ∙ second-pair v w)

diagonal-grows : (n : ℕ) → n ≤ diagonal n
diagonal-grows zero = omega arith
diagonal-grows (suc n) = omega arith

pub second-small : (x y : ℕ) → y ≤ pair x y
second-small x y = let h : x + y ≤ diagonal (x + y) = diagonal-grows (x + y) in omega (arith, h)

-- a list as a number
abbrev pub list_code : List ℕ → ℕ
list_code [] = zero
list_code (x ∷ xs) = suc (pair x (list_code xs))

abbrev unlisted_in : ℕ → ℕ → List ℕ
unlisted_in zero k = []
unlisted_in (suc room) zero = []
unlisted_in (suc room) (suc k) = first k ∷ unlisted_in room (second k)

-- the list of a number
abbrev pub unlisted : ℕ → List ℕ
unlisted k = unlisted_in k k

listed-back : (room : ℕ) (xs : List ℕ) → list_code xs ≤ room → unlisted_in room (list_code xs) ≡ xs
listed-back zero [] h = refl
listed-back (suc room) [] h = refl
listed-back zero (x ∷ xs) h = absurd (omega (arith, h))
listed-back (suc room) (x ∷ xs) h =
    let small : list_code xs ≤ pair x (list_code xs) = second-small x (list_code xs) in
    let rest : unlisted_in room (second (pair x (list_code xs))) ≡ xs = ap (unlisted_in room) (second-pair x (list_code xs)) ∙ listed-back room xs (omega (arith, h, small)) in
    λ i. first-pair x (list_code xs) i ∷ rest i

pub unlisted-code : (xs : List ℕ) → unlisted (list_code xs) ≡ xs
unlisted-code xs = listed-back (list_code xs) xs (omega arith)

-- a whole number as a natural one, and back
abbrev pub int_code : ℤ → ℕ
int_code z = pair (plus z) (minus z)

abbrev signed : ℕ → ℕ → ℤ
signed k zero = pos k
signed k (suc m) = negsuc m

abbrev pub decoded : ℕ → ℤ
decoded k = signed (first k) (second k)

signed-back : (z : ℤ) → signed (plus z) (minus z) ≡ z
signed-back (pos k) = refl
signed-back (negsuc k) = refl

pub decoded-code : (z : ℤ) → decoded (int_code z) ≡ z
decoded-code z = (λ i. signed (first-pair (plus z) (minus z) i) (second-pair (plus z) (minus z) i)) ∙ signed-back z

pub code-one : (y z : ℤ) → int_code y ≡ int_code z → y ≡ z
code-one y z e = sym (decoded-code y) ∙ (ap decoded e ∙ decoded-code z)
