-- What digits write, and limits of numbers.
use Rattle.std.proofs.Common.{◌≡◌, ◌≤◌, ◌<◌, ◌^◌, ◌∙◌, ◌&&◌, refl, sym, ap, ℕ, ◌==◌, Bool, true, false, List, [], ◌∷◌, length, Option, Some, None, arith}
use Rattle.std.specs.Prelude.{MatchOption, nat_le, if◌then◌else◌}
use Rattle.std.specs.Char.{digit_value}
use Rattle.std.specs.Str.Parse.{AllDigits, IsNumeral, digits_value, without_leading_plus}
use Rattle.std.proofs.Math.Nat.{pow-le-pow_right}
use Rattle.std.proofs.lemmas.Bool.Decides.{nat_tests}
use Rattle.std.proofs.lemmas.Int.Digits.{digits_value-lt}
use Rattle.jh_arguments.specs.Arguments.{Setting, are_digits, is_digit, is_number, number_in, number_within}

first-of : (a b : Bool) → (a && b) ≡ true → a ≡ true
first-of true b h = refl
first-of false b h = cc

second-of : (a b : Bool) → (a && b) ≡ true → b ≡ true
second-of true b h = h
second-of false b h = cc

digit-value : (b : ℕ) → is_digit b ≡ true → digit_value b < 10
digit-value b h = grind (arith, nat_tests)

all-digits : (w : List ℕ) → are_digits w ≡ true → AllDigits 10 w
all-digits [] h = tt
all-digits (b ∷ bs) h = (digit-value b (first-of (is_digit b) (are_digits bs) h), all-digits bs (second-of (is_digit b) (are_digits bs) h))

digits-of : (w : List ℕ) → is_number w ≡ true → are_digits w ≡ true
digits-of w h = second-of (nat_le (length w) 18) (are_digits w) (second-of (nat_le 1 (length w)) (nat_le (length w) 18 && are_digits w) h)

no-sign : (b : ℕ) → is_digit b ≡ true → (b == 43) ≡ false
no-sign b h = grind (arith, nat_tests)

-- a number has no sign
pub no-plus : (w : List ℕ) → is_number w ≡ true → without_leading_plus w ≡ w
no-plus [] h = cc
no-plus (b ∷ bs) h = rw (no-sign b (first-of (is_digit b) (are_digits bs) (digits-of (b ∷ bs) h))) refl

pub is-numeral : (w : List ℕ) → is_number w ≡ true → IsNumeral 10 w
is-numeral [] h = cc
is-numeral (b ∷ bs) h = (omega arith, all-digits (b ∷ bs) (digits-of (b ∷ bs) h))

-- a number beyond the limits is none
and-false : (a b : Bool) → b ≡ false → (a && b) ≡ false
and-false true b h = h
and-false false b h = refl

over : (n m : ℕ) → m < n → nat_le n m ≡ false
over n m h = grind (arith, nat_tests)

pub beyond : (s : Setting) (n : ℕ) → s.most < n → None ≡ number_within s n
beyond s n h = ap (λ (b : Bool). if b then Some n else None) (sym (and-false (nat_le s.least n) (nat_le n s.most) (over n s.most h)))

-- what is within the limits is at most the greatest
at-most : (n m : ℕ) → nat_le n m ≡ true → n ≤ m
at-most n m h = grind (arith, nat_tests)

given : (b : Bool) (n m : ℕ) → ◌≡◌ {A = Option ℕ} (if b then Some n else None) (Some m) → (b ≡ true) × (n ≡ m)
given true n m h = (refl, cc)
given false n m h = cc

-- a number has 64 bits
short-of : (w : List ℕ) → is_number w ≡ true → length w ≤ 18
short-of w h = at-most (length w) 18 (first-of (nat_le (length w) 18) (are_digits w) (second-of (nat_le 1 (length w)) (nat_le (length w) 18 && are_digits w) h))

below-word : (w : List ℕ) → is_number w ≡ true → digits_value 10 w < 2 ^ 64
below-word w h =
    let low : digits_value 10 w < 10 ^ length w = digits_value-lt 10 w (all-digits w (digits-of w h)) in
    let high : 10 ^ length w ≤ 10 ^ 18 = pow-le-pow_right (omega arith) (short-of w h) in
    omega (arith, low, high)

pub number-is : (w : List ℕ) (o : Option ℕ) → is_number w ≡ true → MatchOption o (2 ^ 64 ≤ digits_value 10 w) (λ n. n ≡ digits_value 10 w) → o ≡ number_in w
number-is w None h m = absurd (omega (arith, m, below-word w h))
number-is w (Some n) h m = ap (λ (k : ℕ). Some k) m ∙ ap (λ (b : Bool). if b then Some (digits_value 10 w) else None) (sym h)
