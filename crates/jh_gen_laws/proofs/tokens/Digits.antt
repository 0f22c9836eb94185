-- Decimal digits.
use Rattle.std.proofs.Common.{◌≡◌, ℕ, ◌+◌, ◌<◌, ◌≤◌, true, not, ◌&&◌, ◌==◌, List, [], ◌∷◌, decimal, refl, ap, ◌∙◌, arith}
use Rattle.std.specs.List.{list_all}
use Rattle.std.specs.Char.{is_ascii_digit, is_ascii_alphanumeric, digit_value}
use Rattle.std.specs.Str.Parse.{AllDigits}
use Rattle.std.proofs.lemmas.Bool.{and_from, or_left, ne_eqb, le-leb}
use Rattle.std.proofs.lemmas.Fmt.{decimal_is_IsNumeral, decimal_digit}
use Rattle.std.proofs.lemmas.Str.Parse.{digit_from_value}

-- a character between 48 and 57
pub digit_test : (c : ℕ) → digit_value c < 10 → is_ascii_digit c ≡ true
digit_test c h = let r = digit_from_value c h in and_from _ _ (le-leb 48 c (omega arith)) (le-leb c 57 (omega arith))

pub digit_alphanumeric : (c : ℕ) → digit_value c < 10 → is_ascii_alphanumeric c ≡ true
digit_alphanumeric c h = or_left _ _ (or_left _ _ (digit_test c h))

all_alphanumeric : (ds : List ℕ) → AllDigits 10 ds → list_all is_ascii_alphanumeric ds ≡ true
all_alphanumeric [] h = refl
all_alphanumeric (c ∷ cs) h = and_from _ _ (digit_alphanumeric c h.0) (all_alphanumeric cs h.1)

pub decimal_alphanumeric : (n : ℕ) → n ≤ 200 → list_all is_ascii_alphanumeric (decimal n) ≡ true
decimal_alphanumeric n h = all_alphanumeric (decimal n) (decimal_is_IsNumeral n (omega arith)).0.1

-- the digit of a small number isn't a certain other character
pub digit_other : (k c : ℕ) → k < 10 → c < 48 → list_all (λ d. not (d == c)) (decimal k) ≡ true
digit_other k c h l = ap (list_all (λ d. not (d == c))) (decimal_digit k h) ∙ ap (λ b. not b && true) (ne_eqb (48 + k) c (λ e. omega (arith, e)))
