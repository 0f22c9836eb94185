-- Places behind characters, and that they stay within 32 bits.
use Rattle.std.proofs.Common.{◌≡◌, ℕ, zero, suc, ◌+◌, ◌<◌, ◌^◌, Bool, true, false, cond, eqb, List, [], ◌∷◌, ◌++◌, length, take, drop, get_or, refl, ap, ◌∙◌, subst, arith}
use Rattle.std.specs.Char.{len_utf8}
use Rattle.std.proofs.lemmas.List.{take_more, drop_more}
use Rattle.std.proofs.lemmas.List.Sums.{sum_by-cons}
use Rattle.std.proofs.lemmas.Str.{len_utf8_bounds}
use Rattle.jh_name.specs.declared.place.Place.{Place}
use Rattle.jh_lex.specs.lexer.Places.{after, after_character, IsShort}

pub after-append : (p : Place) (xs ys : List ℕ) → after p (xs ++ ys) ≡ after (after p xs) ys
after-append p [] ys = refl
after-append p (x ∷ xs) ys = after-append (after_character p x) xs ys

-- one character more
pub after_more : (p : Place) (xs : List ℕ) (i : ℕ) → i < length xs → after p (take (i + 1) xs) ≡ after_character (after p (take i xs)) (get_or xs i 0)
after_more p xs i h = ap (after p) (take_more xs i 0 h) ∙ after-append p (take i xs) (get_or xs i 0 ∷ [])

short_behind : (b : Bool) (p : Place) (c : ℕ) (cs : List ℕ) → IsShort p (c ∷ cs) → IsShort (cond b (record { line = p.line + 1; column = 1 }) (record { line = p.line; column = p.column + len_utf8 c })) cs
short_behind true p c cs s = record { line = omega arith; column = omega arith; bytes = omega (arith, s.bytes, s.column, sum_by-cons len_utf8 c cs, (len_utf8_bounds c).0) }
short_behind false p c cs s = record { line = s.line; column = omega (arith, s.column); bytes = omega (arith, s.bytes, sum_by-cons len_utf8 c cs) }

-- behind the first character
short_tail : (p : Place) (c : ℕ) (cs : List ℕ) → IsShort p (c ∷ cs) → IsShort (after_character p c) cs
short_tail p c cs s = short_behind (eqb c 10) p c cs s

-- behind any of its characters
pub short_rest : (p : Place) (cs : List ℕ) (n : ℕ) → IsShort p cs → IsShort (after p (take n cs)) (drop n cs)
short_rest p cs zero s = s
short_rest p [] (suc n) s = s
short_rest p (c ∷ cs) (suc n) s = short_rest (after_character p c) cs n (short_tail p c cs s)

-- the next place is within 32 bits
pub record StepFits (p : Place) (c : ℕ) : Type 0 where
  pub line : p.line + 1 < 2 ^ 32
  pub column : p.column + len_utf8 c < 2 ^ 32

step_fits : (p : Place) (c : ℕ) (cs : List ℕ) → IsShort p (c ∷ cs) → StepFits p c
step_fits p c cs s = record { line = omega (arith, s.bytes, s.column, sum_by-cons len_utf8 c cs, (len_utf8_bounds c).0); column = omega (arith, s.bytes, s.line, sum_by-cons len_utf8 c cs) }

pub step_fits_at : (p : Place) (cs : List ℕ) (i : ℕ) → IsShort p cs → i < length cs → StepFits (after p (take i cs)) (get_or cs i 0)
step_fits_at p cs i s h = step_fits _ _ (drop (i + 1) cs) (subst (IsShort (after p (take i cs))) (drop_more cs i 0 h) (short_rest p cs i s))
