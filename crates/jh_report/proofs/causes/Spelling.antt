-- Digits that are read from the last one to the first.
use Rattle.std.proofs.Common.{◌≡◌, refl, sym, ap, ◌∙◌, ℕ, zero, suc, ◌+◌, ◌-◌, ◌*◌, ◌<◌, ◌≤◌, Bool, true, false, List, [], ◌∷◌, drop, drop-cons, length, get_or, if◌then◌else◌, nat_lt, nat_eq, arith}
use Rattle.std.proofs.lemmas.Bool.{eq-eqb, eqb-true, eqb-false, ne_eqb, ltb-true, ltb-false, lt-ltb, true≢false}
use Rattle.std.specs.Prelude.{not, Option, None, Some, is_some}
use Rattle.std.specs.List.{list_all}
use Rattle.jh_query.specs.queries.Sizing.{spelled}
use Rattle.jh_report.specs.causes.Digits.{binary, with_digit}

pub spelled-more : (digits : List Bool) (i : ℕ) (d : Bool) → i < length digits → spelled (drop i digits) ≡ (if get_or digits i d then 1 else 0) + 2 * spelled (drop (suc i) digits)
spelled-more digits i d inside = ap spelled (drop-cons digits i d inside)

pub binary-more : (digits : List Bool) (i : ℕ) (d : Bool) → i < length digits → binary (drop i digits) ≡ with_digit (binary (drop (suc i) digits)) (get_or digits i d)
binary-more digits i d inside = ap binary (drop-cons digits i d inside)

-- digits behind some are no more than all
pub spelled-least : (digits : List Bool) (i : ℕ) → spelled (drop i digits) ≤ spelled digits
spelled-least digits zero = omega arith
spelled-least [] (suc i) = omega arith
spelled-least (d ∷ digits) (suc i) = omega (arith, spelled-least digits i)

doubled : (n : ℕ) → nat_eq (0 + 2 * n) 0 ≡ nat_eq n 0
doubled n = by (nat_eq n 0) refl where
  by : (b : Bool) → nat_eq n 0 ≡ b → nat_eq (0 + 2 * n) 0 ≡ nat_eq n 0
  by true e = eq-eqb (0 + 2 * n) 0 (omega (arith, eqb-true n 0 e)) ∙ sym e
  by false e = ne_eqb (0 + 2 * n) 0 (λ z. eqb-false n 0 e (omega (arith, z))) ∙ sym e

odd : (n : ℕ) → false ≡ nat_eq (1 + 2 * n) 0
odd n = sym (ne_eqb (1 + 2 * n) 0 (λ e. omega (arith, e)))

-- all digits are 0 exactly where they spell 0
pub zeros-spell : (digits : List Bool) → list_all not digits ≡ nat_eq (spelled digits) 0
zeros-spell [] = refl
zeros-spell (true ∷ digits) = odd (spelled digits)
zeros-spell (false ∷ digits) = zeros-spell digits ∙ sym (doubled (spelled digits))

-- what is no more than a number, and is kept where it is small
pub kept-none : (b : Bool) (x : ℕ) (o : Option ℕ) → o ≡ (if b then Some x else None) → o ≡ None → b ≡ false
kept-none true x o is none = let both : None ≡ Some x = sym none ∙ is in absurd (true≢false (sym (ap is_some both)))
kept-none false x o is none = refl

pub kept-some : (b : Bool) (x y : ℕ) (o : Option ℕ) → o ≡ (if b then Some x else None) → o ≡ Some y → (b ≡ true) × (y ≡ x)
kept-some true x y o is some = let both : Some y ≡ Some x = sym some ∙ is in (refl, cc)
kept-some false x y o is some = let both : None ≡ Some y = sym is ∙ some in absurd (true≢false (sym (ap is_some both)))

pub none-great : (x total limit : ℕ) → nat_lt x limit ≡ false → x ≤ total → None ≡ (if nat_lt total limit then Some total else None)
none-great x total limit great le = by (nat_lt total limit) refl where
  by : (b : Bool) → nat_lt total limit ≡ b → None ≡ (if nat_lt total limit then Some total else None)
  by true e = absurd (omega (arith, ltb-true total limit e, ltb-false x limit great, le))
  by false e = sym (ap (λ (b : Bool). if b then Some total else None) e)

pub some-small : (x total limit : ℕ) → x ≡ total → x < limit → Some x ≡ (if nat_lt total limit then Some total else None)
some-small x total limit same small =
    ap (λ (n : ℕ). Some n) same
    ∙ sym (ap (λ (b : Bool). if b then Some total else None) (lt-ltb total limit (omega (arith, same, small))))

-- what was read, with the digit before it, is no more than all
pub read-least : (digits : List Bool) (i : ℕ) (d : Bool) (value : ℕ) → 0 < i → i ≤ length digits → value ≡ spelled (drop i digits) → (if get_or digits (i - 1) d then 1 else 0) + 2 * value ≤ spelled digits
read-least digits i d value some within is =
    let same : suc (i - 1) ≡ i = omega (arith, some) in
    let whole : spelled (drop (i - 1) digits) ≡ (if get_or digits (i - 1) d then 1 else 0) + 2 * spelled (drop (suc (i - 1)) digits) = spelled-more digits (i - 1) d (omega (arith, some, within)) in
    omega (arith, spelled-least digits (i - 1), whole, ap (λ (k : ℕ). spelled (drop k digits)) same, is)
