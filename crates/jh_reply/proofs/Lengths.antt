-- How long a source is that is made: of 200 methods each has less than 700 bytes.
use Rattle.std.proofs.Common.{◌≡◌, ℕ, zero, suc, ◌+◌, ◌*◌, ◌%◌, ◌==◌, ◌-◌, ◌≤◌, ◌<◌, ◌^◌, nat_le, Bool, true, false, if◌then◌else◌, List, [], ◌∷◌, ◌++◌, length, refl, sym, subst, arith}
use Rattle.std.specs.Prelude.{codes}
use Rattle.std.specs.Fmt.{decimal}
use Rattle.std.proofs.Math.Nat.{mod-lt}
use Rattle.std.proofs.lemmas.Bool.Decides.{nat_tests}
use Rattle.std.proofs.lemmas.Fmt.{length-decimal-le_succ}
use Rattle.std.proofs.lemmas.Grind.{flat_map-append}
use Rattle.std.proofs.lemmas.List.{length-append}
use Rattle.jh_gen.specs.Generated.{cells_line, ended, first_lines, line_of_kind, method_line, method_lines, number_of, source, sum_line, swap_line, text_of}

within : (n m : ℕ) → nat_le n m ≡ true → n ≤ m
within n m h = grind (arith, nat_tests)

short : (text : List ℕ) (m : ℕ) → nat_le (length text) m ≡ true → length text ≤ m
short text m h = within (length text) m h

widen : (a m k : ℕ) → a ≤ m → m ≤ k → a ≤ k
widen a m k low high = omega (arith, low, high)

joined : (a b : List ℕ) (m n : ℕ) → length a ≤ m → length b ≤ n → length (a ++ b) ≤ m + n
joined a b m n first second = let both : length (a ++ b) ≡ length a + length b = length-append a b in omega (arith, both, first, second)

digits : (n : ℕ) → n ≤ 200 → length (decimal n) ≤ 201
digits n low = let long : length (decimal n) ≤ n + 1 = length-decimal-le_succ n (omega (arith, low)) in omega (arith, long, low)

swap-short : (i : ℕ) → i ≤ 200 → length (swap_line i) ≤ 690
unfolding swap_line
swap-short i low =
    joined (codes "public static void m") (decimal i ++ codes "() /*: modifies a, b ensures \"a = old b & b = old a\" */ { Object t = a; a = b; b = t; }") 30 660 (short (codes "public static void m") 30 refl)
    (joined (decimal i) (codes "() /*: modifies a, b ensures \"a = old b & b = old a\" */ { Object t = a; a = b; b = t; }") 201 459 (digits i low) (short (codes "() /*: modifies a, b ensures \"a = old b & b = old a\" */ { Object t = a; a = b; b = t; }") 459 refl))

-- a line that names its method once and its number twice
numbered : (a b c d : List ℕ) (i k : ℕ) → i ≤ 200 → length (decimal k) ≤ 11 → length a ≤ 30 → length b ≤ 200 → length c ≤ 200 → length d ≤ 30 → length (a ++ (decimal i ++ (b ++ (decimal k ++ (c ++ (decimal k ++ d)))))) ≤ 690
numbered a b c d i k low small first second third last =
    let written : length (decimal k ++ d) ≤ 11 + 30 = joined (decimal k) d 11 30 small last in
    let third_on : length (c ++ (decimal k ++ d)) ≤ 200 + (11 + 30) = joined c (decimal k ++ d) 200 (11 + 30) third written in
    let number_on : length (decimal k ++ (c ++ (decimal k ++ d))) ≤ 11 + (200 + (11 + 30)) = joined (decimal k) (c ++ (decimal k ++ d)) 11 (200 + (11 + 30)) small third_on in
    let second_on : length (b ++ (decimal k ++ (c ++ (decimal k ++ d)))) ≤ 200 + (11 + (200 + (11 + 30))) = joined b (decimal k ++ (c ++ (decimal k ++ d))) 200 (11 + (200 + (11 + 30))) second number_on in
    let name_on : length (decimal i ++ (b ++ (decimal k ++ (c ++ (decimal k ++ d))))) ≤ 201 + (200 + (11 + (200 + (11 + 30)))) = joined (decimal i) (b ++ (decimal k ++ (c ++ (decimal k ++ d)))) 201 (200 + (11 + (200 + (11 + 30)))) (digits i low) second_on in
    let whole : length (a ++ (decimal i ++ (b ++ (decimal k ++ (c ++ (decimal k ++ d)))))) ≤ 30 + (201 + (200 + (11 + (200 + (11 + 30))))) = joined a (decimal i ++ (b ++ (decimal k ++ (c ++ (decimal k ++ d))))) 30 (201 + (200 + (11 + (200 + (11 + 30))))) first name_on in
    omega (arith, whole)

sum-short : (i k : ℕ) → i ≤ 200 → length (decimal k) ≤ 11 → length (sum_line i k) ≤ 690
unfolding sum_line
sum-short i k low small =
    numbered (codes "public static void m") (codes "() /*: requires \"0 <= n\" modifies n ensures \"") (codes " <= n\" */ { n = n + ") (codes "; }") i k low small
    (short (codes "public static void m") 30 refl) (short (codes "() /*: requires \"0 <= n\" modifies n ensures \"") 200 refl) (short (codes " <= n\" */ { n = n + ") 200 refl) (short (codes "; }") 30 refl)

cells-short : (i k : ℕ) → i ≤ 200 → length (decimal k) ≤ 11 → length (cells_line i k) ≤ 690
unfolding cells_line
cells-short i k low small =
    numbered (codes "public static void m") (codes "(Cell p, Cell q) /*: requires \"p ~= null & q ~= null & p ~= q\" modifies Cell.f ensures \"p..Cell.f = ") (codes " & q..Cell.f = 2\" */ { p.f = ") (codes "; q.f = 2; }") i k low small
    (short (codes "public static void m") 30 refl) (short (codes "(Cell p, Cell q) /*: requires \"p ~= null & q ~= null & p ~= q\" modifies Cell.f ensures \"p..Cell.f = ") 200 refl) (short (codes " & q..Cell.f = 2\" */ { p.f = ") 200 refl) (short (codes "; q.f = 2; }") 30 refl)

-- a line of any kind
either : (b : Bool) (x y : List ℕ) (m : ℕ) → length x ≤ m → length y ≤ m → length (if b then x else y) ≤ m
either true x y m first second = first
either false x y m first second = second

kind-short : (kind i k : ℕ) → i ≤ 200 → length (decimal k) ≤ 11 → length (line_of_kind kind i k) ≤ 690
kind-short kind i k low small =
    either (kind == 0) (swap_line i) (if kind == 1 then sum_line i k else cells_line i k) 690 (swap-short i low)
    (either (kind == 1) (sum_line i k) (cells_line i k) 690 (sum-short i k low small) (cells-short i k low small))

number-small : (seed i : ℕ) → length (decimal (number_of seed i)) ≤ 11
number-small seed i =
    let below : (seed + 7 * i) % 9 < 9 = mod-lt (seed + 7 * i) (omega arith) in
    small ((seed + 7 * i) % 9) below
  where
    small : (r : ℕ) → r < 9 → length (decimal (1 + r)) ≤ 11
    small r below = let long : length (decimal (1 + r)) ≤ 1 + r + 1 = length-decimal-le_succ (1 + r) (omega (arith, below)) in omega (arith, long, below)

method-short : (seed i : ℕ) → i ≤ 200 → length (method_line seed i) ≤ 690
method-short seed i low = kind-short ((seed + i) % 3) i (number_of seed i) low (number-small seed i)

-- the lines, each with its end
ended-short : (line : List ℕ) → length line ≤ 690 → length (text_of (line ∷ [])) ≤ 700
ended-short line h = joined (line ++ 10 ∷ []) [] 695 5 (joined line (10 ∷ []) 690 5 h (short (10 ∷ []) 5 refl)) (short [] 5 refl)

text-joined : (xs ys : List (List ℕ)) (m n : ℕ) → length (text_of xs) ≤ m → length (text_of ys) ≤ n → length (text_of (xs ++ ys)) ≤ m + n
text-joined xs ys m n first second = subst (λ (text : List ℕ). length text ≤ m + n) (sym (flat_map-append ended xs ys)) (joined (text_of xs) (text_of ys) m n first second)

methods-short : (seed n : ℕ) → n ≤ 200 → length (text_of (method_lines seed n)) ≤ n * 700
methods-short seed zero low = within 0 0 refl
methods-short seed (suc n) low =
    widen (length (text_of (method_lines seed n ++ method_line seed (suc n) ∷ []))) (n * 700 + 700) (suc n * 700)
    (text-joined (method_lines seed n) (method_line seed (suc n) ∷ []) (n * 700) 700 (methods-short seed n (omega (arith, low))) (ended-short (method_line seed (suc n)) (method-short seed (suc n) low)))
    (omega arith)

-- a source of at most 200 methods
below : (a methods : ℕ) → methods ≤ 200 → a ≤ 100 + (methods * 700 + 10) → a < 2 ^ 32 - 1
below a methods low high = omega (arith, low, high)

pub source-short : (seed methods : ℕ) → methods ≤ 200 → length (source seed methods) < 2 ^ 32 - 1
unfolding source
source-short seed methods low =
    below (length (text_of (first_lines ++ (method_lines seed methods ++ codes "}" ∷ [])))) methods low
    (text-joined first_lines (method_lines seed methods ++ codes "}" ∷ []) 100 (methods * 700 + 10) (short (text_of first_lines) 100 refl)
    (text-joined (method_lines seed methods) (codes "}" ∷ []) (methods * 700) 10 (methods-short seed methods low) (short (text_of (codes "}" ∷ [])) 10 refl)))
