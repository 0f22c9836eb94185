-- Numbers, sets and values: what is written of them is read.
use Rattle.std.proofs.Common.{◌≡◌, refl, sym, ap, ◌∙◌, arith, ℕ, zero, suc, ◌+◌, ◌*◌, ◌-◌, ◌%◌, ◌^◌, ◌<◌, ◌==◌, ◌&&◌, nat_lt, ℤ, pos, negsuc, neg_ℤ, Bool, true, false, true≢false, if◌then◌else◌, List, [], ◌∷◌, ◌++◌, length, map, get_or, take, drop, Option, Some, None, option_map, append-nil, length-append, take_at, ne_eqb, lt-ltb, ltb-true}
use Rattle.std.specs.Prelude.{codes}
use Rattle.std.specs.Fmt.{decimal}
use Rattle.std.specs.List.{list_all}
use Rattle.std.proofs.lemmas.Bool.{and_parts, and_from, or_from, or_right}
use Rattle.std.proofs.lemmas.List.{get_or_at}
use Rattle.std.proofs.lemmas.Fmt.{decimal_by_steps, decimal_digit, decimal_nonempty, first_decimal, IsAscii-decimal}
use Rattle.std.proofs.lemmas.Str.{IsUtf8-from_ascii}
use Rattle.jh_name.specs.declared.place.Kind.{Kind}
use Rattle.jh_name.specs.declared.place.Kind.TheVariants as k
use Rattle.jh_semantics.specs.Heaps.{Cell, object, number, truth_value, set, is_ascending, is_cell}
use Rattle.jh_heap.specs.lines.Bytes.{is_digit, are_digits, is_numeral, value_from, numeral_value, natural_of, negative_of, integer_of, is_beyond, ascending_on, ascending_from, objects_of, split, same_bytes}
use Rattle.jh_heap.specs.lines.Lines.{Value, inside, set_of, scalar_of, value_of}
use Rattle.jh_heap.specs.lines.Lines as l
use Rattle.jh_heap.specs.text.Writing.{objects_from, objects_text, truth_text, cell_text, is_default}
use Rattle.jh_heap_theorems.specs.round_trip.Names.{has, FitsWord}
use Rattle.jh_heap_theorems.proofs.round_trip.Words.{split-word, split-last, IsClean, clean-append, clean-ascii}

-- digits
digit-range : (c : ℕ) → is_digit c ≡ true → (47 < c) × (c < 58)
digit-range c h = let parts = and_parts (nat_lt 47 c) (nat_lt c 58) h in (ltb-true 47 c parts.0, ltb-true c 58 parts.1)

digit-is : (m : ℕ) → m < 10 → is_digit (48 + m) ≡ true
digit-is m small = and_from (nat_lt 47 (48 + m)) (nat_lt (48 + m) 58) (lt-ltb 47 (48 + m) (omega arith)) (lt-ltb (48 + m) 58 (omega arith))

pub digits-lack : (b : ℕ) (w : List ℕ) → b < 48 → are_digits w ≡ true → has b w ≡ false
digits-lack b [] low h = refl
digits-lack b (c ∷ w) low h =
    let parts = and_parts (is_digit c) (are_digits w) h in
    let range = digit-range c parts.0 in
    or_from (c == b) (has b w) (ne_eqb c b (λ e. omega (arith, e, range.0))) (digits-lack b w low parts.1)

first-digit : (w : List ℕ) → are_digits w ≡ true → 0 < length w → (47 < get_or w 0 0) × (get_or w 0 0 < 58)
first-digit [] h some = absurd (omega arith)
first-digit (c ∷ w) h some = digit-range c (and_parts (is_digit c) (are_digits w) h).0

digits-more : (ds : List ℕ) (c : ℕ) → are_digits ds ≡ true → is_digit c ≡ true → are_digits (ds ++ (c ∷ [])) ≡ true
digits-more [] c h d = and_from (is_digit c) true d refl
digits-more (e ∷ ds) c h d = let parts = and_parts (is_digit e) (are_digits ds) h in and_from (is_digit e) (are_digits (ds ++ (c ∷ []))) parts.0 (digits-more ds c parts.1 d)

value-more : (n : ℕ) (ds : List ℕ) (c : ℕ) → value_from n (ds ++ (c ∷ [])) ≡ 10 * value_from n ds + (c - 48)
value-more n [] c = refl
value-more n (e ∷ ds) c = value-more (10 * n + (e - 48)) ds c

abbrev Written : ℕ → List ℕ → Type 0
Written n ds = (are_digits ds ≡ true) × (value_from 0 ds ≡ n)

written : (n : ℕ) → n < 2 ^ 64 → Written n (decimal n)
written n small = decimal_by_steps Written
    (λ m low. (and_from (is_digit (48 + m)) true (digit-is m low) refl, omega arith))
    (λ m ds big h. (digits-more ds (48 + m % 10) h.0 (digit-is (m % 10) (omega arith)), omega (arith, value-more 0 ds (48 + m % 10), h.1)))
    n small

pub decimal-lacks : (b n : ℕ) → b < 48 → n < 2 ^ 64 → has b (decimal n) ≡ false
decimal-lacks b n low small = digits-lack b (decimal n) low (written n small).0

pub clean-decimal : (n : ℕ) → n < 2 ^ 64 → IsClean (decimal n)
clean-decimal n small = record { feed = decimal-lacks 10 n (omega arith) small; utf8 = IsUtf8-from_ascii (decimal n) (IsAscii-decimal n small) }

numeral : (n : ℕ) → n < 2 ^ 64 → is_numeral (decimal n) ≡ true
numeral zero small = ap is_numeral (decimal_digit 0 (omega arith))
numeral (suc n) small =
    and_from _ _ (lt-ltb 0 (length (decimal (suc n))) (decimal_nonempty (suc n) small))
    (and_from _ _ (written (suc n) small).0 (or_right _ _ (lt-ltb 48 (get_or (decimal (suc n)) 0 0) (first_decimal (suc n) (omega arith) small))))

pub natural-decimal : (n : ℕ) → n < 2 ^ 63 → natural_of (decimal n) ≡ Some n
unfolding natural_of
natural-decimal n small =
    let value : value_from 0 (decimal n) ≡ n = (written n (omega arith)).1 in
    ap (λ t. if t then Some (numeral_value (decimal n)) else None)
    (and_from (is_numeral (decimal n)) (nat_lt (numeral_value (decimal n)) (2 ^ 63)) (numeral n (omega arith)) (lt-ltb (numeral_value (decimal n)) (2 ^ 63) (omega (arith, value))))
    ∙ ap (λ m. Some m) value

negative-decimal : (n : ℕ) → n < 2 ^ 63 → negative_of (decimal (suc n)) ≡ Some (negsuc n)
unfolding negative_of
negative-decimal n small =
    let value : value_from 0 (decimal (suc n)) ≡ suc n = (written (suc n) (omega arith)).1 in
    let a = numeral (suc n) (omega arith) in
    let b = lt-ltb 0 (numeral_value (decimal (suc n))) (omega (arith, value)) in
    let c = lt-ltb (numeral_value (decimal (suc n))) (2 ^ 63 + 1) (omega (arith, value)) in
    (λ i. if a i && b i && c i then Some (neg_ℤ (pos (numeral_value (decimal (suc n))))) else None) ∙ ap (λ m. Some (neg_ℤ (pos m))) value

first-decimal : (n : ℕ) → n < 2 ^ 64 → (47 < get_or (decimal n) 0 0) × (get_or (decimal n) 0 0 < 58)
first-decimal n small = first-digit (decimal n) (written n small).0 (decimal_nonempty n small)

integer-decimal : (n : ℕ) → n < 2 ^ 63 → integer_of (decimal n) ≡ Some (pos n)
unfolding integer_of
integer-decimal n small =
    let range = first-decimal n (omega arith) in
    ap (λ t. if t then negative_of (drop 1 (decimal n)) else option_map pos (natural_of (decimal n))) (ne_eqb (get_or (decimal n) 0 0) 45 (λ e. omega (arith, e, range.0)))
    ∙ ap (option_map pos) (natural-decimal n small)

integer-negative : (n : ℕ) → n < 2 ^ 63 → integer_of (45 ∷ decimal (suc n)) ≡ Some (negsuc n)
unfolding integer_of
integer-negative n small = negative-decimal n small

-- a number is no truth and no set
not-same : (w : List ℕ) (b : ℕ) (rest : List ℕ) → 0 < length w → (get_or w 0 0 == b) ≡ false → same_bytes w (b ∷ rest) ≡ false
not-same [] b rest some h = absurd (omega arith)
not-same (c ∷ w) b rest some h = ap (λ t. t && same_bytes w rest) h

scalar-number : (w : List ℕ) (z : ℤ) → 0 < length w → get_or w 0 0 < 58 → integer_of w ≡ Some z → scalar_of w ≡ Some (l.number z)
unfolding scalar_of
scalar-number w z some low is =
    ap (λ t. if t then Some (l.truth_value true) else (if same_bytes w (codes "false") then Some (l.truth_value false) else option_map l.number (integer_of w)))
    (not-same w 116 (114 ∷ 117 ∷ 101 ∷ []) some (ne_eqb (get_or w 0 0) 116 (λ e. omega (arith, e, low))))
    ∙ ap (λ t. if t then Some (l.truth_value false) else option_map l.number (integer_of w))
    (not-same w 102 (97 ∷ 108 ∷ 115 ∷ 101 ∷ []) some (ne_eqb (get_or w 0 0) 102 (λ e. omega (arith, e, low))))
    ∙ ap (option_map l.number) is

value-number : (w : List ℕ) (z : ℤ) → 0 < length w → get_or w 0 0 < 58 → integer_of w ≡ Some z → value_of w ≡ Some (l.number z)
unfolding value_of
value-number w z some low is =
    ap (λ t. if t then set_of (inside (drop 1 w)) else scalar_of w) (ne_eqb (get_or w 0 0) 123 (λ e. omega (arith, e, low))) ∙ scalar-number w z some low is

value-truth : (b : Bool) → value_of (truth_text b) ≡ Some (l.truth_value b)
unfolding value_of scalar_of
value-truth true = refl
value-truth false = refl

-- objects, ascending
abbrev pub AllSmall : List ℕ → Type 0
AllSmall [] = Unit {0}
AllSmall (a ∷ xs) = (a < 2 ^ 63) × AllSmall xs

abbrev pub Follows : Option ℕ → List ℕ → Type 0
Follows least [] = Unit {0}
Follows least (a ∷ xs) = (is_beyond least a ≡ true) × Follows (Some a) xs

follows-some : (a : ℕ) (xs : List ℕ) → list_all (λ b. nat_lt a b) xs ≡ true → is_ascending xs ≡ true → Follows (Some a) xs
follows-some a [] h g = tt
follows-some a (b ∷ xs) h g =
    let parts = and_parts (nat_lt a b) (list_all (λ c. nat_lt a c) xs) h in
    let rest = and_parts (list_all (λ c. nat_lt b c) xs) (is_ascending xs) g in
    (parts.0, follows-some b xs rest.0 rest.1)

follows : (xs : List ℕ) → is_ascending xs ≡ true → Follows None xs
follows [] h = tt
follows (a ∷ xs) h = let parts = and_parts (list_all (λ c. nat_lt a c) xs) (is_ascending xs) h in (refl, follows-some a xs parts.0 parts.1)

split-objects : (a : ℕ) (xs : List ℕ) → a < 2 ^ 63 → AllSmall xs → split 32 (decimal a ++ objects_from xs) ≡ decimal a ∷ map decimal xs
split-objects a [] small h = ap (split 32) (append-nil (decimal a)) ∙ split-last 32 (decimal a) (decimal-lacks 32 a (omega arith) (omega arith))
split-objects a (b ∷ xs) small h =
    split-word 32 (decimal a) (decimal b ++ objects_from xs) (decimal-lacks 32 a (omega arith) (omega arith)) ∙ ap (λ ws. decimal a ∷ ws) (split-objects b xs h.0 h.1)

ascending-all : (least : Option ℕ) (xs : List ℕ) → AllSmall xs → Follows least xs → ascending_from least (map decimal xs) ≡ Some xs
ascending-all least [] h f = refl
ascending-all least (a ∷ xs) h f =
    ap (λ g. ascending_on least g (λ last. ascending_from last (map decimal xs))) (natural-decimal a h.0)
    ∙ ap (λ t. if t then option_map (λ ys. a ∷ ys) (ascending_from (Some a) (map decimal xs)) else None) f.0
    ∙ ap (option_map (λ ys. a ∷ ys)) (ascending-all (Some a) xs h.1 f.1)

pub objects-read : (a : ℕ) (xs : List ℕ) → AllSmall (a ∷ xs) → is_ascending (a ∷ xs) ≡ true → objects_of (objects_text (a ∷ xs)) ≡ Some (a ∷ xs)
unfolding objects_of
objects-read a xs h g = ap (ascending_from None) (split-objects a xs h.0 h.1) ∙ ascending-all None (a ∷ xs) h (follows (a ∷ xs) g)

clean-from : (xs : List ℕ) → AllSmall xs → IsClean (objects_from xs)
clean-from [] h = clean-ascii [] refl refl
clean-from (a ∷ xs) h =
    clean-append (32 ∷ []) (decimal a ++ objects_from xs) (clean-ascii (32 ∷ []) refl refl) (clean-append (decimal a) (objects_from xs) (clean-decimal a (omega (arith, h.0))) (clean-from xs h.1))

pub clean-objects : (xs : List ℕ) → AllSmall xs → IsClean (objects_text xs)
clean-objects [] h = clean-ascii [] refl refl
clean-objects (a ∷ xs) h = clean-append (decimal a) (objects_from xs) (clean-decimal a (omega (arith, h.0))) (clean-from xs h.1)

objects-some : (a : ℕ) (xs : List ℕ) → a < 2 ^ 63 → 0 < length (objects_text (a ∷ xs))
objects-some a xs small = let some = decimal_nonempty a (omega arith) in omega (arith, some, length-append (decimal a) (objects_from xs))

pub all-small : (n : ℕ) (xs : List ℕ) → n < 256 → list_all (λ a. nat_lt a (suc n)) xs ≡ true → AllSmall xs
all-small n [] small h = tt
all-small n (a ∷ xs) small h =
    let parts = and_parts (nat_lt a (suc n)) (list_all (λ b. nat_lt b (suc n)) xs) h in
    let lt = ltb-true a (suc n) parts.0 in
    (omega (arith, lt), all-small n xs small parts.1)

inside-brace : (t : List ℕ) → inside (t ++ (125 ∷ [])) ≡ Some t
inside-brace t =
    let last : length t ≡ length (t ++ (125 ∷ [])) - 1 = omega (arith, length-append t (125 ∷ [])) in
    ap (λ c. if c == 125 then Some (take (length (t ++ (125 ∷ [])) - 1) (t ++ (125 ∷ []))) else None) (get_or_at t 125 [] 0 (length (t ++ (125 ∷ [])) - 1) last)
    ∙ ap (λ ys. Some ys) (take_at t (125 ∷ []) (length (t ++ (125 ∷ [])) - 1) last)

set-some : (t : List ℕ) (xs : List ℕ) → 0 < length t → objects_of t ≡ Some xs → set_of (Some t) ≡ Some (l.objects xs)
unfolding set_of
set-some [] xs some h = absurd (omega arith)
set-some (c ∷ t) xs some h = ap (option_map l.objects) h

value-set : (a : ℕ) (xs : List ℕ) → AllSmall (a ∷ xs) → is_ascending (a ∷ xs) ≡ true → value_of (cell_text (set (a ∷ xs))) ≡ Some (l.objects (a ∷ xs))
unfolding value_of
value-set a xs h g = ap set_of (inside-brace (objects_text (a ∷ xs))) ∙ set-some (objects_text (a ∷ xs)) (a ∷ xs) (objects-some a xs h.0) (objects-read a xs h g)

-- cells of a kind
abbrev pub written_value : Cell → Value
written_value (object a) = l.number (pos a)
written_value (number z) = l.number z
written_value (truth_value b) = l.truth_value b
written_value (set xs) = l.objects xs

pub read-cell : (n : ℕ) (kind : Kind) (cell : Cell) → n < 256 → is_cell n kind cell ≡ true → FitsWord cell → is_default cell ≡ false → value_of (cell_text cell) ≡ Some (written_value cell)
read-cell n k.Obj (object a) small h f d =
    let lt = ltb-true a (suc n) h in
    let range = first-decimal a (omega (arith, lt)) in
    value-number (decimal a) (pos a) (decimal_nonempty a (omega (arith, lt))) range.1 (integer-decimal a (omega (arith, lt)))
read-cell n k.Int (number (pos a)) small h f d =
    let range = first-decimal a (omega (arith, f)) in
    value-number (decimal a) (pos a) (decimal_nonempty a (omega (arith, f))) range.1 (integer-decimal a f)
read-cell n k.Int (number (negsuc a)) small h f d = value-number (45 ∷ decimal (suc a)) (negsuc a) (omega arith) (omega arith) (integer-negative a f)
read-cell n k.Bool (truth_value b) small h f d = value-truth b
read-cell n k.Set (set []) small h f d = absurd (true≢false d)
read-cell n k.Set (set (a ∷ xs)) small h f d =
    let parts = and_parts (list_all (λ b. nat_lt b (suc n)) (a ∷ xs)) (is_ascending (a ∷ xs)) h in
    value-set a xs (all-small n (a ∷ xs) small parts.0) parts.1
read-cell n kind cell small h f d = absurd (true≢false (sym h))

clean-truth : (b : Bool) → IsClean (truth_text b)
clean-truth true = clean-ascii (codes "true") refl refl
clean-truth false = clean-ascii (codes "false") refl refl

pub clean-cell : (n : ℕ) (kind : Kind) (cell : Cell) → n < 256 → is_cell n kind cell ≡ true → FitsWord cell → IsClean (cell_text cell)
clean-cell n k.Obj (object a) small h f = let lt = ltb-true a (suc n) h in clean-decimal a (omega (arith, lt))
clean-cell n k.Int (number (pos a)) small h f = clean-decimal a (omega (arith, f))
clean-cell n k.Int (number (negsuc a)) small h f = clean-append (45 ∷ []) (decimal (suc a)) (clean-ascii (45 ∷ []) refl refl) (clean-decimal (suc a) (omega (arith, f)))
clean-cell n k.Bool (truth_value b) small h f = clean-truth b
clean-cell n k.Set (set xs) small h f =
    let parts = and_parts (list_all (λ b. nat_lt b (suc n)) xs) (is_ascending xs) h in
    clean-append (123 ∷ []) (objects_text xs ++ (125 ∷ [])) (clean-ascii (123 ∷ []) refl refl) (clean-append (objects_text xs) (125 ∷ []) (clean-objects xs (all-small n xs small parts.0)) (clean-ascii (125 ∷ []) refl refl))
clean-cell n kind cell small h f = absurd (true≢false (sym h))
