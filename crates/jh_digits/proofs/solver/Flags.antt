-- The coordinates of the needs as the bits of a number.
use Rattle.std.proofs.Common.{◌≡◌, ℕ, suc, ◌+◌, ◌*◌, ◌^◌, ◌-◌, ◌/◌, ◌%◌, ◌≤◌, ◌<◌, max, length, cond, Bool, true, false, refl, sym, ap, ◌∙◌, arith, ⊎_elim}
use Rattle.std.proofs.lemmas.Bool.{cases_lt}
use Rattle.std.proofs.lemmas.Nat.{and_mask, or_lt, mod_below, shr_split}
use Rattle.std.proofs.lemmas.Nat.Bits.{bit_at_or, bit_at_ones, bit_at_cat_low, bit_at-lt, bit_at-zero, same_from_bits_below}
use Rattle.std.proofs.Math.Nat.{pow-suc, pow-le-pow_right, one-le-pow}
use Rattle.std.specs.Int.{bit_at}
use Rattle.std.specs.Int.RustNames.{bit_or, bit_and}
use Rattle.jh_digits.specs.declared.systems.system.System.{System}
use Rattle.jh_digits.specs.declared.solver.space.Step.{Step}
use Rattle.jh_digits.specs.declared.solver.space.Step.TheVariants.{Start, End, Take, Halve}
use Rattle.jh_digits.specs.systems.Solution.{need_of}
use Rattle.jh_digits.specs.systems.Nodes.{node_limit}
use Rattle.jh_digits.specs.solver.Cells.{names, radix, stride, code, rest, coordinate, cell_count, coordinates, next_of, flags_of, mask_of, flag_after}
use Rattle.jh_digits.proofs.solver.Radix.{coordinate_code, code_below, rest_is}
use Rattle.jh_digits.proofs.solver.Coordinates.{after_need, radix_need, scale_small}
use Rattle.jh_digits.proofs.solver.Counts.{needs_stride}

pub needs_within : (s : System) → length s.needs ≤ coordinates s
unfolding coordinates
needs_within s = omega arith

many : (k : ℕ) → 27 ≤ k → 2 ^ 27 ≤ 2 ^ k
many k h = pow-le-pow_right (omega arith) h

pub flags_small : (s : System) → 2 ^ length s.needs ≤ cell_count s
flags_small s = rw (← needs_stride s (length s.needs) (omega arith)) (scale_small s (length s.needs) (needs_within s))

pub needs_few : (s : System) → cell_count s ≤ node_limit → length s.needs ≤ 26
needs_few s h =
    ⊎_elim
    (λ (l : length s.needs < 27). omega arith)
    (λ (l : 27 ≤ length s.needs). absurd (omega (arith, many (length s.needs) l, flags_small s, h)))
    (cases_lt (length s.needs) 27)

pub rest_needs : (s : System) (c : ℕ) → rest (radix s) c (length s.needs) ≡ c / 2 ^ length s.needs
rest_needs s c = rw (rest_is (radix s) c (length s.needs), needs_stride s (length s.needs) (omega arith)) refl

bit_of : (s : System) (c i : ℕ) → i < length s.needs → coordinate (radix s) c i ≡ bit_at c i
bit_of s c i h = rw (rest_is (radix s) c i, needs_stride s i (omega arith), radix_need s i h) refl

fits : (s : System) (x : ℕ → ℕ) → ((i : ℕ) → i < length s.needs → x i < 2) → (i : ℕ) → i < length s.needs → x i < radix s i
fits s x two i h = rw (radix_need s i h) (two i h)

pub needs_below : (s : System) (x : ℕ → ℕ) → ((i : ℕ) → i < length s.needs → x i < 2) → code (radix s) x (length s.needs) < 2 ^ length s.needs
needs_below s x two = rw (← needs_stride s (length s.needs) (omega arith)) (code_below (radix s) x (length s.needs) (fits s x two))

bit_of_code : (s : System) (x : ℕ → ℕ) → ((i : ℕ) → i < length s.needs → x i < 2) → (i : ℕ) → i < length s.needs → bit_at (code (radix s) x (length s.needs)) i ≡ x i
bit_of_code s x two i h = sym (bit_of s (code (radix s) x (length s.needs)) i h) ∙ coordinate_code (radix s) x (length s.needs) i (fits s x two) h

-- a number below 2 ^ k whose bits are given
by_bits : (s : System) (x : ℕ → ℕ) (n : ℕ) → ((i : ℕ) → i < length s.needs → x i < 2) → n < 2 ^ length s.needs → ((i : ℕ) → i < length s.needs → bit_at n i ≡ x i) → n ≡ code (radix s) x (length s.needs)
by_bits s x n two small bits =
    same_from_bits_below (length s.needs) n (code (radix s) x (length s.needs)) small (needs_below s x two) (λ i h. bits i h ∙ sym (bit_of_code s x two i h))

low_bit : (c k i : ℕ) → i < k → bit_at (c % 2 ^ k) i ≡ bit_at c i
low_bit c k i h = sym (bit_at_cat_low (c / 2 ^ k) k (c % 2 ^ k) i h) ∙ ap (λ n. bit_at n i) (shr_split c k)

power_pos : (k : ℕ) → 0 < 2 ^ k
power_pos k = omega (arith, one-le-pow k 2 (omega arith))

one_or : (b : Bool) (x : ℕ) → x < 2 → cond b 1 x < 2
one_or true x h = omega arith
one_or false x h = h

flag_two : (s : System) (step : Step) (k x : ℕ) → x < 2 → flag_after s step k x < 2
flag_two s Start k x h = omega arith
flag_two s End k x h = omega arith
flag_two s Halve k x h = h
flag_two s (Take j) k x h = one_or (names (need_of s k) j) x h

next_flag : (s : System) (step : Step) (c i : ℕ) → i < length s.needs → next_of s step c i ≡ flag_after s step i (bit_at c i)
next_flag s step c i h = after_need s step i (coordinate (radix s) c i) h ∙ ap (flag_after s step i) (bit_of s c i h)

next_two : (s : System) (step : Step) (c i : ℕ) → i < length s.needs → next_of s step c i < 2
next_two s step c i h = rw (next_flag s step c i h) (flag_two s step i (bit_at c i) (bit_at-lt c i))

below_two : (a w : ℕ) → w ≡ 2 → a < 2 → a < w
below_two a w e h = omega arith

pub next_flag_range : (s : System) (step : Step) (c i : ℕ) → i < length s.needs → next_of s step c i < radix s i
next_flag_range s step c i h = below_two (next_of s step c i) (radix s i) (radix_need s i h) (next_two s step c i h)

pub flags_below : (s : System) (step : Step) (c : ℕ) → flags_of s step c < 2 ^ length s.needs
flags_below s step c = needs_below s (next_of s step c) (next_two s step c)

pub mask_below : (s : System) (j : ℕ) → mask_of s j < 2 ^ length s.needs
mask_below s j = needs_below s _ (λ i h. one_or (names (need_of s i) j) 0 (omega arith))

pub start_flags : (s : System) (c : ℕ) → 0 ≡ flags_of s Start c
start_flags s c = by_bits s (next_of s Start c) 0 (next_two s Start c) (power_pos (length s.needs)) (λ i h. bit_at-zero i ∙ sym (next_flag s Start c i h))

ones_below : (n : ℕ) → 0 < n → n - 1 < n
ones_below n h = omega arith

pub end_flags : (s : System) (c : ℕ) → 2 ^ length s.needs - 1 ≡ flags_of s End c
end_flags s c = by_bits s (next_of s End c) (2 ^ length s.needs - 1) (next_two s End c) (ones_below _ (power_pos (length s.needs))) (λ i h. bit_at_ones (length s.needs) i h ∙ sym (next_flag s End c i h))

pub halve_flags : (s : System) (c : ℕ) → bit_and c (2 ^ length s.needs - 1) ≡ flags_of s Halve c
halve_flags s c =
    and_mask c (length s.needs)
    ∙ by_bits s (next_of s Halve c) (c % 2 ^ length s.needs) (next_two s Halve c) (mod_below c (2 ^ length s.needs) (power_pos (length s.needs)))
    (λ i h. low_bit c (length s.needs) i h ∙ sym (next_flag s Halve c i h))

greater : (b : Bool) (x : ℕ) → x < 2 → max x (cond b 1 0) ≡ cond b 1 x
greater true x h = omega arith
greater false x h = omega arith

mask_bit : (s : System) (j i : ℕ) → i < length s.needs → bit_at (mask_of s j) i ≡ cond (names (need_of s i) j) 1 0
mask_bit s j i h = bit_of_code s _ (λ i h. one_or (names (need_of s i) j) 0 (omega arith)) i h

same_max : (a b x y : ℕ) → a ≡ x → b ≡ y → max a b ≡ max x y
same_max a b x y e f = rw (e, f) refl

pub take_flags : (s : System) (j c : ℕ) → bit_or (bit_and c (2 ^ length s.needs - 1)) (mask_of s j) ≡ flags_of s (Take j) c
take_flags s j c =
    ap (λ n. bit_or n (mask_of s j)) (and_mask c (length s.needs))
    ∙ by_bits s (next_of s (Take j) c) (bit_or (c % 2 ^ length s.needs) (mask_of s j)) (next_two s (Take j) c)
    (or_lt (length s.needs) (c % 2 ^ length s.needs) (mask_of s j) (mod_below c (2 ^ length s.needs) (power_pos (length s.needs))) (mask_below s j))
    (λ i h.
    bit_at_or (c % 2 ^ length s.needs) (mask_of s j) i
    ∙ same_max (bit_at (c % 2 ^ length s.needs) i) (bit_at (mask_of s j) i) (bit_at c i) (cond (names (need_of s i) j) 1 0) (low_bit c (length s.needs) i h) (mask_bit s j i h)
    ∙ greater (names (need_of s i) j) (bit_at c i) (bit_at-lt c i)
    ∙ sym (next_flag s (Take j) c i h))

-- ---- a mask, need by need

picked : (r : Bool) (b : ℕ) → cond r b 0 ≡ cond r 1 0 * b
picked true b = omega arith
picked false b = omega arith

picked_few : (r : Bool) (b : ℕ) → cond r b 0 ≤ b
picked_few true b = omega arith
picked_few false b = omega arith

pub mask_more : (s : System) (j i m b : ℕ) (r : Bool) → i < length s.needs → r ≡ names (need_of s i) j → m ≡ code (radix s) (λ k. cond (names (need_of s k) j) 1 0) i → b ≡ 2 ^ i
    → m + cond r b 0 ≡ code (radix s) (λ k. cond (names (need_of s k) j) 1 0) (suc i)
mask_more s j i m b r h n e f =
    let p : stride (radix s) i ≡ 2 ^ i = needs_stride s i (omega arith) in
    rw (p, ← n, e, f) (ap (λ x. code (radix s) (λ k. cond (names (need_of s k) j) 1 0) i + x) (picked r (2 ^ i)))

pub mask_few : (m b : ℕ) (r : Bool) → m < b → m + cond r b 0 < b * 2
mask_few m b r h = omega (arith, picked_few r b)

pub power_more : (i b : ℕ) → b ≡ 2 ^ i → b * 2 ≡ 2 ^ suc i
power_more i b e = rw (e, pow-suc 2 i) refl
