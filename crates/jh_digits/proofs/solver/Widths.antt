-- A row's width in natural numbers: max(c, n) is that of c's positive part and n, and - min(c, -p)
-- is the maximum of c's negated negative part and p.
use Rattle.std.proofs.Common.{◌≡◌, ℕ, ◌+◌, max, ℤ, pos, negsuc, ◌+ℤ◌, ◌-ℤ◌, neg_ℤ, ap, arith}
use Rattle.std.proofs.lemmas.Int.{ints, clamps}
use Rattle.std.specs.Prelude.{unsigned_abs}
use Rattle.std.specs.Int.{int_max, int_min}
use Rattle.jh_digits.specs.declared.systems.system.System.{System}
use Rattle.jh_digits.specs.systems.Solution.{entry_of, right_of}
use Rattle.jh_digits.specs.systems.Nodes.{plus, minus, positive, negative, width, width_of}

whole : (c : ℤ) (p n : ℕ) → (int_max c (pos n) -ℤ int_min c (neg_ℤ (pos p))) +ℤ pos (1 + p + n) ≡ pos (max (plus c) n + max (minus c) p + 1 + p + n)
whole (pos a) p n = omega (arith, ints, clamps)
whole (negsuc a) p n = omega (arith, ints, clamps)

pub width_parts : (c : ℤ) (p n : ℕ) → width c p n ≡ max (plus c) n + max (minus c) p + 1 + p + n
unfolding width
width_parts c p n = ap unsigned_abs (whole c p n)

pub width_of_parts : (s : System) (t : ℕ) → width_of s t ≡ max (plus (right_of s t)) (negative (entry_of s t) s.columns) + max (minus (right_of s t)) (positive (entry_of s t) s.columns) + 1 + positive (entry_of s t) s.columns + negative (entry_of s t) s.columns
width_of_parts s t = width_parts (right_of s t) (positive (entry_of s t) s.columns) (negative (entry_of s t) s.columns)
