-- The entries of rows.
use Rattle.std.proofs.Common.{◌≡◌, refl, ℕ, zero, suc, ◌+◌, ◌*◌, ◌≤◌, ◌<◌, Bool, true, false, if◌then◌else◌, List, [], ◌∷◌, ◌++◌, length, Option, Some, None, is_some, ℤ, pos, negsuc, ◌^◌, ◌+ℤ◌, ◌-ℤ◌, ◌*ℤ◌, neg_ℤ, ap, sym, ◌∙◌, arith, append_assoc, to_z, of_z}
use Rattle.std.specs.Prelude.{unsigned_abs}
use Rattle.std.specs.Ordering.{int_eq}
use Rattle.std.specs.Int.RustNames.{FitsSigned}
use Rattle.std.specs.Int.{w64}
use Rattle.std.proofs.lemmas.Int.{to_z-of_z}
use Rattle.std.proofs.lemmas.Bool.Decides.{Decides-int_eq}
use Rattle.std.proofs.lemmas.Bool.{lt-ltb}
use Rattle.std.proofs.lemmas.Int.{ints, unsigned_abs-mul}
use Rattle.jh_query.specs.declared.queries.sizes.Spot.{Spot}
use Rattle.jh_query.specs.queries.Tree.{NumTree}
use Rattle.jh_query.specs.queries.Tree as t
use Rattle.jh_query.specs.queries.Truth.{Reading, classes_in, read_number}
use Rattle.jh_query.specs.queries.Fitting.{both_fitted, checked_number, fitted, fitted_of, is_wide}
use Rattle.jh_query.specs.queries.Size.{card_weight}
use Rattle.std.proofs.Math.IntN.{*ℤ_comm, zero-*ℤ}
use Rattle.jh_query.specs.queries.Linear.{constant_part, placed_part}
use Rattle.jh_query.proofs.queries.Products.{neg-times, times-add}
use Rattle.jh_query.proofs.queries.Fitting.{checked-is}
use Rattle.jh_query.proofs.queries.Bounds.{moved-bound}
use Rattle.jh_query_branching.specs.Branches.{Narrow, checked_moved, moved, or_nought}

some_of : (m : Reading) (a : NumTree) (x : Option ℤ) → checked_number m a ≡ x → is_some x ≡ true → or_nought x ≡ read_number m a
some_of m a None e h = cc
some_of m a (Some z) e h = sym (checked-is m a z e)

pub narrow-is : (m : Reading) (a : NumTree) → Narrow m a → or_nought (checked_number m a) ≡ read_number m a
narrow-is m a n = some_of m a (checked_number m a) refl n.some

along : (x y : ℤ) (m : ℕ) → x ≡ y → unsigned_abs y ≤ m → unsigned_abs x ≤ m
along x y m e h = rw e h

pub narrow-small : (m : Reading) (a : NumTree) (x : Option ℤ) → x ≡ checked_number m a → Narrow m a → unsigned_abs (or_nought x) ≤ 67108864
narrow-small m a x e n = along (or_nought x) (read_number m a) 67108864 (ap or_nought e ∙ narrow-is m a n) n.small

pub narrow-value : (m : Reading) (a : NumTree) (x : Option ℤ) (r : ℤ) → r ≡ or_nought x → x ≡ checked_number m a → Narrow m a → r ≡ read_number m a
narrow-value m a x r e f n = e ∙ ap or_nought f ∙ narrow-is m a n

-- What the classes add stays within `i128` where it is small, and so do its parts.
fits_small : (z : ℤ) (m : ℕ) → unsigned_abs z ≤ m → m ≤ 67108864 → fitted z ≡ Some z
fits_small (pos a) m h k = let e : is_wide (pos a) ≡ true = lt-ltb a (2 ^ 127) (omega arith) in rw e refl
fits_small (negsuc a) m h k = let e : is_wide (negsuc a) ≡ true = lt-ltb a (2 ^ 127) (omega arith) in rw e refl

both_small : (f : ℤ → ℤ → ℤ) (a b : Option ℤ) (x y z : ℤ) → a ≡ Some x → b ≡ Some y → f x y ≡ z → fitted z ≡ Some z → both_fitted f a b ≡ Some z
both_small f a b x y z e g h k = rw (e, g, h) k

of_small : (f : ℤ → ℤ) (a : Option ℤ) (x z : ℤ) → a ≡ Some x → f x ≡ z → fitted z ≡ Some z → fitted_of f a ≡ Some z
of_small f a x z e h k = rw (e, h) k

less : (j w : ℕ) → 1 ≤ j → w ≤ j * w
less zero w e = omega arith
less (suc j) w e = omega arith

nonzero : (z : ℤ) → int_eq z (pos 0) ≡ false → 1 ≤ unsigned_abs z
nonzero (pos zero) e = cc
nonzero (pos (suc n)) e = omega arith
nonzero (negsuc n) e = omega arith

times_sub : (k p c : ℤ) → k *ℤ (p -ℤ c) ≡ (k *ℤ p) -ℤ (k *ℤ c)
times_sub k p c =
    let turned : p -ℤ c ≡ p +ℤ neg_ℤ c = omega (arith, ints) in
    let split : k *ℤ (p -ℤ c) ≡ (k *ℤ p) +ℤ (k *ℤ neg_ℤ c) = ap (λ x. k *ℤ x) turned ∙ times-add k p (neg_ℤ c) in
    let under : k *ℤ neg_ℤ c ≡ neg_ℤ (k *ℤ c) = *ℤ_comm k (neg_ℤ c) ∙ neg-times c k ∙ ap neg_ℤ (*ℤ_comm c k) in
    omega (arith, ints, split, under)

by_factor : (s : List Spot) (k : ℤ) (a : NumTree) (b : Bool) → int_eq k (pos 0) ≡ b → length s * card_weight (t.scale k a) ≤ 67108864 → (length s * card_weight a ≤ 67108864 → checked_moved s a ≡ Some (moved s a)) → checked_moved s (t.scale k a) ≡ Some (moved s (t.scale k a))
by_factor s k a true e h below =
    let zero_times : (x : ℤ) → k *ℤ x ≡ pos 0 = λ x. ap (λ y. y *ℤ x) ((Decides-int_eq k (pos 0)).0 e) ∙ zero-*ℤ x in
    let none : pos 0 ≡ moved s (t.scale k a) = omega (arith, ints, zero_times (read_number (placed_part s) a), zero_times (read_number constant_part a)) in
    rw e (ap Some none)
by_factor s k a false e h below =
    let turned : length s * (unsigned_abs k * card_weight a) ≡ unsigned_abs k * (length s * card_weight a) = omega arith in
    let smaller : length s * card_weight a ≤ 67108864 = omega (arith, h, turned, less (unsigned_abs k) (length s * card_weight a) (nonzero k e)) in
    rw e (of_small (λ x. k *ℤ x) (checked_moved s a) (moved s a) (moved s (t.scale k a)) (below smaller) (times_sub k (read_number (placed_part s) a) (read_number constant_part a))
    (fits_small (moved s (t.scale k a)) (length s * card_weight (t.scale k a)) (moved-bound s (t.scale k a)) h))

pub moved-checked : (s : List Spot) (a : NumTree) → length s * card_weight a ≤ 67108864 → checked_moved s a ≡ Some (moved s a)
moved-checked s (t.const c) h = let e : pos 0 ≡ moved s (t.const c) = omega (arith, ints) in ap Some e
moved-checked s (t.number l) h = refl
moved-checked s (t.add a b) h =
    both_small (λ x y. x +ℤ y) (checked_moved s a) (checked_moved s b) (moved s a) (moved s b) (moved s (t.add a b)) (moved-checked s a (omega arith)) (moved-checked s b (omega arith)) (omega (arith, ints))
    (fits_small (moved s (t.add a b)) (length s * card_weight (t.add a b)) (moved-bound s (t.add a b)) h)
moved-checked s (t.sub a b) h =
    both_small (λ x y. x -ℤ y) (checked_moved s a) (checked_moved s b) (moved s a) (moved s b) (moved s (t.sub a b)) (moved-checked s a (omega arith)) (moved-checked s b (omega arith)) (omega (arith, ints))
    (fits_small (moved s (t.sub a b)) (length s * card_weight (t.sub a b)) (moved-bound s (t.sub a b)) h)
moved-checked s (t.neg a) h =
    of_small neg_ℤ (checked_moved s a) (moved s a) (moved s (t.neg a)) (moved-checked s a h) (omega (arith, ints))
    (fits_small (moved s (t.neg a)) (length s * card_weight (t.neg a)) (moved-bound s (t.neg a)) h)
moved-checked s (t.scale k a) h = by_factor s k a (int_eq k (pos 0)) refl h (moved-checked s a)
moved-checked s (t.card c) h = let e : pos (classes_in s c) ≡ moved s (t.card c) = omega (arith, ints) in ap Some e

moved_small : (s : List Spot) (a : NumTree) (x : Option ℤ) → x ≡ checked_moved s a → length s * card_weight a ≤ 67108864 → or_nought x ≡ moved s a
moved_small s a x e h = ap or_nought (e ∙ moved-checked s a h)

pub moved-small : (s : List Spot) (a : NumTree) (x : Option ℤ) → x ≡ checked_moved s a → length s * card_weight a ≤ 67108864 → unsigned_abs (or_nought x) ≤ 67108864
moved-small s a x e h = along (or_nought x) (moved s a) 67108864 (moved_small s a x e h) (omega (arith, moved-bound s a, h))

-- a small number comes back from its bits
fits_64 : (z : ℤ) → unsigned_abs z ≤ 67108864 → FitsSigned w64 z
fits_64 (pos a) h = record { sfits = omega arith }
fits_64 (negsuc a) h = record { sfits = omega arith }

back : (x z : ℤ) → x ≡ z → unsigned_abs z ≤ 67108864 → to_z w64 (of_z w64 x) ≡ z
back x z e h = ap (λ y. to_z w64 (of_z w64 y)) e ∙ to_z-of_z w64 z (fits_64 z h)

pub narrow-back : (m : Reading) (a : NumTree) (x : Option ℤ) (r : ℤ) → r ≡ or_nought x → x ≡ checked_number m a → Narrow m a → to_z w64 (of_z w64 r) ≡ read_number m a
narrow-back m a x r e f n = back r (read_number m a) (narrow-value m a x r e f n) n.small

pub moved-back : (s : List Spot) (a : NumTree) (x : Option ℤ) (r : ℤ) → r ≡ or_nought x → x ≡ checked_moved s a → length s * card_weight a ≤ 67108864 → to_z w64 (of_z w64 r) ≡ moved s a
moved-back s a x r e f h = back r (moved s a) (e ∙ moved_small s a x f h) (omega (arith, moved-bound s a, h))

pub moved-back-small : (s : List Spot) (a : NumTree) (x : Option ℤ) (r : ℤ) → r ≡ or_nought x → x ≡ checked_moved s a → length s * card_weight a ≤ 67108864 → unsigned_abs (to_z w64 (of_z w64 r)) ≤ 67108864
moved-back-small s a x r e f h = along (to_z w64 (of_z w64 r)) (moved s a) 67108864 (moved-back s a x r e f h) (omega (arith, moved-bound s a, h))
