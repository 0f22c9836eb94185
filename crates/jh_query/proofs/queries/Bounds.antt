-- How far the classes of a placement move a number from its constant.
use Rattle.std.proofs.Common.{◌≡◌, refl, ℕ, zero, suc, ◌+◌, ◌*◌, ◌≤◌, Bool, true, false, if◌then◌else◌, ◌&&◌, List, length, ℤ, pos, negsuc, ◌+ℤ◌, ◌-ℤ◌, ◌*ℤ◌, neg_ℤ, ap, sym, ◌∙◌, arith}
use Rattle.std.specs.Prelude.{unsigned_abs}
use Rattle.std.proofs.lemmas.Int.{ints, unsigned_abs-mul}
use Rattle.std.proofs.Math.Nat.{mul-le-mul_left}
use Rattle.std.proofs.Math.IntN.{*ℤ_comm}
use Rattle.jh_form.specs.Meaning.{count_below}
use Rattle.jh_query.specs.declared.queries.sizes.Spot.{Spot}
use Rattle.jh_query.specs.queries.Tree.{NumTree, SetExprTree}
use Rattle.jh_query.specs.queries.Tree as t
use Rattle.jh_query.specs.queries.Truth.{read_number, classes_in, is_first, class_lies}
use Rattle.jh_query.specs.queries.Linear.{constant_part, placed_part}
use Rattle.jh_query.specs.queries.Size.{card_weight}
use Rattle.jh_query.proofs.queries.Products.{times-add, neg-times}

few : (n : ℕ) (p : ℕ → Bool) → count_below n p ≤ n
few zero p = omega arith
few (suc n) p = one (p n) (count_below n p) n (few n p)
  where
    one : (b : Bool) (c n : ℕ) → c ≤ n → c + (if b then 1 else 0) ≤ suc n
    one true c n h = omega arith
    one false c n h = omega arith

-- the sum is no farther from 0 than both
pub abs-add : (x y : ℤ) → unsigned_abs (x +ℤ y) ≤ unsigned_abs x + unsigned_abs y
abs-add (pos a) (pos b) = omega (arith, ints)
abs-add (pos a) (negsuc b) = omega (arith, ints)
abs-add (negsuc a) (pos b) = omega (arith, ints)
abs-add (negsuc a) (negsuc b) = omega (arith, ints)

abs-neg : (x : ℤ) → unsigned_abs (neg_ℤ x) ≡ unsigned_abs x
abs-neg (pos zero) = refl
abs-neg (pos (suc a)) = refl
abs-neg (negsuc a) = refl

-- how far the classes move a number
abbrev moved : List Spot → NumTree → ℤ
moved spots a = read_number (placed_part spots) a -ℤ read_number constant_part a

times_sub : (k p c : ℤ) → k *ℤ (p -ℤ c) ≡ (k *ℤ p) -ℤ (k *ℤ c)
times_sub k p c =
    let turned : p -ℤ c ≡ p +ℤ neg_ℤ c = omega (arith, ints) in
    let split : k *ℤ (p -ℤ c) ≡ (k *ℤ p) +ℤ (k *ℤ neg_ℤ c) = ap (λ x. k *ℤ x) turned ∙ times-add k p (neg_ℤ c) in
    let under : k *ℤ neg_ℤ c ≡ neg_ℤ (k *ℤ c) = *ℤ_comm k (neg_ℤ c) ∙ neg-times c k ∙ ap neg_ℤ (*ℤ_comm c k) in
    omega (arith, ints, split, under)

along : (x y : ℤ) (m : ℕ) → x ≡ y → unsigned_abs y ≤ m → unsigned_abs x ≤ m
along x y m e h = rw e h

-- each class is counted at most once in each size of a set
pub moved-bound : (spots : List Spot) (a : NumTree) → unsigned_abs (moved spots a) ≤ length spots * card_weight a
moved-bound spots (t.const c) =
    let none : c -ℤ c ≡ pos 0 = omega (arith, ints) in
    along _ _ _ none (omega arith)
moved-bound spots (t.number l) = omega arith
moved-bound spots (t.add a b) =
    let split : moved spots (t.add a b) ≡ moved spots a +ℤ moved spots b = omega (arith, ints) in
    along _ _ _ split (omega (arith, abs-add (moved spots a) (moved spots b), moved-bound spots a, moved-bound spots b))
moved-bound spots (t.sub a b) =
    let split : moved spots (t.sub a b) ≡ moved spots a +ℤ neg_ℤ (moved spots b) = omega (arith, ints) in
    along _ _ _ split (omega (arith, abs-add (moved spots a) (neg_ℤ (moved spots b)), abs-neg (moved spots b), moved-bound spots a, moved-bound spots b))
moved-bound spots (t.neg a) =
    let turned : moved spots (t.neg a) ≡ neg_ℤ (moved spots a) = omega (arith, ints) in
    along _ _ _ turned (omega (arith, abs-neg (moved spots a), moved-bound spots a))
moved-bound spots (t.scale k a) =
    let split : moved spots (t.scale k a) ≡ k *ℤ moved spots a = sym (times_sub k (read_number (placed_part spots) a) (read_number constant_part a)) in
    let size : unsigned_abs (k *ℤ moved spots a) ≡ unsigned_abs k * unsigned_abs (moved spots a) = unsigned_abs-mul k (moved spots a) in
    let most : unsigned_abs k * unsigned_abs (moved spots a) ≤ unsigned_abs k * (length spots * card_weight a) = mul-le-mul_left (unsigned_abs k) (moved-bound spots a) in
    along _ _ _ split (omega (arith, size, most))
moved-bound spots (t.card s) =
    let all : classes_in spots s ≤ length spots = few (length spots) (λ i. is_first spots i && class_lies spots i s) in
    let whole : moved spots (t.card s) ≡ pos (classes_in spots s) = omega (arith, ints) in
    along _ _ _ whole (omega (arith, all))

-- so what is left under a placement is no farther from 0 than the constant and all of these
pub placed-bound : (spots : List Spot) (a : NumTree) → unsigned_abs (read_number (placed_part spots) a) ≤ unsigned_abs (read_number constant_part a) + length spots * card_weight a
placed-bound spots a =
    let split : read_number (placed_part spots) a ≡ read_number constant_part a +ℤ moved spots a = omega (arith, ints) in
    along _ _ _ split (omega (arith, abs-add (read_number constant_part a) (moved spots a), moved-bound spots a))
