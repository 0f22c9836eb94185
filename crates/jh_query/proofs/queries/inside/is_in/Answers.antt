use Rattle.std.proofs.Common.{◌≡◌, ℕ, ◌<◌, ◌≤◌, ◌^◌, ◌/◌, false, nat_lt, refl, arith, rules}
use Rattle.std.proofs.Math.Nat.{div-eq_of_lt, pow-le-pow_right}
use Rattle.jh_query.specs.queries.Truth.{is_in}
use Rattle.jh_query.proofs.queries.inside.is_in.Goals as goal

-- a region has no bits from the 64th on
high : (r k : ℕ) → r < 2 ^ 64 → 64 ≤ k → nat_lt k 64 ≡ false → nat_lt k 64 ≡ is_in r k
high r k small far e =
    let some : 0 < 2 = omega arith in
    let wide : 2 ^ 64 ≤ 2 ^ k = pow-le-pow_right {n = 2} some far in
    let below : r < 2 ^ k = omega (arith, small, wide) in
    let none : r / 2 ^ k ≡ 0 = div-eq_of_lt below in
    rw (e, none) refl

pub returns-else-set-lt64 : goal.returns-else-set-lt64
returns-else-set-lt64 c = high c.args.region c.args.set (omega (arith, c.ranges.region)) (omega (arith, c.if-set-lt64.false)) (search (rules, c.if-set-lt64.false))
