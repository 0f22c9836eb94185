-- Numbers of which no part leaves `i128`.
use Rattle.std.specs.Prelude.{◌^◌, nat_lt, Bool, if◌then◌else◌, ℤ, pos, negsuc, ◌+ℤ◌, ◌-ℤ◌, ◌*ℤ◌, neg_ℤ, Option, Some, None}
use Rattle.jh_query.specs.queries.Tree.{NumTree}
use Rattle.jh_query.specs.queries.Tree as t
use Rattle.jh_query.specs.queries.Truth.{Reading}

-- whether a number is in `i128`
abbrev pub is_wide : ℤ → Bool
is_wide (pos a) = nat_lt a (2 ^ 127)
is_wide (negsuc a) = nat_lt a (2 ^ 127)

-- a number that is in `i128`
abbrev pub fitted : ℤ → Option ℤ
fitted z = if is_wide z then Some z else None

abbrev pub fitted_of : (ℤ → ℤ) → Option ℤ → Option ℤ
fitted_of f None = None
fitted_of f (Some a) = fitted (f a)

abbrev pub both_fitted : (ℤ → ℤ → ℤ) → Option ℤ → Option ℤ → Option ℤ
both_fitted f None b = None
both_fitted f (Some a) b = fitted_of (f a) b

-- what a number comes to, where neither it nor a part of it leaves `i128`
abbrev pub checked_number : Reading → NumTree → Option ℤ
checked_number m (t.const c) = fitted (m.constant c)
checked_number m (t.number l) = fitted (m.number l)
checked_number m (t.add a b) = both_fitted (λ x y. x +ℤ y) (checked_number m a) (checked_number m b)
checked_number m (t.sub a b) = both_fitted (λ x y. x -ℤ y) (checked_number m a) (checked_number m b)
checked_number m (t.neg a) = fitted_of neg_ℤ (checked_number m a)
checked_number m (t.scale k a) = fitted_of (λ x. k *ℤ x) (checked_number m a)
checked_number m (t.card s) = fitted (m.card s)

-- a test of two numbers, where there are both
abbrev pub both_of : (ℤ → ℤ → Bool) → Option ℤ → Option ℤ → Option Bool
both_of test None b = None
both_of test (Some x) None = None
both_of test (Some x) (Some y) = Some (test x y)
