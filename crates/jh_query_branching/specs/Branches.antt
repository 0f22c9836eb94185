-- What branches when a query is decided: the spot of an object of its own, the cases of an atom, and what the classes of
-- the elements that stand add to a number.
use Rattle.std.specs.Prelude.{◌≡◌, ℕ, ◌==◌, ◌≤◌, true, if◌then◌else◌, List, length, Option, Some, None, is_some, ℤ, pos, ◌+ℤ◌, ◌-ℤ◌, ◌*ℤ◌, neg_ℤ, unsigned_abs}
use Rattle.std.specs.Ordering.{int_eq}
use Rattle.jh_query.specs.declared.queries.sizes.Spot.{Spot}
use Rattle.jh_query.specs.queries.Tree.{NumTree, CondTree}
use Rattle.jh_query.specs.queries.Tree as t
use Rattle.jh_query.specs.queries.Truth.{Reading, classes_in, read_number}
use Rattle.jh_query.specs.queries.Fitting.{both_fitted, checked_number, fitted_of}
use Rattle.jh_query.specs.queries.Linear.{constant_part, placed_part}
use Rattle.jh_query.specs.declared.partial_truth.casing.Case.{Case}
use Rattle.jh_query.specs.declared.partial_truth.casing.Case.TheVariants.{True, False, Greater, Remainder}

-- where the next element stands as an object of its own: its class is its own number
abbrev pub new_spot : List Spot → ℕ → Spot
new_spot spots r = record { class = length spots; region = r }

-- The cases of an atom that isn't on elements, by number; one of them is met by any sizes.
abbrev pub case_count : CondTree → ℕ
case_count (t.equal_num a b) = 3
case_count (t.divides k a) = unsigned_abs k
case_count c = 2

abbrev pub truth_case : ℕ → Case
truth_case n = if n == 0 then True else (if n == 1 then False else Greater)

abbrev pub case_at : CondTree → ℕ → Case
case_at (t.divides k a) n = Remainder n
case_at c n = truth_case n

-- what the classes of a placement add to a number
abbrev pub moved : List Spot → NumTree → ℤ
moved spots a = read_number (placed_part spots) a -ℤ read_number constant_part a

-- the same, where neither it nor a part of it leaves `i128`; where the factor is 0 the operand isn't looked at
abbrev pub checked_moved : List Spot → NumTree → Option ℤ
checked_moved spots (t.const c) = Some (pos 0)
checked_moved spots (t.number l) = Some (pos 0)
checked_moved spots (t.add a b) = both_fitted (λ x y. x +ℤ y) (checked_moved spots a) (checked_moved spots b)
checked_moved spots (t.sub a b) = both_fitted (λ x y. x -ℤ y) (checked_moved spots a) (checked_moved spots b)
checked_moved spots (t.neg a) = fitted_of neg_ℤ (checked_moved spots a)
checked_moved spots (t.scale k a) = if int_eq k (pos 0) then Some (pos 0) else fitted_of (λ x. k *ℤ x) (checked_moved spots a)
checked_moved spots (t.card s) = Some (pos (classes_in spots s))

-- a factor or a constant is there, and isn't large
pub record Narrow (m : Reading) (a : NumTree) : Type 0 where
  pub some : is_some (checked_number m a) ≡ true
  pub small : unsigned_abs (read_number m a) ≤ 67108864

abbrev pub or_nought : Option ℤ → ℤ
or_nought None = pos 0
or_nought (Some z) = z
