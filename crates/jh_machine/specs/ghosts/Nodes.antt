-- The values of nodes in a run.
use Rattle.std.specs.Prelude.{◌≡◌, ℕ, suc, Bool, false, ◌&&◌, nat_lt, List, [], ◌∷◌, get_or}
use Rattle.jh_form.specs.Meaning.{Fields, Datum, a_set, a_field}
use Rattle.jh_operands.specs.declared.values.Scalar.{Scalar}
use Rattle.jh_operands.specs.Scalars.{datum_of, IsInside}
use Rattle.jh_machine.specs.declared.ghosts.ghosts.NodeValue.{NodeValue}
use Rattle.jh_machine.specs.declared.ghosts.ghosts.NodeValue.TheVariants as v

-- a list says of each object of a universe whether it is a member, and that others are none
abbrev pub AreMembers : ℕ → List Bool → (ℕ → Bool) → Type 0
AreMembers last row test = (a : ℕ) → get_or row a false ≡ (nat_lt a (suc last) && test a)

-- a list says of the first objects whether they are members, one after another
unfoldable pub Lists : List Bool → (ℕ → Bool) → Type 0
Lists [] test = Unit {0}
Lists (b ∷ row) test = (b ≡ test 0) × Lists row (λ a. test (suc a))

-- A value is that of a node in a universe; of a set, the members that are of the universe are listed.
unfoldable pub IsValue : ℕ → NodeValue → Datum → Type 0
IsValue last (v.Scalar x) d = d ≡ datum_of x
IsValue last (v.Set row) d = (test : ℕ → Bool) × (d ≡ a_set test) × AreMembers last row.items test
IsValue last v.Field d = (f : Fields) × (d ≡ a_field f)

unfoldable pub ValueInside : ℕ → NodeValue → Type 0
ValueInside last (v.Scalar x) = IsInside last x
ValueInside last (v.Set row) = Unit {0}
ValueInside last v.Field = Unit {0}
