-- What a value of code is among those of all sorts, and that it is in a universe.
use Rattle.std.specs.Prelude.{ℕ, suc, ◌<◌}
use Rattle.jh_form.specs.Meaning.{Datum, an_object, a_number, a_truth}
use Rattle.jh_operands.specs.declared.values.Scalar.{Scalar}
use Rattle.jh_operands.specs.declared.values.Scalar.TheVariants as v

unfoldable pub datum_of : Scalar → Datum
datum_of (v.Object a) = an_object a
datum_of (v.Number z) = a_number z
datum_of (v.Truth b) = a_truth b

-- an object is one of 0 to `last`
unfoldable pub IsInside : ℕ → Scalar → Type 0
IsInside last (v.Object a) = a < suc last
IsInside last (v.Number z) = Unit {0}
IsInside last (v.Truth b) = Unit {0}
