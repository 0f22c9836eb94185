-- Formulas of a run that leave their integers.
use Rattle.std.specs.Prelude.{◌≡◌, ◌⊎◌, ℤ, [], FitsSigned}
use Rattle.std.specs.Int.{w64}
use Rattle.jh_name.specs.declared.place.Place.{Place}
use Rattle.jh_form.specs.Tree.{ValueTree}
use Rattle.jh_form.specs.Meaning.{Interp, Datum, a_number, datum}
use Rattle.jh_sem.specs.declared.answer.SemError.{SemError}
use Rattle.jh_sem.specs.declared.answer.SemError.TheVariants as e
use Rattle.jh_sem.specs.Wide.{IsWide}
use Rattle.jh_machine.specs.declared.continuation.stop.Stop.{Stop}
use Rattle.jh_machine.specs.declared.continuation.stop.Stop.TheVariants as s

-- a value that is to be stored is a number that is none of `i64`
abbrev pub IsTooGreat : Datum → Type 0
IsTooGreat d = (z : ℤ) × (d ≡ a_number z) × (FitsSigned w64 z → ⊥)

-- a formula leaves its integers: a number term in it those of the evaluation, or its value those of a memory
abbrev pub ValueOverflows : Interp → ValueTree → Type 0
ValueOverflows m v = IsWide m v ⊎ IsTooGreat (datum v m [])

-- the stop of a formula at a place that has no answer
unfoldable pub stop_for : Place → SemError → Stop
stop_for p e.Wide = s.Overflow p
stop_for p e.Memory = s.Memory

-- a formula at a place has no value for want of memory, or overflows
unfoldable pub OverflowsOnly : Place → Type 0 → Stop → Type 0
OverflowsOnly p Overflows (s.Overflow q) = (q ≡ p) × Overflows
OverflowsOnly p Overflows s.Memory = Unit {0}
OverflowsOnly p Overflows _ = ⊥
