-- Why a run stops.
use Rattle.std.specs.Prelude.{◌≡◌}
use Rattle.jh_name.specs.declared.place.Place.{Place}
use Rattle.jh_semantics.specs.Code.{Target}
use Rattle.jh_semantics.specs.State.{State}
use Rattle.jh_semantics.specs.Objects.{target_of}
use Rattle.jh_semantics.specs.Progress.{Progress, stops, null_dereferenced, assert_failed, no_object, steps_out}
use Rattle.jh_operands.specs.declared.fault.Fault.{Fault}
use Rattle.jh_operands.specs.declared.fault.Fault.TheVariants as f
use Rattle.jh_operands.specs.Faults.{IsFault, Never}
use Rattle.jh_machine.specs.declared.continuation.stop.Stop.{Stop}
use Rattle.jh_machine.specs.declared.continuation.stop.Stop.TheVariants as s

unfoldable pub stop_of : Fault → Stop
stop_of (f.Null p) = s.Null p
stop_of (f.Overflow p) = s.Overflow p

-- A run leads to a stop as the definition has it, or something overflows at that place, or memory ran out.
unfoldable pub StopsAs : Progress → (Place → Type 0) → Stop → Type 0
StopsAs x Overflows (s.Null p) = x ≡ stops (null_dereferenced p)
StopsAs x Overflows (s.AssertFailed p) = x ≡ stops (assert_failed p)
StopsAs x Overflows (s.NoObject p) = x ≡ stops (no_object p)
StopsAs x Overflows s.StepsOut = x ≡ stops steps_out
StopsAs x Overflows (s.Overflow p) = Overflows p
StopsAs x Overflows s.Memory = Unit {0}

-- a fault is that of the object of a target
abbrev pub TargetFault : Target → State → Fault → Type 0
TargetFault target s e = IsFault (target_of target s) Never e
