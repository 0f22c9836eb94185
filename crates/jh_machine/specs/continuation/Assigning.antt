-- Assignments.
use Rattle.std.specs.Prelude.{◌≡◌, ℕ}
use Rattle.jh_name.specs.declared.place.Place.{Place}
use Rattle.jh_semantics.specs.Code.{Target, AnyCode}
use Rattle.jh_semantics.specs.State.{State}
use Rattle.jh_semantics.specs.Values.{value_of}
use Rattle.jh_semantics.specs.Objects.{target_of, put}
use Rattle.jh_semantics.specs.Progress.{Configuration, Progress, with_value}
use Rattle.jh_operands.specs.Faults.{HasValue, AnyOverflows}

-- where an assignment leads that was paid
abbrev pub assigned_by : Target → AnyCode → Configuration → Progress
assigned_by target e r = with_value (target_of target r.now) (λ a. with_value (value_of e r.now) (λ d. put target a d r))

-- the arithmetic at a place, in the value of an assignment, is taken, and overflows
abbrev pub AssignOverflows : Place → Target → AnyCode → State → Type 0
AssignOverflows p target e s = HasValue (target_of target s) × AnyOverflows p e s
