-- Runs of methods from heaps on the lowest free objects, as the definition of runs has them.
use Rattle.std.specs.Prelude.{ℕ, map}
use Rattle.jh_name.specs.declared.place.Place.{Place}
use Rattle.jh_vars.specs.Written.{Callee}
use Rattle.jh_semantics.specs.Program.{Program}
use Rattle.jh_semantics.specs.Objects.{free}
use Rattle.jh_semantics.specs.Progress.{Outcome}
use Rattle.jh_semantics.specs.Execution.{run}
use Rattle.jh_semantics.specs.Heaps.{Heap, Args, state_of, this_object, cell_value}
use Rattle.jh_machine.specs.continuation.Overflows.{RunOverflows}

abbrev pub outcome_on : Program → Callee → Heap → Args → ℕ → Outcome
outcome_on p m h args k = run p m (state_of p h) (this_object args) (map cell_value args.values) (free (state_of p h)) k

-- something overflows at a place in it
abbrev pub OverflowsOn : Program → Callee → Heap → Args → ℕ → Place → Type 0
OverflowsOn p m h args k q = RunOverflows p q m (state_of p h) (this_object args) (map cell_value args.values) (free (state_of p h)) k
