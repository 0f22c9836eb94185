use Rattle.std.proofs.Common.{◌≡◌, [], map, drop}
use Rattle.jh_state_facts.specs.well_formedness.States.{local_of}
use Rattle.jh_loop_targets.specs.Gathering.{with_all}
use Rattle.jh_loop_targets.specs.Noted.{names_in}
use Rattle.jh_loop_targets.proofs.changed.names_of.Given as goal

abbrev pub invariant-loop-place : goal.invariant-loop-place
invariant-loop-place l = with_all (names_in l.names) (map local_of (drop l.place l.scope)) ≡ with_all [] (map local_of l.scope)
