use Rattle.std.proofs.Common.{◌≡◌, ◌++◌, drop}
use Rattle.jh_state_facts.specs.changes.Added.{sorted_in}
use Rattle.jh_loop_targets.specs.Noted.{names_in}
use Rattle.jh_loop_targets.proofs.changed.push_locals.Given as goal

abbrev pub invariant-loop-place : goal.invariant-loop-place
invariant-loop-place l = sorted_in l.names.items ++ drop l.place (names_in l.locals) ≡ sorted_in l.initial.names.items ++ names_in l.locals
