use Rattle.std.proofs.Common.{◌≡◌, ◌++◌, filter, drop}
use Rattle.jh_guard.specs.Items.{Sorted}
use Rattle.jh_state_facts.specs.changes.Added.{sorted_in}
use Rattle.jh_loop_targets.specs.Noted.{holds}
use Rattle.jh_loop_targets.proofs.changed.push_held.Given as goal

abbrev pub invariant-loop-place : goal.invariant-loop-place
invariant-loop-place l = sorted_in l.names.items ++ filter (λ (s : Sorted). holds l.written s.text) (sorted_in (drop l.place l.states)) ≡ sorted_in l.initial.names.items ++ filter (λ (s : Sorted). holds l.written s.text) (sorted_in l.states)
