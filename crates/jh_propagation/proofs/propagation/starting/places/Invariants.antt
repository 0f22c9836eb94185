use Rattle.std.proofs.Common.{ℕ, ◌<◌, ◌↔◌}
use Rattle.jh_closure.specs.congruence_closure.Nodes.{Has}
use Rattle.jh_propagation.proofs.propagation.starting.places.Given as goal

abbrev pub invariant-loop-place : goal.invariant-loop-place
invariant-loop-place l = (j : ℕ) → Has l.made.items j ↔ (j < l.place)
