use Rattle.std.proofs.Common.{sym, subst, ℕ, List, ◌<◌, ◌+◌, ◌↔◌}
use Rattle.jh_closure.specs.congruence_closure.Nodes.{Has}
use Rattle.jh_propagation.proofs.propagation.Starts.{below-more}
use Rattle.jh_propagation.proofs.propagation.starting.places.Goals as goal

pub loop-place-preserved : goal.loop-place-preserved
loop-place-preserved c = λ j. subst (λ (xs : List ℕ). Has xs j ↔ (j < c.loop-place.place + 1)) (sym c.in_ok-push.ensures.items) (below-more c.loop-place.made.items c.loop-place.place c.loop-place.invariant j)
