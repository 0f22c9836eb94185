use Rattle.std.proofs.Common.{subst, List, ℕ}
use Rattle.jh_closure.specs.congruence_closure.Nodes.{Has}
use Rattle.jh_closure.proofs.congruence_closure.Having.{has-at}
use Rattle.jh_search.proofs.deciding.is_wanted.Goals as goal

pub is_open-requires-clause-inside : goal.is_open-requires-clause-inside
is_open-requires-clause-inside c = c.requires.branch.problem.posed.occurrences.inside c.args.atom c.place_at.result (subst (λ (xs : List ℕ). Has xs c.place_at.result) c.places-places.ensures (has-at c.places-places.result.now c.loop-index.index c.place_at.result c.place_at.ensures))
