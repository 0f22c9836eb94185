use Rattle.jh_containers.proofs.transitive_closure.Edging.{none-in-empty}
use Rattle.jh_containers.proofs.transitive_closure.edges.Edges.none.Goals as goal

-- src/edges.rt
pub returns-clause-none : goal.returns-clause-none
returns-clause-none c = none-in-empty c.loop-thing.rows.items c.loop-thing.invariant.empty
