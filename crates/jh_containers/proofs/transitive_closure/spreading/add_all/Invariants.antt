use Rattle.std.proofs.Common.{◌⊎◌}
use Rattle.jh_containers.specs.declared.transitive_closure.facts.Fact.{Fact}
use Rattle.jh_containers.specs.transitive_closure.Spreads.{IsIn}
use Rattle.jh_containers.proofs.transitive_closure.Places.{Added}
use Rattle.jh_containers.proofs.transitive_closure.spreading.add_all.Given as goal

abbrev pub invariant-loop-fact : goal.invariant-loop-fact
invariant-loop-fact l = record {
  added : Added l.facts (λ f. f) l.list l.fact-index;
  only : (f : Fact) → IsIn l.list f → IsIn l.facts f ⊎ IsIn l.initial.list f;
}
