use Rattle.jh_containers.specs.declared.transitive_closure.facts.Fact.{Fact}
use Rattle.jh_containers.specs.transitive_closure.Spreads.{IsIn, Spreads}
use Rattle.jh_containers.proofs.transitive_closure.Places.{Done}
use Rattle.jh_containers.proofs.transitive_closure.spreading.spread.Given as goal

abbrev pub invariant-loop-turn : goal.invariant-loop-turn
invariant-loop-turn l = record {
  start : (f : Fact) → IsIn l.facts f → IsIn l.list f;
  sound : (f : Fact) → IsIn l.list f → Spreads l.facts l.edges f;
  done : Done l.facts l.edges l.list l.at;
}
