use Rattle.std.proofs.Common.{◌<◌, ℕ}
use Rattle.jh_containers.specs.declared.transitive_closure.facts.Fact.{Fact}
use Rattle.jh_containers.specs.transitive_closure.Spreads.{IsIn}
use Rattle.jh_effects.specs.written_state.Reaching.{IsReached}
use Rattle.jh_effects.proofs.written_state.reaching.reached_facts.Given as goal

abbrev pub invariant-loop-of : goal.invariant-loop-of
invariant-loop-of l = record {
  added : (k what : ℕ) → k < l.of → IsReached l.given l.sources k what → IsIn l.list (record { of = k; what = what });
  only : (f : Fact) → IsIn l.list f → IsReached l.given l.sources f.of f.what;
}
