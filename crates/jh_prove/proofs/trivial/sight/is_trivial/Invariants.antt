use Rattle.std.proofs.Common.{drop, map}
use Rattle.jh_prove.specs.trivial.Trivial.{SomeGives}
use Rattle.jh_prove.specs.trivial.Facts.{truth_at}
use Rattle.jh_prove.proofs.trivial.sight.is_trivial.Given as goal

-- what some fact gives, a fact gives that is left
abbrev pub invariant-loop-fact : goal.invariant-loop-fact
invariant-loop-fact l = SomeGives (truth_at l.table l.goal) (map (truth_at l.table) l.facts) → SomeGives (truth_at l.table l.goal) (map (truth_at l.table) (drop l.fact-index l.facts))
