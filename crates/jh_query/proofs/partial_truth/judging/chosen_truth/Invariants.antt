use Rattle.std.proofs.Common.{◌≡◌, drop}
use Rattle.jh_query.specs.queries.Bare.{cond_tree}
use Rattle.jh_query.specs.partial_truth.Judged.{chosen}
use Rattle.jh_query.proofs.partial_truth.judging.chosen_truth.Given as goal

abbrev pub invariant-loop-place : goal.invariant-loop-place
invariant-loop-place l = chosen (drop l.place l.atoms) (cond_tree l.cond) ≡ chosen l.atoms (cond_tree l.cond)
