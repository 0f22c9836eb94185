use Rattle.std.proofs.Common.{◌≡◌, drop}
use Rattle.jh_query.specs.queries.Bare.{cond_tree}
use Rattle.jh_query.specs.partial_truth.Judged.{chosen}
use Rattle.jh_bapa.specs.decision.Cases.{conds_of}
use Rattle.jh_bapa.specs.decision.Searching.{is_among}
use Rattle.jh_bapa.proofs.decision.judging.open_place.Given as goal

abbrev pub invariant-loop-place : goal.invariant-loop-place
invariant-loop-place l = record {
  chosen : chosen (drop l.place l.atoms) (cond_tree l.cond) ≡ chosen l.atoms (cond_tree l.cond);
  among : is_among (conds_of (drop l.place l.atoms)) (cond_tree l.cond) ≡ is_among (conds_of l.atoms) (cond_tree l.cond);
}
