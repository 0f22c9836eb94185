use Rattle.std.proofs.Common.{◌≡◌, Some, true, drop, map, take}
use Rattle.jh_query.specs.queries.Bare.{cond_tree}
use Rattle.jh_query.specs.partial_truth.Judged.{TellsAll, all_told}
use Rattle.jh_query.proofs.partial_truth.judging.judge_several.Given as goal

abbrev pub invariant-loop-cond : goal.invariant-loop-cond
invariant-loop-cond l = record {
  tells : TellsAll l.all l.spots l.atoms (map cond_tree (take l.cond-index l.conds));
  exact : all_told l.spots l.atoms l.all (map cond_tree (drop l.cond-index l.conds)) ≡ all_told l.spots l.atoms (Some true) (map cond_tree l.conds);
}
