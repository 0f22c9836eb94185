use Rattle.std.proofs.Common.{◌≡◌, is_some, length, true, drop, map}
use Rattle.std.specs.List.{list_all}
use Rattle.jh_query.specs.queries.Bare.{cond_tree}
use Rattle.jh_query.specs.queries.Tree.{CondTree}
use Rattle.jh_query.specs.partial_truth.Judged.{told}
use Rattle.jh_bapa.specs.decision.Cases.{conds_of}
use Rattle.jh_bapa.specs.decision.Searching.{is_covered}
use Rattle.jh_bapa.specs.decision.Standing.{stands}
use Rattle.jh_bapa.proofs.decision.judging.open_query.Given as goal

abbrev pub invariant-loop-hyp : goal.invariant-loop-hyp
invariant-loop-hyp l = record {
  known : list_all (λ (c : CondTree). is_some (told l.spots l.atoms c)) (map cond_tree l.query.hyps) ≡ list_all (λ (c : CondTree). is_some (told l.spots l.atoms c)) (map cond_tree (drop l.hyp-index l.query.hyps));
  covered : list_all (is_covered (conds_of l.atoms)) (map cond_tree (drop l.hyp-index l.query.hyps)) ≡ true;
  stand : list_all (stands (length l.spots)) (map cond_tree (drop l.hyp-index l.query.hyps)) ≡ true;
}
