use Rattle.std.proofs.Common.{◌≡◌, [], true, drop, map}
use Rattle.jh_query.specs.queries.Bare.{cond_tree}
use Rattle.jh_bapa.specs.decision.Cases.{conds_of}
use Rattle.jh_bapa.specs.decision.Searching.{are_open, gathered_all}
use Rattle.jh_bapa.proofs.decision.casing.atoms_of.Given as goal

abbrev pub invariant-loop-hyp : goal.invariant-loop-hyp
invariant-loop-hyp l = record {
  conds : gathered_all (conds_of l.atoms.items) (map cond_tree (drop l.hyp-index l.query.hyps)) ≡ gathered_all [] (map cond_tree l.query.hyps);
  fresh : are_open l.atoms.items ≡ true;
}
