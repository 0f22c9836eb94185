use Rattle.std.proofs.Common.{◌≡◌, ◌||◌, drop}
use Rattle.jh_query.specs.queries.Bare.{cond_tree}
use Rattle.jh_bapa.specs.decision.Cases.{conds_of}
use Rattle.jh_bapa.specs.decision.Searching.{is_among}
use Rattle.jh_bapa.proofs.decision.casing.is_among.Given as goal

abbrev pub invariant-loop-atom : goal.invariant-loop-atom
invariant-loop-atom l = is_among (conds_of l.atoms) (cond_tree l.cond) ≡ (l.any || is_among (conds_of (drop l.atom-index l.atoms)) (cond_tree l.cond))
