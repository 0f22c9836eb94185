use Rattle.std.proofs.Common.{◌≡◌, ◌||◌, map, drop}
use Rattle.std.specs.List.{list_any}
use Rattle.jh_query.specs.queries.Bare.{cond_tree}
use Rattle.jh_query.specs.queries.Size.{asserts}
use Rattle.jh_query.proofs.queries.demands.are_asserting.Given as goal

abbrev pub invariant-loop-cond : goal.invariant-loop-cond
invariant-loop-cond l = list_any (asserts l.truth (cond_tree l.atom)) (map cond_tree l.conds) ≡ (l.any || list_any (asserts l.truth (cond_tree l.atom)) (map cond_tree (drop l.cond-index l.conds)))
