use Rattle.std.proofs.Common.{◌≡◌, ◌&&◌, map, drop}
use Rattle.std.specs.List.{list_all}
use Rattle.jh_query.specs.queries.Bare.{cond_tree}
use Rattle.jh_query.specs.queries.Sizing.{sizing_of}
use Rattle.jh_query.specs.queries.Truth.{holds}
use Rattle.jh_query.proofs.queries.holding.are_true.Given as goal

abbrev pub invariant-loop-cond : goal.invariant-loop-cond
invariant-loop-cond l = list_all (holds (sizing_of l.sizes)) (map cond_tree l.conds) ≡ (l.all && list_all (holds (sizing_of l.sizes)) (map cond_tree (drop l.cond-index l.conds)))
