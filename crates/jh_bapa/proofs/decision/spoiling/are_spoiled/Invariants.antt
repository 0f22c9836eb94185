use Rattle.std.proofs.Common.{◌≡◌, map, take}
use Rattle.std.specs.List.{list_any}
use Rattle.jh_query.specs.queries.Bare.{cond_tree}
use Rattle.jh_bapa.specs.decision.Spoiled.{is_spoiled}
use Rattle.jh_bapa.proofs.decision.spoiling.are_spoiled.Given as goal

abbrev pub invariant-loop-cond : goal.invariant-loop-cond
invariant-loop-cond l = l.any ≡ list_any (is_spoiled l.spots) (map cond_tree (take l.cond-index l.conds))
