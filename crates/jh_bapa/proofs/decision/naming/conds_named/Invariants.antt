use Rattle.std.proofs.Common.{◌≡◌, ◌&&◌, drop, map}
use Rattle.std.specs.List.{list_all}
use Rattle.jh_query.specs.queries.Bare.{cond_tree, query_tree}
use Rattle.jh_query.specs.queries.Named.{cond_named, room_of}
use Rattle.jh_bapa.proofs.decision.naming.conds_named.Given as goal

abbrev pub invariant-loop-cond : goal.invariant-loop-cond
invariant-loop-cond l = list_all (cond_named (room_of (query_tree l.query))) (map cond_tree l.conds) ≡ (l.all && list_all (cond_named (room_of (query_tree l.query))) (map cond_tree (drop l.cond-index l.conds)))
