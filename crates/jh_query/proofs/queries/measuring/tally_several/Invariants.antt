use Rattle.std.proofs.Common.{◌-◌, drop, length, map}
use Rattle.std.specs.List.{flat_map}
use Rattle.jh_query.specs.queries.Bare.{cond_tree, query_tree}
use Rattle.jh_query.specs.queries.Later.{later_atoms}
use Rattle.jh_query.specs.queries.Size.{atoms}
use Rattle.jh_query.specs.queries.Tallies.{IsTally, fresh}
use Rattle.jh_query.proofs.queries.measuring.tally_several.Given as goal

abbrev pub invariant-loop-behind : goal.invariant-loop-behind
invariant-loop-behind l = IsTally (query_tree l.query) l.tally (fresh (flat_map atoms (map cond_tree (drop (length l.conds - l.behind) l.conds))) (later_atoms l.later))
