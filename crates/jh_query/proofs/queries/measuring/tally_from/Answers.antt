use Rattle.std.proofs.Common.{◌≡◌, ◌+◌, ◌-◌, arith, drop, length, length-drop, map, take}
use Rattle.std.specs.List.{flat_map}
use Rattle.std.proofs.lemmas.List.{take_all}
use Rattle.jh_query.specs.queries.Bare.{cond_tree, query_tree}
use Rattle.jh_query.specs.queries.Later.{later_atoms}
use Rattle.jh_query.specs.queries.Size.{atoms}
use Rattle.jh_query.proofs.queries.Standing.{next_cond}
use Rattle.jh_query.proofs.queries.Tallying.{tally-both}
use Rattle.jh_query.proofs.queries.measuring.tally_from.Goals as goal

pub returns : goal.returns
returns c =
    let conds = c.args.conds.now in
    let rest = drop (c.args.at + 1) conds in
    let all : take (length conds - (c.args.at + 1)) rest ≡ rest = take_all (length conds - (c.args.at + 1)) rest (omega (arith, length-drop (c.args.at + 1) conds)) in
    rw (next_cond conds c.args.at c.index-conds-at.result c.requires.at c.index-conds-at.is)
    (tally-both (query_tree c.args.query.now) c.joined.result c.tally_cond.result c.args.behind (atoms (cond_tree c.index-conds-at.result)) (flat_map atoms (map cond_tree rest)) (later_atoms c.args.later.now) c.joined.ensures (rw all at c.tally_cond.ensures) c.requires.behind)
