use Rattle.std.proofs.Common.{[], map}
use Rattle.std.specs.List.{flat_map}
use Rattle.jh_query.specs.queries.Bare.{cond_tree, query_tree}
use Rattle.jh_query.specs.queries.Size.{atoms, atoms_of}
use Rattle.jh_query.proofs.queries.Tallying.{fresh-alone, tally-both}
use Rattle.jh_query.proofs.queries.measuring.tally_all.Goals as goal

pub returns : goal.returns
returns c =
    let q = query_tree c.args.query.now in
    let hyps = rw c.items.ensures at c.tally_several-hyps.ensures in
    rw (← fresh-alone (atoms_of q))
    (tally-both q c.joined.result c.tally_several-hyps.result c.tally_cond.result (flat_map atoms (map cond_tree c.args.query.now.hyps)) (atoms (cond_tree c.args.query.now.goal)) [] c.joined.ensures hyps c.tally_cond.ensures)
