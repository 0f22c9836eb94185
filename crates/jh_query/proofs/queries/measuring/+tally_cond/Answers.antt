use Rattle.jh_query.specs.queries.Bare.{cond_tree, query_tree}
use Rattle.jh_query.specs.queries.Later.{later_atoms}
use Rattle.jh_query.specs.queries.Size.{atoms}
use Rattle.jh_query.proofs.queries.Parts.{two_parts}
use Rattle.jh_query.proofs.queries.Tallying.{tally-both}
use Rattle.jh_query.proofs.queries.measuring.+tally_cond.Goals as goal

pub returns-in-And : goal.returns-in-And
returns-in-And t c =
    let parts = two_parts c.args.cond.now c.in-And.left c.in-And.right c.in-And.is in
    let first = rw (c.deref-in-And.ensures, c.deref-in-And-2.ensures) at c.tally_cond-in-And.ensures in
    let second = rw c.deref-in-And-3.ensures at c.tally_cond-in-And-2.ensures in
    rw parts
    (tally-both (query_tree c.args.query.now) c.joined.result c.tally_cond-in-And.result c.tally_cond-in-And-2.result
    (atoms (cond_tree c.in-And.left.value)) (atoms (cond_tree c.in-And.right.value)) (later_atoms c.args.later.now) c.joined.ensures first second)
