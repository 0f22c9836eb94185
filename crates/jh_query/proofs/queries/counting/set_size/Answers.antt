use Rattle.std.proofs.lemmas.List.{length-map}
use Rattle.jh_query.specs.queries.Sizing.{spelled}
use Rattle.jh_query.proofs.queries.counting.set_size.Goals as goal

pub returns : goal.returns
returns c =
    let rests = rw c.items.ensures at c.in_ok-rests.ensures in
    let classes = rw c.items-2.ensures at c.classes_inside-classes.ensures.value in
    let both = rw (rests, classes) at c.in_ok-checked_add.ensures.1 in
    rw (length-map c.args.sizes.now.rest spelled) (rw both at c.signed.ensures)
