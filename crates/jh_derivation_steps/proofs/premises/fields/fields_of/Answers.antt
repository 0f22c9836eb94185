use Rattle.jh_derivation_steps.proofs.premises.Carried.{if-ok}
use Rattle.jh_derivation_steps.proofs.premises.Members.{list-inside, forest-nodes}
use Rattle.jh_derivation_steps.proofs.premises.fields.fields_of.Goals as goal

pub copied-requires : goal.copied-requires
copied-requires c = list-inside c.args.table.now c.args.node c.in-Tree.list c.shape.result c.shape.ensures.fits c.in-Tree.is

pub returns-in-Tree : goal.returns-in-Tree
returns-in-Tree c =
    if-ok c.copied.result
    (λ made at. forest-nodes c.args.table.now c.args.node c.in-Tree.list c.shape.result c.shape.ensures.fits c.in-Tree.is made.items c.shape.ensures.tree at)
    c.copied.ensures
