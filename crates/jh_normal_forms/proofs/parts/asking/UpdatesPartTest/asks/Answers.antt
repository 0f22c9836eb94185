use Rattle.std.proofs.Common.{◌∙◌, slice_get}
use Rattle.jh_arena.specs.table.Nodes.{nodes, tree_in}
use Rattle.jh_normal_forms.specs.parts.Asked.{is_update}
use Rattle.jh_normal_forms.proofs.parts.Askings.{update-shape, asked-there}
use Rattle.jh_normal_forms.proofs.parts.asking.UpdatesPartTest.asks.Goals as goal

pub returns : goal.returns
returns c =
    asked-there is_update (slice_get (nodes c.args.table.now) c.args.node) (tree_in c.args.table.now c.shape.result) c.is_update.result c.shape.ensures.tree
    (c.is_update.ensures ∙ update-shape c.args.table.now.pools (nodes c.args.table.now) c.shape.result)
