use Rattle.std.proofs.Common.{◌∙◌, slice_get}
use Rattle.jh_arena.specs.table.Nodes.{nodes, tree_in}
use Rattle.jh_normal_forms.specs.parts.Asked.{is_free_name}
use Rattle.jh_normal_forms.proofs.parts.Askings.{free_name-shape, asked-there}
use Rattle.jh_normal_forms.proofs.parts.asking.FreeNamesPartTest.asks.Goals as goal

pub returns : goal.returns
returns c =
    asked-there is_free_name (slice_get (nodes c.args.table.now) c.args.node) (tree_in c.args.table.now c.shape.result) c.is_free_name.result c.shape.ensures.tree
    (c.is_free_name.ensures ∙ free_name-shape c.args.table.now.pools (nodes c.args.table.now) c.shape.result)
