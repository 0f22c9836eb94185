use Rattle.std.proofs.Common.{◌∙◌, slice_get}
use Rattle.jh_arena.specs.table.Nodes.{nodes, tree_in}
use Rattle.jh_normal_forms.specs.parts.Asked.{is_field_list}
use Rattle.jh_normal_forms.proofs.parts.Askings.{field_list-shape, asked-there}
use Rattle.jh_normal_forms.proofs.parts.asking.FieldListsPartTest.asks.Goals as goal

pub returns : goal.returns
returns c =
    asked-there is_field_list (slice_get (nodes c.args.table.now) c.args.node) (tree_in c.args.table.now c.shape.result) c.is_field_list.result c.shape.ensures.tree
    (c.is_field_list.ensures ∙ field_list-shape c.args.table.now.pools (nodes c.args.table.now) c.shape.result)
