use Rattle.std.proofs.Common.{◌∙◌, sym, ap, slice_get}
use Rattle.jh_form.specs.Sorts.{tree_sort}
use Rattle.jh_arena.specs.table.Nodes.{nodes}
use Rattle.jh_arena.proofs.table.ShapeSorts.{sort-same, tree-seen}
use Rattle.jh_arena.proofs.table.boxed.Table.sort.Goals as goal

pub returns : goal.returns
returns c =
    c.sort.ensures
    ∙ sort-same c.args.self.now.pools (nodes c.args.self.now) c.shape.result
    ∙ ap tree_sort (sym (tree-seen (slice_get (nodes c.args.self.now) c.args.node) _ c.shape.ensures.tree))
