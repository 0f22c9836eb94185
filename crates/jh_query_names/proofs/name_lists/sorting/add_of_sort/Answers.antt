use Rattle.std.proofs.Common.{length}
use Rattle.jh_arena.specs.table.Nodes.{nodes}
use Rattle.jh_query_names.proofs.name_lists.Chosen.{below-at}
use Rattle.jh_query_names.proofs.name_lists.sorting.add_of_sort.Goals as goal

pub has_sort-wanted-requires : goal.has_sort-wanted-requires
has_sort-wanted-requires c = below-at (length (nodes c.args.table.now)) c.args.names.now c.loop-node.node-index 0 c.requires c.loop-node-test.true
