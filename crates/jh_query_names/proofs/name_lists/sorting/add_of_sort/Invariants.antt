use Rattle.std.proofs.Common.{◌≡◌, drop, nat_eq}
use Rattle.indexmap.specs.IndexSet.{insert_all}
use Rattle.jh_arena.specs.table.Nodes.{nodes}
use Rattle.jh_query_names.specs.name_lists.Sorting.{of_sort}
use Rattle.jh_query_names.proofs.name_lists.sorting.add_of_sort.Given as goal

-- with what is left the list comes to that with all of the sort
abbrev pub invariant-loop-node : goal.invariant-loop-node
invariant-loop-node l = insert_all nat_eq l.list.keys (of_sort (nodes l.table) l.sort (drop l.node-index l.names)) ≡ insert_all nat_eq l.initial.list.keys (of_sort (nodes l.table) l.sort l.names)
