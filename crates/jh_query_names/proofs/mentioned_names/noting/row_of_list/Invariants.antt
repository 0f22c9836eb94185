use Rattle.std.proofs.Common.{◌≡◌, take}
use Rattle.jh_query_names.proofs.mentioned_names.noting.row_of_list.Given as goal

-- the first nodes are copied
abbrev pub invariant-loop-place : goal.invariant-loop-place
invariant-loop-place l = l.items.items ≡ take l.place l.list
