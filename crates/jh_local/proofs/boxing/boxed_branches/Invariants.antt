use Rattle.std.proofs.Common.{◌≡◌, take}
use Rattle.jh_arena.specs.table.Nodes.{nodes}
use Rattle.jh_instance_proofs.specs.jh_search.Paths.{all_closed}
use Rattle.jh_local.specs.Answers.{closed_trees}
use Rattle.jh_local.proofs.boxing.boxed_branches.Given as goal

-- the first branches are boxed
abbrev pub invariant-loop-place : goal.invariant-loop-place
invariant-loop-place l = closed_trees l.made.items ≡ all_closed (nodes l.table) (take l.place l.branches)
