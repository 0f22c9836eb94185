use Rattle.std.proofs.Common.{◌≡◌, take}
use Rattle.jh_arena.specs.table.Nodes.{nodes}
use Rattle.jh_propagation.specs.trail.Saying.{literals_at}
use Rattle.jh_local.specs.Answers.{literal_trees}
use Rattle.jh_local.proofs.boxing.boxed_trail.Given as goal

-- the first literals are boxed
abbrev pub invariant-loop-place : goal.invariant-loop-place
invariant-loop-place l = literal_trees l.made.items ≡ literals_at (nodes l.table) (take l.place l.trail)
