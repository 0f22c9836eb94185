use Rattle.std.proofs.Common.{◌+◌, ◌*◌, take}
use Rattle.jh_arena.specs.table.Growth.{Extends}
use Rattle.jh_arena.specs.table.Nodes.{nodes}
use Rattle.jh_arena.specs.table.Parts.{parts}
use Rattle.jh_substitution.specs.rewriting.Walks.{AllRewritten, Holds}
use Rattle.jh_substitution.specs.rewriting.Memos.{found}
use Rattle.jh_substitution.proofs.rewriting.walking.+rewritten.Given as goal

-- the memo is asked after the node's shape, then its parts, which have smaller numbers
abbrev pub decreases-rewritten : goal.decreases-rewritten
decreases-rewritten g l = 3 * l.node + 2

abbrev pub decreases-rewritten_inner : goal.decreases-rewritten_inner
decreases-rewritten_inner g l = 3 * l.node + 1

abbrev pub decreases-rewritten_parts : goal.decreases-rewritten_parts
decreases-rewritten_parts g l = 3 * l.node

-- the answers so far are those of the first parts
abbrev pub invariant-rewritten_parts-loop-index : goal.invariant-rewritten_parts-loop-index
invariant-rewritten_parts-loop-index g l = record {
  grows : Extends l.initial.table l.table;
  holds : Holds (g.R.LeafRules.ready l.rules) (g.R.LeafRules.rewriting l.rules) l.table (found l.memo.answers);
  answers : AllRewritten (g.R.LeafRules.rewriting l.rules l.table) (nodes l.table) l.below (take l.index (parts l.initial.table.pools.lists l.shape)) l.answers.items;
}
