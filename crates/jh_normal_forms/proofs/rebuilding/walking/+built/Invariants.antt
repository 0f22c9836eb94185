use Rattle.std.proofs.Common.{◌+◌, ◌*◌, take}
use Rattle.jh_arena.specs.table.Growth.{Extends}
use Rattle.jh_arena.specs.table.Nodes.{nodes}
use Rattle.jh_arena.specs.table.Parts.{parts}
use Rattle.jh_normal_forms.specs.rebuilding.Walking.{AllBuilt, HoldsBuilt, sign}
use Rattle.jh_normal_forms.specs.rebuilding.Memos.{found}
use Rattle.jh_normal_forms.proofs.rebuilding.walking.+built.Given as goal

abbrev pub decreases-built : goal.decreases-built
decreases-built g l = 2 * l.node + 1

abbrev pub decreases-built_parts : goal.decreases-built_parts
decreases-built_parts g l = 2 * l.node

abbrev pub invariant-built_parts-loop-index : goal.invariant-built_parts-loop-index
invariant-built_parts-loop-index g l = record {
  grows : Extends l.initial.table l.table;
  holds : HoldsBuilt (g.B.BuildRules.rule l.rules) (nodes l.table) (found l.memo.answers);
  answers : AllBuilt (g.B.BuildRules.rule l.rules) (nodes l.table) (sign l.shape l.polarity) 0 (take l.index (parts l.initial.table.pools.lists l.shape)) l.answers.items;
}
