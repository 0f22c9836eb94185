use Rattle.std.proofs.Common.{◌+◌, ◌*◌, take}
use Rattle.jh_arena.specs.table.Growth.{Extends}
use Rattle.jh_arena.specs.table.Nodes.{nodes}
use Rattle.jh_arena.specs.table.Parts.{parts}
use Rattle.jh_import.specs.carrying.Carried.{AllCarried, HoldsCarried}
use Rattle.jh_import.specs.carrying.Memos.{found}
use Rattle.jh_import.proofs.carrying.carrying.+carried.Given as goal

-- a shape is looked at after its node, and its parts have smaller numbers
abbrev pub decreases-carried : goal.decreases-carried
decreases-carried l = 2 * l.node + 1

abbrev pub decreases-carried_parts : goal.decreases-carried_parts
decreases-carried_parts l = 2 * l.node

abbrev pub invariant-carried_parts-loop-index : goal.invariant-carried_parts-loop-index
invariant-carried_parts-loop-index l = record {
  grows : Extends l.initial.into l.into;
  holds : HoldsCarried (nodes l.from) (nodes l.into) (found l.memo.answers);
  answers : AllCarried (nodes l.from) (nodes l.into) (take l.index (parts l.from.pools.lists l.shape)) l.answers.items;
}
