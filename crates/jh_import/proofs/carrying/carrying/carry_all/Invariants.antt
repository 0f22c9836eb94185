use Rattle.std.proofs.Common.{take}
use Rattle.jh_arena.specs.table.Growth.{Extends}
use Rattle.jh_arena.specs.table.Nodes.{nodes}
use Rattle.jh_import.specs.carrying.Carried.{AllCarried, HoldsCarried}
use Rattle.jh_import.specs.carrying.Memos.{found}
use Rattle.jh_import.proofs.carrying.carrying.carry_all.Given as goal

abbrev pub invariant-loop-place : goal.invariant-loop-place
invariant-loop-place l = record {
  grows : Extends l.fn.into l.into;
  holds : HoldsCarried (nodes l.from) (nodes l.into) (found l.memo.answers);
  answers : AllCarried (nodes l.from) (nodes l.into) (take l.place l.list) l.answers.items;
}
