use Rattle.std.proofs.Common.{◌≡◌, true, Some, slice_get}
use Rattle.jh_sem.specs.Graphs.{listed_fields, IsWalk}
use Rattle.jh_sem.proofs.Walks.{IsDone}
use Rattle.jh_sem.proofs.graph.leads_to.Given as goal

abbrev pub invariant-loop-turn : goal.invariant-loop-turn
invariant-loop-turn l = record {
  walk : IsWalk l.last (listed_fields l.fields) l.start l.marks.items l.found.items;
  done : IsDone (listed_fields l.fields) l.marks.items l.found.items l.at;
  begun : slice_get l.marks.items l.start ≡ Some true;
}
