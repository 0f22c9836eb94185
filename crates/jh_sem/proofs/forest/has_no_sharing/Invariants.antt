use Rattle.std.proofs.Common.{◌≡◌, suc, length}
use Rattle.jh_sem.specs.Graphs.{listed_fields, IsNoted}
use Rattle.jh_sem.proofs.forest.has_no_sharing.Given as goal

abbrev pub invariant-loop-at : goal.invariant-loop-at
invariant-loop-at l = record {
  sized : length l.seen.items ≡ suc l.last;
  noted : IsNoted (listed_fields l.fields) l.at 0 l.seen.items;
}
