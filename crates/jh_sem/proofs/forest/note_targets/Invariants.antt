use Rattle.std.proofs.Common.{◌≡◌, suc, length}
use Rattle.jh_sem.specs.Graphs.{listed_fields, IsNoted}
use Rattle.jh_sem.proofs.forest.note_targets.Given as goal

abbrev pub invariant-loop-place : goal.invariant-loop-place
invariant-loop-place l = record {
  sized : length l.seen.items ≡ suc l.last;
  noted : IsNoted (listed_fields l.fields) l.at l.place l.seen.items;
}
