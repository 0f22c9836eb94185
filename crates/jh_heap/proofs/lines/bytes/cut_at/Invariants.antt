use Rattle.std.proofs.Common.{◌≡◌, take, drop}
use Rattle.jh_heap.specs.lines.Bytes.{cut}
use Rattle.jh_heap.proofs.lines.Cuts.{behind_more}
use Rattle.jh_heap.proofs.lines.bytes.cut_at.Given as goal

abbrev pub invariant-loop-place : goal.invariant-loop-place
invariant-loop-place l = cut l.byte l.bytes ≡ behind_more (take l.place l.bytes) (cut l.byte (drop l.place l.bytes))
