use Rattle.std.proofs.Common.{◌≡◌, length, take, ◌-◌, ◌≤◌}
use Rattle.jh_files.specs.Contents.{Appends}
use Rattle.jh_files.proofs.sink.put_all.Given as goal

-- the bytes before the place were taken, and no fault was counted
abbrev pub invariant-loop-at : goal.invariant-loop-at
invariant-loop-at g l =
    record {
      within : l.at ≤ length l.bytes;
      taken : Appends (g.S.Sink.written l.fn.sink) (take l.at l.bytes) (g.S.Sink.written l.sink);
      counted : g.S.Sink.faults l.sink ≡ g.S.Sink.faults l.fn.sink;
    }

abbrev pub decreases-loop-at : goal.decreases-loop-at
decreases-loop-at g l = length l.bytes - l.at
