use Rattle.std.proofs.Common.{◌≡◌, ◌++◌, map, length}
use Rattle.jh_heap.specs.lines.Bytes.{split}
use Rattle.jh_heap.proofs.lines.bytes.split.Given as goal

abbrev pub invariant-loop-found : goal.invariant-loop-found
invariant-loop-found l = map (λ part. part.now) l.parts.items ++ split l.byte l.rest ≡ split l.byte l.bytes

abbrev pub decreases-loop-found : goal.decreases-loop-found
decreases-loop-found l = length l.rest
