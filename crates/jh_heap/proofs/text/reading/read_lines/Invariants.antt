use Rattle.std.proofs.Common.{◌≡◌, ◌+◌, drop, map}
use Rattle.jh_heap.specs.text.Reading.{lines_from}
use Rattle.jh_heap.specs.text.Held.{outline_in, draft_in}
use Rattle.jh_heap.proofs.text.reading.read_lines.Given as goal

abbrev pub invariant-loop-place : goal.invariant-loop-place
invariant-loop-place l =
    lines_from (outline_in l.outline) 1 (map (λ line. line.now) l.lines) (draft_in l.initial.draft)
    ≡ lines_from (outline_in l.outline) (l.place + 1) (drop l.place (map (λ line. line.now) l.lines)) (draft_in l.draft)
