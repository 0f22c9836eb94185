use Rattle.std.proofs.Common.{◌∙◌, ◌+◌, map, drop, arith}
use Rattle.std.proofs.lemmas.List.{length-map}
use Rattle.jh_heap.specs.text.Reading.{step, lines_from}
use Rattle.jh_heap.specs.text.Held.{outline_in, draft_in}
use Rattle.jh_heap.proofs.text.Readings.{lines_next, then_goes_on, then_ends, error_is}
use Rattle.jh_heap.proofs.text.reading.read_lines.Goals as goal

pub loop-place-preserved : goal.loop-place-preserved
loop-place-preserved c =
    let o = outline_in c.args.outline.now in
    let ws = map (λ line. line.now) c.args.lines.now in
    let i = c.loop-place.place in
    c.loop-place.invariant
    ∙ lines_next o ws i c.line_at-line.result.now (draft_in c.loop-place.draft) (omega (arith, c.loop-place-test.true, c.requires.some, length-map c.args.lines.now (λ line. line.now))) c.line_at-line.ensures
    ∙ then_goes_on (step o (i + 1) c.line_at-line.result.now (draft_in c.loop-place.draft)) (draft_in c.read_line.new.draft) (λ d. lines_from o (i + 1 + 1) (drop (i + 1) ws) d) c.in-Ok.ensures.on

pub returns-in-Err-clause-end : goal.returns-in-Err-clause-end
returns-in-Err-clause-end c =
    let o = outline_in c.args.outline.now in
    let ws = map (λ line. line.now) c.args.lines.now in
    let i = c.loop-place.place in
    error_is c.in-Err.error _ _
    (c.loop-place.invariant ∙ lines_next o ws i c.line_at-line.result.now (draft_in c.loop-place.draft) (omega (arith, c.loop-place-test.true, c.requires.some, length-map c.args.lines.now (λ line. line.now))) c.line_at-line.ensures)
    (then_ends (step o (i + 1) c.line_at-line.result.now (draft_in c.loop-place.draft)) c.in-Err.error (λ d. lines_from o (i + 1 + 1) (drop (i + 1) ws) d) c.in-Err.ensures.end)
