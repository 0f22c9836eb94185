use Rattle.std.proofs.Common.{sym, ap, ◌∙◌, ◌-◌, arith, map, length}
use Rattle.std.proofs.lemmas.List.{length-map}
use Rattle.std.proofs.lemmas.Result.{IfOk-weaker, IfErr-weaker}
use Rattle.jh_heap.specs.text.Reading.{lines_from}
use Rattle.jh_heap.specs.text.Held.{outline_in, draft_in}
use Rattle.jh_heap.proofs.text.Readings.{drop_end, error_is}
use Rattle.jh_heap.proofs.text.reading.read_parts.Goals as goal

pub returns-in-Ok-clause-read : goal.returns-in-Ok-clause-read
returns-in-Ok-clause-read c =
    let o = outline_in c.args.outline.now in
    let ws = map (λ line. line.now) c.args.lines.now in
    let d = draft_in c.read_lines.new.draft in
    let whole =
    ap (lines_from o 1 ws) (sym c.empty_draft-draft.ensures) ∙ c.in-Ok.ensures.on
    ∙ ap (λ xs. lines_from o (length c.args.lines.now) xs d) (drop_end ws (length c.args.lines.now - 1) c.line_at-last.result.now (omega (arith, c.requires.some, length-map c.args.lines.now (λ line. line.now))) c.line_at-last.ensures) in
    IfOk-weaker c.finish.result _ _ (λ made h. whole ∙ h) c.finish.ensures.read

pub returns-in-Ok-clause-error : goal.returns-in-Ok-clause-error
returns-in-Ok-clause-error c =
    let o = outline_in c.args.outline.now in
    let ws = map (λ line. line.now) c.args.lines.now in
    let d = draft_in c.read_lines.new.draft in
    let whole =
    ap (lines_from o 1 ws) (sym c.empty_draft-draft.ensures) ∙ c.in-Ok.ensures.on
    ∙ ap (λ xs. lines_from o (length c.args.lines.now) xs d) (drop_end ws (length c.args.lines.now - 1) c.line_at-last.result.now (omega (arith, c.requires.some, length-map c.args.lines.now (λ line. line.now))) c.line_at-last.ensures) in
    IfErr-weaker c.finish.result _ _ (λ e h. error_is e _ _ whole h) c.finish.ensures.error

pub returns-in-Err-clause-error : goal.returns-in-Err-clause-error
returns-in-Err-clause-error c =
    let o = outline_in c.args.outline.now in
    let ws = map (λ line. line.now) c.args.lines.now in
    error_is c.in-Err.error _ _ (ap (lines_from o 1 ws) (sym c.empty_draft-draft.ensures)) c.in-Err.ensures.end
