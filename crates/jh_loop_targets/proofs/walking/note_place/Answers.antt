use Rattle.std.proofs.Common.{◌≤◌, length, arith}
use Rattle.std.proofs.lemmas.Result.{IfOk-weaker}
use Rattle.jh_rules.specs.Words.{same_text}
use Rattle.jh_loop_targets.specs.Noted.{Notes}
use Rattle.jh_loop_targets.specs.Telling.{is_text_of, standing_at}
use Rattle.jh_loop_targets.proofs.Notings.{note-none-at, note-one-at, past}
use Rattle.jh_loop_targets.proofs.walking.note_place.Goals as goal

pub returns-else-place-states : goal.returns-else-place-states
returns-else-place-states c =
    let le : length c.args.states.now ≤ c.args.place = omega arith in
    note-none-at c.args.written.now c.args.states.now c.args.place (past c.args.states.now c.args.place le)

pub returns-then-place-states : goal.returns-then-place-states
returns-then-place-states c =
    IfOk-weaker c.note.result
    (λ made. Notes c.args.written.now c.note.new.self (same_text c.state_at.result.text.now))
    (λ made. Notes c.args.written.now c.note.new.self (is_text_of (standing_at c.args.states.now c.args.place)))
    (λ made h. note-one-at c.args.written.now c.note.new.self c.args.states.now c.args.place c.state_at.result c.state_at.ensures h)
    c.note.ensures
