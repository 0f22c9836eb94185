use Rattle.std.proofs.Common.{sym, ap, ◌∙◌, false, option_map}
use Rattle.std.specs.Option.{option_map_or}
use Rattle.std.proofs.lemmas.Result.{IfOk-weaker}
use Rattle.jh_rules.specs.Words.{same_text}
use Rattle.jh_loop_targets.specs.Noted.{Notes}
use Rattle.jh_loop_targets.specs.Telling.{ghost_text, node_of, value_at}
use Rattle.jh_loop_targets.proofs.Notings.{notes-none, notes-as}
use Rattle.jh_loop_targets.proofs.walking.note_ghost.Goals as goal

pub returns-in-None : goal.returns-in-None
returns-in-None c =
    notes-none c.args.written.now (λ x. option_map_or (λ y. same_text y x) (ghost_text (value_at c.args.table.now (node_of c.args.told.now.formulas.now c.args.number))) false)
    (λ x. ap (λ o. option_map_or (λ y. same_text y x) o false) (sym c.text_written.ensures ∙ ap (option_map (λ y. y.now)) c.in-None.is))

pub returns-in-Some : goal.returns-in-Some
returns-in-Some c =
    IfOk-weaker c.note.result
    (λ made. Notes c.args.written.now c.note.new.self (same_text c.in-Some.text.now))
    (λ made. Notes c.args.written.now c.note.new.self (λ x. option_map_or (λ y. same_text y x) (ghost_text (value_at c.args.table.now (node_of c.args.told.now.formulas.now c.args.number))) false))
    (λ made h. notes-as c.args.written.now c.note.new.self (same_text c.in-Some.text.now) (λ x. option_map_or (λ y. same_text y x) (ghost_text (value_at c.args.table.now (node_of c.args.told.now.formulas.now c.args.number))) false) h
    (λ x. ap (λ o. option_map_or (λ y. same_text y x) o false) (sym c.text_written.ensures ∙ ap (option_map (λ y. y.now)) c.in-Some.is)))
    c.note.ensures
