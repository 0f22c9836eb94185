use Rattle.std.proofs.Common.{sym, ap, ◌∙◌, []}
use Rattle.std.specs.Option.{option_map_or}
use Rattle.std.proofs.lemmas.Result.{IfOk-weaker}
use Rattle.jh_containers.specs.transitive_closure.Spreads.{passed_to}
use Rattle.jh_loop_targets.specs.Noted.{Notes}
use Rattle.jh_loop_targets.specs.Telling.{is_text_of, standing, method_writes}
use Rattle.jh_loop_targets.proofs.Notings.{notes-none, notes-as}
use Rattle.jh_loop_targets.proofs.walking.note_method.Goals as goal

pub returns-in-None : goal.returns-in-None
returns-in-None c =
    let k = c.args.told.now in
    notes-none c.args.written.now (method_writes k (record { class = c.args.class; name = c.args.method.now }))
    (λ x. ap (λ o. is_text_of (standing k.states.now (option_map_or (λ n. passed_to k.rows.now n) o [])) x) (sym c.number.ensures ∙ c.in-None.is))

pub returns-in-Some : goal.returns-in-Some
returns-in-Some c =
    let k = c.args.told.now in
    IfOk-weaker c.note_places.result
    (λ made. Notes c.args.written.now c.note_places.new.written (is_text_of (standing k.states.now c.row_of.result.now)))
    (λ made. Notes c.args.written.now c.note_places.new.written (method_writes k (record { class = c.args.class; name = c.args.method.now })))
    (λ made h. notes-as c.args.written.now c.note_places.new.written (is_text_of (standing k.states.now c.row_of.result.now)) (method_writes k (record { class = c.args.class; name = c.args.method.now })) h
    (λ x. ap (λ o. is_text_of (standing k.states.now (option_map_or (λ n. passed_to k.rows.now n) o [])) x) (sym c.number.ensures ∙ c.in-Some.is) ∙ ap (λ ns. is_text_of (standing k.states.now ns) x) (sym c.row_of.ensures)))
    c.note_places.ensures
