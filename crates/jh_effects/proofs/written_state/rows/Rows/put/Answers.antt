use Rattle.std.proofs.Common.{◌≡◌, ◌<◌, sym, ap, subst, ◌∙◌, ℕ, List, Some, map, nat_eq, if◌then◌else◌, length, slice_get, slice_set, OnOk}
use Rattle.std.proofs.lemmas.Result.{IfOk-weaker}
use Rattle.jh_containers.specs.transitive_closure.Spreads.{items_of, passed_to}
use Rattle.jh_containers.proofs.transitive_closure.Places.{item-get}
use Rattle.jh_containers.proofs.transitive_closure.Edging.{rows-long}
use Rattle.jh_effects.specs.written_state.Chosen.{put_last}
use Rattle.jh_effects.proofs.written_state.Rowing.{put-is}
use Rattle.jh_effects.proofs.written_state.rows.Rows.put.Goals as goal

-- src/rows.rt
pub returns-clause-put : goal.returns-clause-put
returns-clause-put c =
    let rows = c.self.inside.rows.items in
    let thing = c.args.thing in
    let old = c.index_mut.result.now in
    let new = c.put_last.new.row in
    let inside : thing < length rows = rows-long rows thing c.args.self.now c.self.view_is c.requires in
    let there : slice_get rows thing ≡ Some old = item-get rows thing old inside ∙ ap Some (sym c.index_mut.ensures.value) in
    subst
    (λ (es : List (List ℕ)). OnOk c.put_last.result ((other : ℕ) → passed_to (map items_of (slice_set rows thing new)) other ≡ (if nat_eq other thing then put_last c.args.place (passed_to es other) else passed_to es other)))
    c.self.view_is
    (IfOk-weaker
    c.put_last.result
    (λ made. new.items ≡ put_last c.args.place old.items)
    (λ made. (other : ℕ) → passed_to (map items_of (slice_set rows thing new)) other ≡ (if nat_eq other thing then put_last c.args.place (passed_to (map items_of rows) other) else passed_to (map items_of rows) other))
    (λ made is other. put-is rows thing c.args.place old new inside there is other)
    c.put_last.ensures)
