use Rattle.std.proofs.Common.{◌≡◌, sym, ap, subst, ◌∙◌, ℕ, ◌≤◌, ◌++◌, List, [], ◌∷◌, map, take, length, Option, arith}
use Rattle.std.proofs.lemmas.List.{map-append, take_all}
use Rattle.std.proofs.lemmas.Option.{slice_get_within}
use Rattle.jh_arena.specs.table.Nodes.{nodes}
use Rattle.jh_query_names.specs.declared.mentioned_names.memo.Note.{Note}
use Rattle.jh_query_names.specs.mentioned_names.Notes.{AreInside}
use Rattle.jh_abstraction.specs.choice_of_hypotheses.Choosing.{linking_names, linking_row, names_noted}
use Rattle.jh_abstraction.proofs.choice_of_hypotheses.Lists.{one-there, take-next}
use Rattle.jh_abstraction.proofs.choice_of_hypotheses.reached.rows_of.Goals as goal

pub note_at-note-requires : goal.note_at-note-requires
note_at-note-requires c = let there = c.requires c.loop-place.place c.number_at.result c.number_at.ensures in slice_get_within c.args.notes.now c.number_at.result there.0 there.1

pub links-requires : goal.links-requires
links-requires c =
    let there = c.requires c.loop-place.place c.number_at.result c.number_at.ensures in
    let same : there.0 ≡ c.note_at-note.result.now = one-there c.args.notes.now c.number_at.result there.0 c.note_at-note.result.now there.1 c.note_at-note.ensures in
    subst (λ (ns : List ℕ). AreInside (nodes c.args.table.now) ns) (ap (λ (note : Note). note.names) same ∙ sym c.items.ensures) there.2

pub loop-place-preserved : goal.loop-place-preserved
loop-place-preserved c =
    let ts = nodes c.args.table.now in
    let row = linking_row ts c.args.few c.args.notes.now in
    let here : c.in_ok-row.row ≡ row c.number_at.result = c.in_ok-row.ensures ∙ ap (linking_names ts c.args.few) c.items.ensures ∙ ap (λ (o : Option Note). linking_names ts c.args.few (names_noted o)) (sym c.note_at-note.ensures) in
    c.in_ok-push.ensures.items
    ∙ (λ i. c.loop-place.invariant i ++ here i ∷ [])
    ∙ sym (ap (map row) (take-next c.args.places.now c.loop-place.place c.number_at.result c.number_at.ensures) ∙ map-append row (take c.loop-place.place c.args.places.now) (c.number_at.result ∷ []))

pub returns : goal.returns
returns c =
    let far : length c.args.places.now ≤ c.loop-place.place = search arith in
    c.loop-place.invariant ∙ ap (map (linking_row (nodes c.args.table.now) c.args.few c.args.notes.now)) (take_all c.loop-place.place c.args.places.now far)
