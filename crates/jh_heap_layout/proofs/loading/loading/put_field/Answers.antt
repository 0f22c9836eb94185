use Rattle.std.proofs.Common.{sym, ap, ◌∙◌, slice_index_or, map, Some}
use Rattle.std.proofs.lemmas.Option.{slice_get_past}
use Rattle.std.proofs.lemmas.Option.{slice_get_within, slice_get-get_or}
use Rattle.jh_store.specs.heaps.Cells.{cell_in}
use Rattle.jh_name.specs.declared.place.Kind.TheVariants as kind
use Rattle.jh_semantics.specs.State.{named}
use Rattle.jh_form.specs.Meaning.{a_field}
use Rattle.jh_form.specs.Assigned.{assigned}
use Rattle.jh_store.specs.memory.Held.{state_of}
use Rattle.jh_heap_layout.specs.declared.loading.places.Place.{Place}
use Rattle.jh_heap_layout.specs.loading.Steps.{field_put}
use Rattle.jh_heap_layout.proofs.loading.Folds.{put-nothing, put-both}
use Rattle.jh_heap_layout.proofs.loading.Lists.{there, get-image, no-image}
use Rattle.jh_heap_layout.proofs.loading.Numbers.{place-at}
use Rattle.jh_heap_layout.proofs.loading.loading.put_field.Goals as goal

abbrev first : Place
first = record { number = 0; kind = kind.Obj }

pub put_field-requires-clause-name : goal.put_field-requires-clause-name
put_field-requires-clause-name c =
    let k = slice_index_or c.args.places.now c.args.place first in
    let names = c.args.memory.now.names in
    let found = place-at names c.args.places.now c.requires.places.0 c.args.place k c.requires.places.1 (slice_get-get_or c.args.places.now c.args.place first c.requires.place) in
    slice_get_within names k.number _ found.2.number

pub put_field-requires-clause-inside : goal.put_field-requires-clause-inside
put_field-requires-clause-inside c =
    let cells = c.items.result.now in
    c.in_ok-values-in-Some.ensures.inside c.args.memory.now.last (c.requires.inside c.args.place (map cell_in cells) (get-image (map cell_in) c.args.rows.now c.args.place cells (there c.args.rows.now c.args.place c.in-Some.row.now c.in-Some.ensures.lookup.3.0 c.in-Some.ensures.lookup.1 ∙ ap (λ z. Some z) (sym c.items.ensures))))

pub returns-in-None-clause-state : goal.returns-in-None-clause-state
returns-in-None-clause-state c = λ xs are. sym (put-nothing field_put xs (map (map cell_in) c.args.rows.now) c.args.place (no-image (map cell_in) c.args.rows.now c.args.place (slice_get_past c.args.rows.now c.args.place c.in-None.ensures.lookup.3)) _)

pub returns-in_ok-values-in-Some-clause-state : goal.returns-in_ok-values-in-Some-clause-state
returns-in_ok-values-in-Some-clause-state c = λ xs are.
    let k = slice_index_or c.args.places.now c.args.place first in
    let names = c.args.memory.now.names in
    let cells = c.items.result.now in
    let found = place-at names c.args.places.now xs c.args.place k are (slice_get-get_or c.args.places.now c.args.place first c.requires.place) in
    let at = get-image (map cell_in) c.args.rows.now c.args.place cells (there c.args.rows.now c.args.place c.in-Some.row.now c.in-Some.ensures.lookup.3.0 c.in-Some.ensures.lookup.1 ∙ ap (λ z. Some z) (sym c.items.ensures)) in
    c.put_field.ensures.state (named found.0.text) found.2.number ∙ ap (λ f. assigned (state_of c.args.memory.now) (named found.0.text) (a_field f)) c.in_ok-values-in-Some.ensures.field ∙ sym (put-both field_put xs (map (map cell_in) c.args.rows.now) c.args.place found.0 (map cell_in cells) found.1 at _)
