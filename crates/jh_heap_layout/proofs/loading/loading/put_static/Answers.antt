use Rattle.std.proofs.Common.{sym, ◌∙◌, slice_index_or, map}
use Rattle.std.proofs.lemmas.Option.{slice_get_past}
use Rattle.std.proofs.lemmas.Option.{slice_get_within, slice_get-get_or}
use Rattle.std.proofs.lemmas.Result.{on_ok_weaker}
use Rattle.jh_store.specs.heaps.Cells.{cell_in}
use Rattle.jh_name.specs.declared.place.Kind.TheVariants as kind
use Rattle.jh_heap_layout.specs.declared.loading.places.Place.{Place}
use Rattle.jh_heap_layout.specs.loading.Steps.{static_put}
use Rattle.jh_heap_layout.proofs.loading.Folds.{put-nothing, put-both}
use Rattle.jh_heap_layout.proofs.loading.Lists.{there, get-image, no-image}
use Rattle.jh_heap_layout.proofs.loading.Numbers.{place-at}
use Rattle.jh_heap_layout.proofs.loading.loading.put_static.Goals as goal

abbrev first : Place
first = record { number = 0; kind = kind.Obj }

pub put_cell-requires-clause-number : goal.put_cell-requires-clause-number
put_cell-requires-clause-number c =
    let k = slice_index_or c.args.places.now c.args.place first in
    let names = c.args.memory.now.names in
    let found = place-at names c.args.places.now c.requires.places.0 c.args.place k c.requires.places.1 (slice_get-get_or c.args.places.now c.args.place first c.requires.place) in
    slice_get_within names k.number _ found.2.number

pub put_cell-requires-clause-inside : goal.put_cell-requires-clause-inside
put_cell-requires-clause-inside c = c.requires.inside c.args.place (cell_in c.in-Some.cell.now) (get-image cell_in c.args.cells.now c.args.place c.in-Some.cell.now (there c.args.cells.now c.args.place c.in-Some.cell.now c.in-Some.ensures.lookup.3.0 c.in-Some.ensures.lookup.1))

pub returns-in-None-clause-state : goal.returns-in-None-clause-state
returns-in-None-clause-state c = λ xs are. sym (put-nothing static_put xs (map cell_in c.args.cells.now) c.args.place (no-image cell_in c.args.cells.now c.args.place (slice_get_past c.args.cells.now c.args.place c.in-None.ensures.lookup.3)) _)

pub returns-in-Some-clause-state : goal.returns-in-Some-clause-state
returns-in-Some-clause-state c = λ xs are.
    let k = slice_index_or c.args.places.now c.args.place first in
    let names = c.args.memory.now.names in
    let cell = c.in-Some.cell.now in
    let found = place-at names c.args.places.now xs c.args.place k are (slice_get-get_or c.args.places.now c.args.place first c.requires.place) in
    let at = get-image cell_in c.args.cells.now c.args.place cell (there c.args.cells.now c.args.place cell c.in-Some.ensures.lookup.3.0 c.in-Some.ensures.lookup.1) in
    on_ok_weaker c.put_cell.result (λ put. put ∙ sym (put-both static_put xs (map cell_in c.args.cells.now) c.args.place found.0 (cell_in cell) found.1 at _)) (c.put_cell.ensures.state found.0.text found.2.number)
