use Rattle.std.proofs.Common.{ap, ◌∙◌, ◌+◌, ◌≤◌, ◌++◌, drop, map, length, slice_index_or, arith}
use Rattle.std.proofs.lemmas.List.{drop_all, map_push}
use Rattle.std.proofs.lemmas.Option.{slice_get_within, slice_get-get_or}
use Rattle.jh_name.specs.declared.place.Kind.TheVariants as kind
use Rattle.jh_semantics.specs.Program.{Member}
use Rattle.jh_semantics.specs.Heaps as runs
use Rattle.jh_store.specs.heaps.Cells.{cell_in}
use Rattle.jh_store.specs.memory.Held.{state_of}
use Rattle.jh_heap_layout.specs.declared.loading.places.Place.{Place}
use Rattle.jh_heap_layout.proofs.loading.Lists.{left-at, one-made, all-made}
use Rattle.jh_heap_layout.proofs.loading.Numbers.{place-at, as-many-places}
use Rattle.jh_heap_layout.proofs.loading.unloading.fields.Goals as goal

abbrev first : Place
first = record { number = 0; kind = kind.Obj }

pub field_cells-requires-clause-number : goal.field_cells-requires-clause-number
field_cells-requires-clause-number c =
    let i = c.loop-place.place in
    let places = c.args.places.now in
    let k = slice_index_or places i first in
    let names = c.args.memory.now.names in
    let found = place-at names places c.requires.places.0 i k c.requires.places.1 (slice_get-get_or places i first c.loop-place-test.true) in
    slice_get_within names k.number _ found.2.number

pub loop-place-preserved : goal.loop-place-preserved
loop-place-preserved c = λ xs are.
    let f = (λ (x : Member). map (runs.field_cell (state_of c.args.memory.now) x) c.args.objects.now) in
    let i = c.loop-place.place in
    let places = c.args.places.now in
    let k = slice_index_or places i first in
    let names = c.args.memory.now.names in
    let made = c.loop-place.made.items in
    let found = place-at names places xs i k are (slice_get-get_or places i first c.loop-place-test.true) in
    ap (λ rows. map (map cell_in) rows ++ map f (drop (i + 1) xs)) c.in_ok-push.ensures.items
    ∙ ap (λ rows. rows ++ map f (drop (i + 1) xs)) (map_push (map cell_in) made c.in_ok-cells.cells)
    ∙ one-made f (map (map cell_in) made) ((map cell_in) c.in_ok-cells.cells) (drop i xs) (drop (i + 1) xs) xs found.0 (c.loop-place.invariant xs are) (left-at xs i found.0 found.1) (c.in_ok-cells.ensures found.0 found.2)

pub returns : goal.returns
returns c = λ xs are.
    let f = (λ (x : Member). map (runs.field_cell (state_of c.args.memory.now) x) c.args.objects.now) in
    let i = c.loop-place.place in
    let many = as-many-places c.args.memory.now.names c.args.places.now xs are in
    let le : length xs ≤ i = let end = c.loop-place-test.false in omega (arith, many, end) in
    ap (map (map cell_in)) c.of.ensures ∙ all-made f (map (map cell_in) c.loop-place.made.items) (drop i xs) xs (c.loop-place.invariant xs are) (drop_all i xs le)
