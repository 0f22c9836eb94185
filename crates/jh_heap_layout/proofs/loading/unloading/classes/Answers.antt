use Rattle.std.proofs.Common.{ap, ◌∙◌, ◌+◌, ◌≤◌, ◌++◌, drop, map, filter, length, get_or, arith}
use Rattle.std.proofs.lemmas.List.{drop_all}
use Rattle.std.proofs.lemmas.Option.{slice_get_within, slice_get-get_or}
use Rattle.jh_semantics.specs.Code.{Text}
use Rattle.jh_semantics.specs.State.{named}
use Rattle.jh_store.specs.memory.Held.{state_of}
use Rattle.jh_heap_layout.proofs.loading.Lists.{left-at, one-made, all-made}
use Rattle.jh_heap_layout.proofs.loading.Numbers.{number-at, as-many-numbers}
use Rattle.jh_heap_layout.proofs.loading.unloading.classes.Goals as goal

pub members-requires : goal.members-requires
members-requires c =
    let i = c.loop-place.place in
    let numbers = c.args.numbers.now in
    let names = c.args.memory.now.names in
    let found = number-at names numbers c.requires.0 i (get_or numbers i 0) c.requires.1 (slice_get-get_or numbers i 0 c.loop-place-test.true) in
    slice_get_within names (get_or numbers i 0) _ found.2

pub loop-place-preserved : goal.loop-place-preserved
loop-place-preserved c = λ cs are.
    let f = λ (x : Text). filter ((state_of c.args.memory.now).set (named x)) c.args.objects.now in
    let i = c.loop-place.place in
    let numbers = c.args.numbers.now in
    let names = c.args.memory.now.names in
    let made = c.loop-place.made.items in
    let found = number-at names numbers cs i (get_or numbers i 0) are (slice_get-get_or numbers i 0 c.loop-place-test.true) in
    ap (λ rows. rows ++ map f (drop (i + 1) cs)) c.in_ok-push.ensures.items
    ∙ one-made f made c.in_ok-row.row (drop i cs) (drop (i + 1) cs) cs found.0 (c.loop-place.invariant cs are) (left-at cs i found.0 found.1) (c.in_ok-row.ensures (named found.0) found.2)

pub returns : goal.returns
returns c = λ cs are.
    let f = λ (x : Text). filter ((state_of c.args.memory.now).set (named x)) c.args.objects.now in
    let i = c.loop-place.place in
    let many = as-many-numbers c.args.memory.now.names c.args.numbers.now cs are in
    let le : length cs ≤ i = let end = c.loop-place-test.false in omega (arith, many, end) in
    c.of.ensures ∙ all-made f c.loop-place.made.items (drop i cs) cs (c.loop-place.invariant cs are) (drop_all i cs le)
