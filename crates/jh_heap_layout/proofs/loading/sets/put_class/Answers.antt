use Rattle.std.proofs.Common.{sym, ap, ◌∙◌, get_or, Some}
use Rattle.std.proofs.lemmas.Option.{slice_get_past}
use Rattle.std.proofs.lemmas.Option.{slice_get_within, slice_get-get_or}
use Rattle.std.proofs.lemmas.Result.{on_ok_weaker}
use Rattle.jh_heap_layout.proofs.loading.Folds.{put-nothing, put-both}
use Rattle.jh_heap_layout.specs.loading.Steps.{class_put}
use Rattle.jh_heap_layout.proofs.loading.Lists.{there}
use Rattle.jh_heap_layout.proofs.loading.Numbers.{number-at}
use Rattle.jh_heap_layout.proofs.loading.sets.put_class.Goals as goal

pub put_set-requires : goal.put_set-requires
put_set-requires c =
    let k = get_or c.args.numbers.now c.args.place 0 in
    let names = c.args.memory.now.names in
    let found = number-at names c.args.numbers.now c.requires.numbers.0 c.args.place k c.requires.numbers.1 (slice_get-get_or c.args.numbers.now c.args.place 0 c.requires.place) in
    slice_get_within names k _ found.2

pub returns-in-None-clause-state : goal.returns-in-None-clause-state
returns-in-None-clause-state c = λ cs are. sym (put-nothing class_put cs c.args.classes.now c.args.place (slice_get_past c.args.classes.now c.args.place c.in-None.ensures.lookup.3) _)

pub returns-in-Some-clause-state : goal.returns-in-Some-clause-state
returns-in-Some-clause-state c = λ cs are.
    let k = get_or c.args.numbers.now c.args.place 0 in
    let names = c.args.memory.now.names in
    let found = number-at names c.args.numbers.now cs c.args.place k are (slice_get-get_or c.args.numbers.now c.args.place 0 c.requires.place) in
    on_ok_weaker c.put_set.result (λ put. put _ found.2 ∙ sym (put-both class_put cs c.args.classes.now c.args.place found.0 _ found.1 (there c.args.classes.now c.args.place c.in-Some.row.now c.in-Some.ensures.lookup.3.0 c.in-Some.ensures.lookup.1 ∙ ap (λ z. Some z) (sym c.items.ensures)) _)) c.put_set.ensures.state
