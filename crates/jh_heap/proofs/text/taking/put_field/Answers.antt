use Rattle.std.proofs.Common.{◌≡◌, rules, Some, slice_get, option_map}
use Rattle.std.proofs.lemmas.Option.{slice_get-get_or}
use Rattle.jh_heap.specs.lines.Held.{value_in}
use Rattle.jh_heap.specs.text.Held.{holder_in}
use Rattle.jh_heap.proofs.text.Settings.{rows_put}
use Rattle.jh_heap.proofs.text.taking.put_field.Goals as goal

pub returns-in_ok-put_cell : goal.returns-in_ok-put_cell
returns-in_ok-put_cell c =
    let there : slice_get c.args.fields.now.items c.args.place ≡ Some c.index_mut.result.now = search (rules, slice_get-get_or, c.index_mut.ensures.value, c.if-place-len.true) in
    rows_put (option_map (λ x. holder_in x.now) c.args.holder) c.args.fields.now.items c.args.place c.args.object (value_in c.args.value.now) c.index_mut.result.now c.put_cell.new.cells there c.in_ok-put_cell.ensures
