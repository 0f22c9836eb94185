use Rattle.std.proofs.Common.{refl, sym, ap, ◌∙◌, map}
use Rattle.jh_store.specs.heaps.Cells.{cell_in}
use Rattle.jh_heap.specs.text.Held.{holders_in}
use Rattle.jh_heap.proofs.text.Finishings.{rows_none, rows_step, longer}
use Rattle.jh_heap.proofs.text.finishing.rows_or.Goals as goal

pub loop-row-init : goal.loop-row-init
loop-row-init c = record { place = refl; made = ap (map (map cell_in)) c.new-made.ensures.items ∙ sym (rows_none (holders_in c.args.holders.now)) }

pub loop-row-preserved : goal.loop-row-preserved
loop-row-preserved c = record {
  place = longer c.loop-row.yielded c.in-Some.row c.loop-row.place c.loop-row.invariant.place;
  made =
      rows_step (holders_in c.args.holders.now) c.loop-row.yielded c.in-Some.row c.loop-row.place (map (map cell_in) c.loop-row.made.items) (map (map cell_in) c.push_row.new.made.items)
      c.loop-row.invariant.place c.in_ok-push_row.ensures c.loop-row.invariant.made;
}
