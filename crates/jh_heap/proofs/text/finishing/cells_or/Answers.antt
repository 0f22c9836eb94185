use Rattle.std.proofs.Common.{refl, sym, ap, ◌∙◌, map}
use Rattle.jh_store.specs.heaps.Cells.{cell_in}
use Rattle.jh_heap.specs.text.Held.{holders_in}
use Rattle.jh_heap.proofs.text.Finishings.{cells_none, cells_step, longer}
use Rattle.jh_heap.proofs.text.finishing.cells_or.Goals as goal

pub loop-cell-init : goal.loop-cell-init
loop-cell-init c = record { place = refl; made = ap (map cell_in) c.new-made.ensures.items ∙ sym (cells_none (holders_in c.args.holders.now)) }

pub loop-cell-preserved : goal.loop-cell-preserved
loop-cell-preserved c = record {
  place = longer c.loop-cell.yielded c.in-Some.cell c.loop-cell.place c.loop-cell.invariant.place;
  made =
      cells_step (holders_in c.args.holders.now) c.loop-cell.yielded c.in-Some.cell c.loop-cell.place (map cell_in c.loop-cell.made.items) (map cell_in c.push_cell.new.made.items)
      c.loop-cell.invariant.place c.in_ok-push_cell.ensures c.loop-cell.invariant.made;
}
