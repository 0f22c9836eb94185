use Rattle.std.proofs.Common.{map, option_map}
use Rattle.jh_store.specs.heaps.Cells.{cell_in}
use Rattle.jh_heap.specs.text.Reading.{cell_or}
use Rattle.jh_heap.specs.text.Held.{holder_in, holders_in}
use Rattle.jh_heap.proofs.text.Finishings.{none_at, some_at, one_more}
use Rattle.jh_heap.proofs.text.finishing.push_cell.Goals as goal

pub returns-in-None : goal.returns-in-None
returns-in-None c = none_at (holders_in c.args.holders.now) c.args.place (option_map cell_in c.args.given) (map cell_in c.args.made.now.items) c.in-None.ensures

pub returns-in_ok-push-in-Some : goal.returns-in_ok-push-in-Some
returns-in_ok-push-in-Some c =
    some_at (holders_in c.args.holders.now) c.args.place (option_map cell_in c.args.given) (holder_in c.in-Some.holder) (map cell_in c.args.made.now.items) (map cell_in c.push.new.self.items)
    c.in-Some.ensures
    (one_more cell_in c.args.made.now.items c.push.new.self.items c.cell_or.result (cell_or (holder_in c.in-Some.holder) (option_map cell_in c.args.given)) c.in_ok-push-in-Some.ensures.items c.cell_or.ensures)
