use Rattle.std.proofs.Common.{map}
use Rattle.jh_store.specs.heaps.Cells.{cell_in}
use Rattle.jh_heap.specs.text.Reading.{cell_or}
use Rattle.jh_heap.specs.text.Held.{holder_in, holders_in, given_in}
use Rattle.jh_heap.proofs.text.Finishings.{no_row_at, some_row_at, one_more}
use Rattle.jh_heap.proofs.text.finishing.push_row.Goals as goal

pub returns-in-None : goal.returns-in-None
returns-in-None c = no_row_at (holders_in c.args.holders.now) c.args.place (given_in c.args.given.items) (map (map cell_in) c.args.made.now.items) c.in-None.ensures

pub returns-in_ok-push-in-Some : goal.returns-in_ok-push-in-Some
returns-in_ok-push-in-Some c =
    some_row_at (holders_in c.args.holders.now) c.args.place (given_in c.args.given.items) (holder_in c.in-Some.holder) (map (map cell_in) c.args.made.now.items) (map (map cell_in) c.push.new.self.items)
    c.in-Some.ensures
    (one_more (map cell_in) c.args.made.now.items c.push.new.self.items c.in_ok-row-in-Some.row (map (cell_or (holder_in c.in-Some.holder)) (given_in c.args.given.items)) c.in_ok-push-in-Some.ensures.items c.in_ok-row-in-Some.ensures)
