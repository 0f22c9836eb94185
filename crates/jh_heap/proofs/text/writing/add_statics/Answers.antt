use Rattle.std.proofs.Common.{map, arith}
use Rattle.std.specs.Prelude.{string_bytes}
use Rattle.jh_store.specs.heaps.Cells.{cell_in}
use Rattle.jh_heap.specs.text.Writing.{statics_text}
use Rattle.jh_heap.specs.text.Held.{holders_in}
use Rattle.jh_heap.proofs.text.Writings.{statics_end, end_is}
use Rattle.jh_heap.proofs.text.writing.add_statics.Goals as goal

pub returns : goal.returns
returns c =
    end_is (string_bytes c.loop-place.text) (string_bytes c.args.text.now) (statics_text (holders_in c.args.holders.now) (map cell_in c.args.cells.now)) _
    (statics_end c.args.holders.now c.args.cells.now c.loop-place.place (omega (arith, c.min-count.ensures, c.loop-place-test.false, c.loop-place.auto.place-end))) c.loop-place.invariant
