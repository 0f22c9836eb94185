use Rattle.std.proofs.Common.{arith}
use Rattle.std.specs.Prelude.{string_bytes}
use Rattle.jh_heap.specs.text.Writing.{classes_text}
use Rattle.jh_heap.specs.text.Held.{texts_in}
use Rattle.jh_heap.proofs.text.Writings.{classes_end, end_is}
use Rattle.jh_heap.proofs.text.writing.add_classes.Goals as goal

pub returns : goal.returns
returns c =
    end_is (string_bytes c.loop-place.text) (string_bytes c.args.text.now) (classes_text (texts_in c.args.classes.now) c.args.objects.now) _
    (classes_end c.args.classes.now c.args.objects.now c.loop-place.place (omega (arith, c.min-count.ensures, c.loop-place-test.false, c.loop-place.auto.place-end))) c.loop-place.invariant
