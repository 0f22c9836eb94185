use Rattle.std.proofs.Common.{◌≡◌, ◌++◌, drop}
use Rattle.jh_heap.specs.text.Held.{texts_in}
use Rattle.jh_heap_layout.proofs.layout.classes.all_texts.Given as goal

abbrev pub invariant-loop-class : goal.invariant-loop-class
invariant-loop-class l = texts_in l.made.items ++ drop l.class-index l.fn.classes ≡ l.fn.classes
