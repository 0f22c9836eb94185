use Rattle.std.proofs.Common.{take}
use Rattle.jh_arena.specs.table.Growth.{Grows}
use Rattle.jh_heap_layout.specs.layout.Lasting.{HasClasses}
use Rattle.jh_heap_layout.proofs.layout.places.class_numbers.Given as goal

abbrev pub invariant-loop-class : goal.invariant-loop-class
invariant-loop-class l = record {
  names : Grows l.initial.names l.names;
  numbers : HasClasses l.names l.made.items (take l.class-index l.fn.classes);
}
