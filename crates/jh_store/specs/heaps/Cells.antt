-- The heaps and arguments of the definition that values without memory are.
use Rattle.std.specs.Prelude.{List, map}
use Rattle.jh_semantics.specs.Heaps as h
use Rattle.jh_store.specs.declared.heaps.cells.Cell.{Cell}
use Rattle.jh_store.specs.declared.heaps.cells.Cell.TheVariants as x
use Rattle.jh_store.specs.declared.heaps.cells.Heap.{Heap}
use Rattle.jh_store.specs.declared.heaps.cells.Args.{Args}

abbrev pub cell_in : Cell → h.Cell
cell_in (x.Obj a) = h.object a
cell_in (x.Int z) = h.number z
cell_in (x.Bool b) = h.truth_value b
cell_in (x.Set xs) = h.set xs

abbrev pub heap_in : Heap → h.Heap
heap_in heap = record {
  greatest = heap.greatest;
  classes = heap.classes;
  statics = map cell_in heap.statics;
  fields = map (map cell_in) heap.fields;
}

abbrev pub args_in : Args → h.Args
args_in args = record { this = args.this; values = map cell_in args.values }
