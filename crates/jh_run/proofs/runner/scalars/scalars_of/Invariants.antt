use Rattle.std.proofs.Common.{◌≡◌, ◌++◌, ℕ, drop, map}
use Rattle.jh_semantics.specs.Heaps.{cell_value}
use Rattle.jh_store.specs.heaps.Cells.{cell_in}
use Rattle.jh_store.specs.heaps.Inside.{AreInside}
use Rattle.jh_operands.specs.Scalars.{datum_of}
use Rattle.jh_machine.specs.locals.Locals.{AllInside}
use Rattle.jh_run.proofs.runner.scalars.scalars_of.Given as goal

abbrev pub invariant-loop-cell : goal.invariant-loop-cell
invariant-loop-cell l = record {
  values : map datum_of l.made.items ++ map cell_value (map cell_in (drop l.cell-index l.fn.cells)) ≡ map cell_value (map cell_in l.fn.cells);
  inside : (n : ℕ) → AreInside n (map cell_in l.fn.cells) → AllInside n l.made.items;
}
