use Rattle.std.proofs.Common.{◌≡◌, ◌≤◌, ◌^◌, ◌↔◌, drop}
use Rattle.jh_digits.specs.systems.Solution.{entry_of, right_of, weighted, spelled}
use Rattle.jh_digits.proofs.systems.Layers.{Agrees}
use Rattle.jh_digits.proofs.systems.checking.is_row_equal.Given as goal

abbrev pub invariant-loop-layer : goal.invariant-loop-layer
invariant-loop-layer l = record {
  left : l.left ≤ 2 ^ 96;
  right : l.right ≤ 2 ^ 96;
  same : (weighted (entry_of l.system l.row) (spelled l.layers) l.system.columns ≡ right_of l.system l.row)
      ↔ Agrees (entry_of l.system l.row) l.system.columns (drop l.layer-index l.layers) l.left l.right;
}
