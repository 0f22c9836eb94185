use Rattle.std.proofs.Common.{◌≡◌, ℕ, List, Some, None, length, slice_get}
use Rattle.indexmap.specs.IndexMap.{get_by_text}
use Rattle.jh_symbols.proofs.member_numbers.numbers.Numbers.none.Given as goal

abbrev pub invariant-loop-class : goal.invariant-loop-class
invariant-loop-class l = record {
  empty : (i : ℕ) (m : _) → slice_get l.maps.items i ≡ Some m → (x : List ℕ) → get_by_text m x ≡ None;
  count : length l.maps.items ≡ l._class;
}
