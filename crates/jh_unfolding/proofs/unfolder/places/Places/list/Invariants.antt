use Rattle.std.proofs.Common.{◌≡◌, ◌<◌, ℕ, length, slice_get, Some}
use Rattle.jh_unfolding.specs.unfolder.Noted.{place_of}
use Rattle.jh_unfolding.proofs.unfolder.places.Places.list.Given as goal

abbrev pub invariant-loop-number : goal.invariant-loop-number
invariant-loop-number l = record {
  count : length l.made.items ≡ l.number;
  is : (n : ℕ) → n < l.number → slice_get l.made.items n ≡ Some (place_of l.self n);
}
