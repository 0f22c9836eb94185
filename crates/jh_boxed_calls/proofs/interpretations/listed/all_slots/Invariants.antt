use Rattle.std.proofs.Common.{◌≡◌, length}
use Rattle.jh_boxed_calls.specs.interpretations.Interps.{AreSlots}
use Rattle.jh_boxed_calls.proofs.interpretations.listed.all_slots.Given as goal

abbrev pub invariant-loop-number : goal.invariant-loop-number
invariant-loop-number l = record {
  counted : length l.slots.items ≡ l.number;
  known : AreSlots l.interp l.table.pools.names l.slots.items;
}
