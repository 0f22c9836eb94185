use Rattle.jh_arena.specs.table.Growth.{Grows}
use Rattle.jh_machine.proofs.slots.HomeSteps.{AreHomesBelow}
use Rattle.jh_machine.proofs.slots.homes.homes_of.Given as goal

abbrev pub invariant-loop-number : goal.invariant-loop-number
invariant-loop-number l = record {
  names : Grows l.initial.names l.names;
  homes : AreHomesBelow l.fn.table.pools.names l.names l.number l.made.items;
}
