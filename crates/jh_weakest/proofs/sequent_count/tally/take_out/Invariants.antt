use Rattle.std.proofs.Common.{drop}
use Rattle.jh_arena.specs.table.Entries.{Listing}
use Rattle.jh_seq.specs.counting.Goals.{Weights}
use Rattle.jh_weakest.specs.sequent_count.Tallies.{AreNames, IsTaken, Lacks}
use Rattle.jh_weakest.proofs.sequent_count.tally.take_out.Given as goal

-- what was met so far is the rest, and what was taken
abbrev pub invariant-loop-index : goal.invariant-loop-index
invariant-loop-index l = record {
  names : (t : Listing) → AreNames t l.shares → AreNames t l.made.rest.items;
  lacks : Lacks l.leaf l.made.rest.items;
  goals : (t : Listing) (w : Weights) → IsTaken t w l.leaf l.shares l.made.rest.items l.made.plain l.made.marked (drop l.index l.shares);
}
