use Rattle.std.proofs.Common.{◌≡◌, ◌+◌, drop}
use Rattle.jh_arena.specs.table.Entries.{Listing}
use Rattle.jh_seq.specs.counting.Goals.{Weights, capped}
use Rattle.jh_weakest.specs.sequent_count.Tallies.{AreNames, shares_of, tally_of}
use Rattle.jh_weakest.proofs.sequent_count.tally.Tally.join.Given as goal

abbrev pub invariant-loop-index : goal.invariant-loop-index
invariant-loop-index l = record {
  names : (t : Listing) → AreNames t l.fn.self.shares.items → AreNames t l.shares → AreNames t l.made.shares.items;
  goals : (t : Listing) (w : Weights) → capped (tally_of t l.fn.self.fixed l.fn.self.shares.items w + tally_of t l.fixed l.shares w) ≡ capped (tally_of t l.made.fixed l.made.shares.items w + shares_of t (drop l.index l.shares) w);
}
