use Rattle.std.proofs.Common.{◌≡◌, ◌+◌, ◌<◌, ◌^◌, drop}
use Rattle.jh_arena.specs.table.Entries.{Listing}
use Rattle.jh_seq.specs.counting.Goals.{capped, ones}
use Rattle.jh_weakest.specs.sequent_count.Tallies.{shares_of, tally_of}
use Rattle.jh_weakest.proofs.sequent_count.tally.Tally.total.Given as goal

abbrev pub invariant-loop-index : goal.invariant-loop-index
invariant-loop-index l = record {
  fits : l.total < 2 ^ 128;
  total : (t : Listing) → capped (tally_of t l.self.fixed l.self.shares.items ones) ≡ capped (l.total + shares_of t (drop l.index l.self.shares.items) ones);
}
