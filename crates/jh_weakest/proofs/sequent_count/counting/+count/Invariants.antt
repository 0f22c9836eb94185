use Rattle.std.proofs.Common.{ℕ, ◌+◌, ◌*◌, ◌≤◌, drop, length}
use Rattle.jh_arena.specs.table.Growth.{Extends}
use Rattle.jh_command_terms.specs.command.Code.{list_in}
use Rattle.jh_seq.specs.counting.Counted.{counted_all}
use Rattle.jh_seq.specs.counting.Goals.{Weights}
use Rattle.jh_weakest.specs.sequent_count.Tallies.{Counts}
use Rattle.jh_weakest.proofs.sequent_count.counting.+count.Given as goal

-- the tally counts what has to be true before what is left of the list
abbrev pub invariant-counted_all-steps : goal.invariant-counted_all-steps
invariant-counted_all-steps l = record {
  within : l.at ≤ length l.steps;
  grows : Extends l.initial.table l.table;
  goals : (q r : Weights → ℕ) → Counts l.initial.table l.fn.normal.fixed l.fn.normal.shares.items q → Counts l.initial.table l.returned.fixed l.returned.shares.items r →
      Counts l.table l.tally.fixed l.tally.shares.items (counted_all (list_in l.initial.table (drop l.at l.steps)) q r);
}

abbrev pub decreases-counted_all-steps : goal.decreases-counted_all-steps
decreases-counted_all-steps l = l.at

-- a command, and the parts of one a level below it
abbrev pub decreases-counted : goal.decreases-counted
decreases-counted l = 2 * l.levels

abbrev pub decreases-counted_all : goal.decreases-counted_all
decreases-counted_all l = 2 * l.levels + 1

abbrev pub decreases-counted_both : goal.decreases-counted_both
decreases-counted_both l = 2 * l.levels + 1
