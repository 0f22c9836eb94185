use Rattle.std.proofs.Common.{◌+◌, ◌*◌, ◌≤◌, drop, length}
use Rattle.jh_arena.specs.table.Growth.{Extends}
use Rattle.jh_command_terms.specs.command.Code.{truth_at, IsTruth, list_in}
use Rattle.jh_wp.specs.Wp.{wp_all}
use Rattle.jh_weakest.proofs.precondition.weakest.+wp.Given as goal

-- the formula is what has to be true before what is left of the list
abbrev pub invariant-weakest_of_all-steps : goal.invariant-weakest_of_all-steps
invariant-weakest_of_all-steps l = record {
  within : l.at ≤ length l.steps;
  grows : Extends l.initial.table l.table;
  formula : IsTruth l.table l.formula (wp_all (list_in l.initial.table (drop l.at l.steps)) (truth_at l.initial.table l.normal) (truth_at l.initial.table l.returned));
}

abbrev pub decreases-weakest_of_all-steps : goal.decreases-weakest_of_all-steps
decreases-weakest_of_all-steps l = l.at

-- a command, and the parts of one a level below it
abbrev pub decreases-weakest : goal.decreases-weakest
decreases-weakest l = 2 * l.levels

abbrev pub decreases-weakest_of_all : goal.decreases-weakest_of_all
decreases-weakest_of_all l = 2 * l.levels + 1

abbrev pub decreases-weakest_of_both : goal.decreases-weakest_of_both
decreases-weakest_of_both l = 2 * l.levels + 1
