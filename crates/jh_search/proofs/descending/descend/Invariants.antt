use Rattle.std.proofs.Common.{◌≡◌, true}
use Rattle.jh_propagation.specs.propagation.Branches.{undecided_count}
use Rattle.jh_propagation.specs.propagation.Resting.{IsAtRest}
use Rattle.jh_search.specs.Searches.{IsSearching}
use Rattle.jh_search.proofs.descending.descend.Given as goal

abbrev pub invariant-loop-cause : goal.invariant-loop-cause
invariant-loop-cause l = record {
  searching : IsSearching l.problem l.searching;
  table : l.searching.branch.classes.table ≡ l.fn.searching.branch.classes.table;
  closed : l.searching.closed.items ≡ l.fn.searching.closed.items;
  rested : l.rested ≡ true → IsAtRest l.problem l.searching.branch;
}

abbrev pub decreases-loop-cause : goal.decreases-loop-cause
decreases-loop-cause l = undecided_count l.problem l.searching.branch
