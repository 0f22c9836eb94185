use Rattle.std.proofs.Common.{◌≡◌, ◌<◌, ◌-◌, length}
use Rattle.jh_search.specs.Searches.{IsSearching}
use Rattle.jh_search.proofs.searching.search.Given as goal

abbrev pub invariant-loop-end : goal.invariant-loop-end
invariant-loop-end l = record {
  searching : IsSearching l.problem l.searching;
  room : length l.searching.closed.items < l.leaves;
  table : l.searching.branch.classes.table ≡ l.fn.searching.branch.classes.table;
}

abbrev pub decreases-loop-end : goal.decreases-loop-end
decreases-loop-end l = l.leaves - length l.searching.closed.items
