use Rattle.jh_search.proofs.deciding.next_undecided.Given as goal

abbrev pub invariant-loop-index : goal.invariant-loop-index
invariant-loop-index l = Unit {0}
