use Rattle.jh_search.proofs.deciding.first_choice.Given as goal

abbrev pub invariant-loop-index : goal.invariant-loop-index
invariant-loop-index l = Unit {0}
