use Rattle.jh_weakest.proofs.sequent_count.goals.+goals.Given as goal

abbrev pub decreases-add_goals : goal.decreases-add_goals
decreases-add_goals l = l.node
