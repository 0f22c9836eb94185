use Rattle.jh_operators.proofs.lookahead.modifying.+modifiers.Given as goal

abbrev pub decreases-modifiers : goal.decreases-modifiers
decreases-modifiers l = l.room
