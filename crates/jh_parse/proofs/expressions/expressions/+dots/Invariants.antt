use Rattle.jh_parse.proofs.expressions.expressions.+dots.Given as goal

abbrev pub decreases-dots : goal.decreases-dots
decreases-dots l = l.room
