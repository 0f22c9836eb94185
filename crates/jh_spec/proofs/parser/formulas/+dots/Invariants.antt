use Rattle.jh_spec.proofs.parser.formulas.+dots.Given as goal

abbrev pub decreases-dots : goal.decreases-dots
decreases-dots l = l.room
