use Rattle.jh_spec.proofs.parser.formulas.+words.Given as goal

abbrev pub decreases-words : goal.decreases-words
decreases-words l = l.room
