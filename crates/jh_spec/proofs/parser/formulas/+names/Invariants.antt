use Rattle.jh_spec.proofs.parser.formulas.+names.Given as goal

abbrev pub decreases-names : goal.decreases-names
decreases-names l = l.room
