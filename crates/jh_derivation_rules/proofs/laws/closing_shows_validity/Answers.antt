use Rattle.jh_derivation_rules.proofs.Trees.{closes-valid}
use Rattle.jh_derivation_rules.proofs.laws.closing_shows_validity.Goals as goal

pub returns : goal.returns
returns c = closes-valid c.axioms_are_true.ensures
