use Rattle.jh_rules.specs.Faults.{both}
use Rattle.jh_rules.specs.Rules.{rule_21}
use Rattle.jh_symbols.proofs.scopes.expressions.alike.Goals as goal

-- src/expressions.rt
pub returns-in-None : goal.returns-in-None
returns-in-None c = λ j m h k. c.stop.ensures (both j m) (λ u. rule_21 c.args.place u.0 u.1) (c.both-found.ensures j m h k) c.in-None.is

-- src/expressions.rt
pub returns-in-Some : goal.returns-in-Some
returns-in-Some c = λ j m h k. c.after.ensures (both j m) (λ u. rule_21 c.args.place u.0 u.1) _ (c.both-found.ensures j m h k) c.in-Some.is c.needs_alike.ensures
