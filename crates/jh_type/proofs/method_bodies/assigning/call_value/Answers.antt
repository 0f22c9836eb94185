use Rattle.jh_rules.specs.Rules.{rule_24_value}
use Rattle.jh_type.proofs.method_bodies.assigning.call_value.Goals as goal

pub returns-in-Some : goal.returns-in-Some
returns-in-Some c = λ j h. c.after.ensures j (rule_24_value c.args.place) _ h c.in-Some.is c.needs_value.ensures
