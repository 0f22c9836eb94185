use Rattle.jh_rules.specs.Faults.{right}
use Rattle.jh_type.proofs.formula_kinds.operators.instead.Goals as goal

pub returns-in-Some : goal.returns-in-Some
returns-in-Some g c = λ j h. c.after.ensures j (λ u. right c.args.kind) _ h c.in-Some.is c.right.ensures
