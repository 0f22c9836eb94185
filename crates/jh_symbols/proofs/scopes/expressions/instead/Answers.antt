use Rattle.jh_rules.specs.Faults.{right}
use Rattle.jh_symbols.proofs.scopes.expressions.instead.Goals as goal

-- src/expressions.rt
pub returns-in-Some : goal.returns-in-Some
returns-in-Some c = λ j h. c.after.ensures j (λ u. right c.args.ty) _ h c.in-Some.is c.right.ensures
