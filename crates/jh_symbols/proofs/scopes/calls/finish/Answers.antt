use Rattle.jh_rules.specs.Faults.{given}
use Rattle.jh_symbols.proofs.scopes.calls.finish.Goals as goal

-- src/calls.rt
pub returns-in-Some : goal.returns-in-Some
returns-in-Some c = λ j h. c.after.ensures j (λ u. given c.args.ty) _ h c.in-Some.is c.given.ensures
