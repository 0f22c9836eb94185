use Rattle.std.proofs.Common.{Some}
use Rattle.jh_rules.specs.Faults.{right}
use Rattle.jh_symbols.proofs.scopes.calls.value_callee.Goals as goal

-- src/calls.rt
pub returns-in-Some : goal.returns-in-Some
returns-in-Some c = λ j h. c.after.ensures j (λ r. right (r.0, Some r.1)) _ h c.in-Some.is c.right.ensures
