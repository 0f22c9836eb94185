use Rattle.std.proofs.Common.{◌≡◌, drop}
use Rattle.jh_spec.specs.nesting.Nesting.{leads_on}
use Rattle.jh_spec.proofs.nesting.nesting.leads_on.Given as goal

abbrev pub invariant-loop-at : goal.invariant-loop-at
invariant-loop-at l = leads_on (drop l.at l.tokens) ≡ leads_on (drop l.from l.tokens)
