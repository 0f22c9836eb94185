use Rattle.std.proofs.Common.{◌≡◌, subst, true, ◌↔◌, List}
use Rattle.jh_closure.specs.congruence_closure.Nodes.{Has}
use Rattle.jh_propagation.specs.declared.trail.decided.Decided.{Decided}
use Rattle.jh_explanations.proofs.explaining.step_of.Goals as goal

pub returns-clause-marked : goal.returns-clause-marked
returns-clause-marked c = subst (λ (xs : List Decided). (c.has.result ≡ true) ↔ Has xs c.literal-literal.result) c.as_slice.ensures.value c.has.ensures
