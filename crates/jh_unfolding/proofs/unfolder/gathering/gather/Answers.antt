use Rattle.std.proofs.Common.{ap}
use Rattle.jh_rules.specs.Scopes.{Scope}
use Rattle.jh_unfolding.proofs.unfolder.gathering.gather.Goals as goal

pub begin-requires-clause-outside : goal.begin-requires-clause-outside
begin-requires-clause-outside c = λ x. ap (λ (s : Scope). s.local x) c.outermost-at.ensures

pub gather_in-requires-clause-outside : goal.gather_in-requires-clause-outside
gather_in-requires-clause-outside c = λ x. ap (λ (s : Scope). s.local x) c.outermost-at.ensures
