use Rattle.std.proofs.Common.{◌≡◌, drop}
use Rattle.jh_rules.specs.Scopes.{declare_all}
use Rattle.jh_symbols.specs.scopes.Lookings.{declared_by, scope_by}
use Rattle.jh_unfolding.proofs.visitor.entering.declare_all.Given as goal

-- the rest declares what all declare
abbrev pub invariant-loop-param : goal.invariant-loop-param
invariant-loop-param l = declare_all (declared_by l.lookups) (scope_by l.at) (drop l.param-index l.params) ≡ declare_all (declared_by l.lookups) (scope_by l.initial.at) l.params
