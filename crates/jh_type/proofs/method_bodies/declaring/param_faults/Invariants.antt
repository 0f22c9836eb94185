use Rattle.std.proofs.Common.{◌≡◌, drop}
use Rattle.jh_rules.specs.Found.{least, lesser}
use Rattle.jh_rules.specs.Scopes.{declare_all}
use Rattle.jh_rules.specs.Statements.{param_faults}
use Rattle.jh_symbols.specs.scopes.Lookings.{declared_by, scope_by}
use Rattle.jh_type.proofs.method_bodies.declaring.param_faults.Given as goal

-- what is found and the rest give what all give, and the rest declares what all declare
abbrev pub invariant-loop-param : goal.invariant-loop-param
invariant-loop-param l = record {
  found : lesser l.found (least (param_faults (declared_by l.lookups) (scope_by l.at) (drop l.param-index l.params))) ≡ least (param_faults (declared_by l.lookups) (scope_by l.initial.at) l.params);
  scope : declare_all (declared_by l.lookups) (scope_by l.at) (drop l.param-index l.params) ≡ declare_all (declared_by l.lookups) (scope_by l.initial.at) l.params;
}
