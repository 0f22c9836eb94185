use Rattle.std.proofs.Common.{sym, ◌∙◌}
use Rattle.jh_symbols.specs.scopes.Lookings.{declared_by, scope_by}
use Rattle.jh_type.proofs.method_bodies.Leasts.{params-next, params-end, declares-next, declares-end}
use Rattle.jh_type.proofs.method_bodies.declaring.param_faults.Goals as goal

pub loop-param-preserved : goal.loop-param-preserved
loop-param-preserved c = record {
  found = params-next (declared_by c.args.lookups.now) (scope_by c.loop-param.at) (scope_by c.declare.new.self) c.args.params.now c.loop-param.param-index c.param-item.result c.loop-param.found _ _ c.loop-param-test.true c.param-item.is c.declared_faults.ensures c.lesser-found.ensures c.in_ok-declare.ensures.changed ∙ c.loop-param.invariant.found;
  scope = declares-next (declared_by c.args.lookups.now) (scope_by c.loop-param.at) (scope_by c.declare.new.self) c.args.params.now c.loop-param.param-index c.param-item.result c.loop-param-test.true c.param-item.is c.in_ok-declare.ensures.changed ∙ c.loop-param.invariant.scope;
}

pub returns-clause-found : goal.returns-clause-found
returns-clause-found c = sym (params-end (declared_by c.args.lookups.now) (scope_by c.loop-param.at) c.args.params.now c.loop-param.param-index c.loop-param.found c.loop-param-test.false) ∙ c.loop-param.invariant.found

pub returns-clause-scope : goal.returns-clause-scope
returns-clause-scope c = sym (declares-end (declared_by c.args.lookups.now) (scope_by c.loop-param.at) c.args.params.now c.loop-param.param-index c.loop-param-test.false) ∙ c.loop-param.invariant.scope
