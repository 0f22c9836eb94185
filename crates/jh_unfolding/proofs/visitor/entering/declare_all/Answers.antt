use Rattle.std.proofs.Common.{sym, ◌∙◌}
use Rattle.jh_symbols.specs.scopes.Lookings.{declared_by, scope_by}
use Rattle.jh_type.proofs.method_bodies.Leasts.{declares-next, declares-end}
use Rattle.jh_unfolding.proofs.visitor.entering.declare_all.Goals as goal

pub loop-param-preserved : goal.loop-param-preserved
loop-param-preserved c = declares-next (declared_by c.args.lookups.now) (scope_by c.loop-param.at) (scope_by c.declare.new.self) c.args.params.now c.loop-param.param-index c.param-item.result c.loop-param-test.true c.param-item.is c.in_ok-declare.ensures.changed ∙ c.loop-param.invariant

pub returns : goal.returns
returns c = sym (declares-end (declared_by c.args.lookups.now) (scope_by c.loop-param.at) c.args.params.now c.loop-param.param-index c.loop-param-test.false) ∙ c.loop-param.invariant
