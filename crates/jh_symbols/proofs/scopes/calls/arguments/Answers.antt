use Rattle.jh_symbols.specs.scopes.Lookings.{declared_by, scope_by}
use Rattle.jh_symbols.proofs.scopes.Arguments.{gathers-start, gathers-next, gathers-end, gathers-out}
use Rattle.jh_symbols.proofs.scopes.calls.arguments.Goals as goal

-- src/calls.rt
pub loop-index-init : goal.loop-index-init
loop-index-init c = gathers-start (declared_by c.args.lookups.now) (scope_by c.args.at.now) c.args.exprs.now c.args.params.now c.right-found.result c.right-found.ensures

-- src/calls.rt
pub returns-in-None : goal.returns-in-None
returns-in-None c = gathers-out (declared_by c.args.lookups.now) (scope_by c.args.at.now) c.args.exprs.now c.args.params.now c.loop-index.index c.loop-index.found c.in-None.ensures.lookup.3 c.loop-index.invariant

-- src/calls.rt
pub loop-index-preserved : goal.loop-index-preserved
loop-index-preserved c = gathers-next (declared_by c.args.lookups.now) (scope_by c.args.at.now) c.args.exprs.now c.args.params.now c.loop-index.index c.index-exprs-index.result c.in-Some.param.now c.loop-index.found c.join-found.result c.argument.result
    c.loop-index-test.true c.index-exprs-index.is c.in-Some.ensures.lookup.3.0 c.in-Some.ensures.lookup.1 c.argument.ensures c.join-found.ensures c.loop-index.invariant

-- src/calls.rt
pub returns : goal.returns
returns c = gathers-end (declared_by c.args.lookups.now) (scope_by c.args.at.now) c.args.exprs.now c.args.params.now c.loop-index.index c.loop-index.found c.loop-index-test.false c.loop-index.invariant
