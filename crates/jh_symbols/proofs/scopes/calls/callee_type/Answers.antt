use Rattle.jh_ast.specs.Bare.{call_tree}
use Rattle.jh_symbols.specs.scopes.Lookings.{declared_by, scope_by}
use Rattle.jh_symbols.specs.scopes.Asking.{called}
use Rattle.jh_symbols.proofs.scopes.calls.callee_type.Goals as goal

-- src/calls.rt
pub returns-in-None : goal.returns-in-None
returns-in-None c = c.stop.ensures _ (called (declared_by c.args.lookups.now) (scope_by c.args.at.now) (call_tree c.args.call.now) c.args.call.now.args) c.callee_class-found.ensures c.in-None.is

-- src/calls.rt
pub returns-in-Some : goal.returns-in-Some
returns-in-Some c = c.after.ensures _ (called (declared_by c.args.lookups.now) (scope_by c.args.at.now) (call_tree c.args.call.now) c.args.call.now.args) _ c.callee_class-found.ensures c.in-Some.is c.called.ensures
