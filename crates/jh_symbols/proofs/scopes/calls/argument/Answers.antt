use Rattle.std.proofs.Common.{subst}
use Rattle.jh_ast.specs.Bare.{expr_tree}
use Rattle.jh_rules.specs.Faults.{given, both}
use Rattle.jh_rules.specs.Found.{Finds}
use Rattle.jh_rules.specs.Rules.{rule_23}
use Rattle.jh_rules.specs.Exprs.{expr_type}
use Rattle.jh_symbols.specs.scopes.Lookings.{declared_by, scope_by}
use Rattle.jh_symbols.proofs.scopes.calls.argument.Goals as goal

-- src/calls.rt
pub returns-in-None : goal.returns-in-None
returns-in-None c = c.stop.ensures (both (given (expr_type (declared_by c.args.lookups.now) (scope_by c.args.at.now) (expr_tree c.args.expr.now)).known) (given c.args.param)) (λ t. rule_23 (expr_tree c.args.expr.now) t.0 t.1)
    (c.both-found.ensures _ _ (subst (λ k. Finds c.given-value.result (given k)) c.expr_type.ensures.known c.given-value.ensures) c.given.ensures) c.in-None.is

-- src/calls.rt
pub returns-in-Some : goal.returns-in-Some
returns-in-Some c = c.after.ensures (both (given (expr_type (declared_by c.args.lookups.now) (scope_by c.args.at.now) (expr_tree c.args.expr.now)).known) (given c.args.param)) (λ t. rule_23 (expr_tree c.args.expr.now) t.0 t.1) _
    (c.both-found.ensures _ _ (subst (λ k. Finds c.given-value.result (given k)) c.expr_type.ensures.known c.given-value.ensures) c.given.ensures) c.in-Some.is c.needs_fit.ensures
