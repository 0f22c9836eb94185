use Rattle.std.proofs.Common.{refl, sym, ap, ◌∙◌}
use Rattle.jh_ast.specs.Bare.{expr_tree}
use Rattle.jh_rules.specs.Found.{lesser}
use Rattle.jh_rules.specs.Exprs.{expr_type}
use Rattle.jh_symbols.specs.scopes.Lookings.{declared_by, scope_by}
use Rattle.jh_symbols.proofs.scopes.Lists.{least-next, least-end}
use Rattle.jh_symbols.proofs.scopes.calls.least_in.Goals as goal

-- src/calls.rt
pub loop-expr-init : goal.loop-expr-init
loop-expr-init c = refl

-- src/calls.rt
pub loop-expr-preserved : goal.loop-expr-preserved
loop-expr-preserved c = least-next (λ a. (expr_type (declared_by c.args.lookups.now) (scope_by c.args.at.now) (expr_tree a)).faults) c.args.exprs.now c.loop-expr.expr-index c.expr-item.result c.loop-expr.found c.lesser-found.result c.loop-expr-test.true c.expr-item.is
    (c.lesser-found.ensures ∙ ap (lesser c.loop-expr.found) c.expr_type.ensures.least_is) ∙ c.loop-expr.invariant

-- src/calls.rt
pub returns : goal.returns
returns c = sym (least-end (λ a. (expr_type (declared_by c.args.lookups.now) (scope_by c.args.at.now) (expr_tree a)).faults) c.args.exprs.now c.loop-expr.expr-index c.loop-expr.found c.loop-expr-test.false) ∙ c.loop-expr.invariant
