use Rattle.jh_type.proofs.checker.Others.{not-false-expr}
use Rattle.jh_type.proofs.checker.defaults.is_false_expr.Goals as goal

-- src/defaults.rt
pub returns-in_default : goal.returns-in_default
returns-in_default c = not-false-expr c.args.expr.now.place c.args.expr.now.body c.in_default.not-False
