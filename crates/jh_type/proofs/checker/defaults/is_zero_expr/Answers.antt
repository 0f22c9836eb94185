use Rattle.jh_type.proofs.checker.Others.{not-number-expr}
use Rattle.jh_type.proofs.checker.defaults.is_zero_expr.Goals as goal

-- src/defaults.rt
pub returns-in_default : goal.returns-in_default
returns-in_default c = not-number-expr c.args.expr.now.place c.args.expr.now.body c.in_default.not-Number
