use Rattle.jh_type.proofs.formula_kinds.Others.{not-literal}
use Rattle.jh_type.proofs.formula_kinds.operators.is_number_literal.Goals as goal

-- src/operators.rt
pub returns-in_default : goal.returns-in_default
returns-in_default c = not-literal c.args.form.now.place c.args.form.now.body c.in_default.not-Number c.in_default.not-Minus
