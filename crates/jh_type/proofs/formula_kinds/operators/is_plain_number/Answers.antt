use Rattle.jh_type.proofs.formula_kinds.Others.{not-number}
use Rattle.jh_type.proofs.formula_kinds.operators.is_plain_number.Goals as goal

-- src/operators.rt
pub returns-in_default : goal.returns-in_default
returns-in_default c = not-number c.args.form.now.place c.args.form.now.body c.in_default.not-Number
