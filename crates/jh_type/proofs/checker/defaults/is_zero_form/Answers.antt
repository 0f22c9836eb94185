use Rattle.jh_type.proofs.checker.Others.{not-number}
use Rattle.jh_type.proofs.checker.defaults.is_zero_form.Goals as goal

-- src/defaults.rt
pub returns-in_default : goal.returns-in_default
returns-in_default c = not-number c.args.form.now.place c.args.form.now.body c.in_default.not-Number
