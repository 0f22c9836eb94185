use Rattle.jh_type.proofs.checker.Others.{not-false}
use Rattle.jh_type.proofs.checker.defaults.is_false_form.Goals as goal

-- src/defaults.rt
pub returns-in_default : goal.returns-in_default
returns-in_default c = not-false c.args.form.now.place c.args.form.now.body c.in_default.not-False
