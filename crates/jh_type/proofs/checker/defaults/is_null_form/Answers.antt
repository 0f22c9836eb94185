use Rattle.jh_type.proofs.checker.Others.{not-null}
use Rattle.jh_type.proofs.checker.defaults.is_null_form.Goals as goal

-- src/defaults.rt
pub returns-in_default : goal.returns-in_default
returns-in_default c = not-null c.args.form.now.place c.args.form.now.body c.in_default.not-Null
