use Rattle.jh_type.proofs.formula_kinds.Others.{not-name}
use Rattle.jh_type.proofs.formula_kinds.shapes.is_name.Goals as goal

-- src/shapes.rt
pub returns-in_default : goal.returns-in_default
returns-in_default c = not-name c.args.text.now c.args.form.now.place c.args.form.now.body c.in_default.not-Name
