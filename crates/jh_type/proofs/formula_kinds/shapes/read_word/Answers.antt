use Rattle.jh_type.proofs.formula_kinds.Others.{not-read}
use Rattle.jh_type.proofs.formula_kinds.shapes.read_word.Goals as goal

-- src/shapes.rt
pub returns-in_default : goal.returns-in_default
returns-in_default c = not-read c.args.text.now c.args.form.now.place c.args.form.now.body c.in_default.not-Member
