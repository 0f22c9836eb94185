use Rattle.jh_type.proofs.formula_kinds.Steps.{place-first}
use Rattle.jh_type.proofs.formula_kinds.formulas.first_place.Goals as goal

pub returns-in-len1-up : goal.returns-in-len1-up
returns-in-len1-up c = place-first c.args.place c.args.items.now c.first-item.result c.in-len1-up.len_at_least c.first-item.is
