use Rattle.jh_type.specs.formula_kinds.Parts as parts
use Rattle.jh_type.proofs.formula_kinds.formulas.truth_found.Goals as goal

pub returns-in-Some : goal.returns-in-Some
returns-in-Some c = λ j h. c.after.ensures j (parts.truth_at c.args.place) _ h c.in-Some.is c.needs_truth.ensures
