use Rattle.jh_propagation.proofs.trail.Noting.{before-found}
use Rattle.jh_propagation.proofs.trail.reasons.place_before.Goals as goal

pub returns-in-None-clause-none : goal.returns-in-None-clause-none
returns-in-None-clause-none c = λ e h. let found = before-found c.args.trail.now c.args.before c.args.literal _ c.in-None.ensures h in absurd (let is = found.is in cc)
