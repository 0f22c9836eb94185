use Rattle.std.proofs.Common.{sym, ap, ◌∙◌, ◌-◌, length, Some}
use Rattle.std.proofs.lemmas.Bool.{eqb-true}
use Rattle.jh_closure.proofs.congruence_closure.Having.{has-at}
use Rattle.jh_propagation.proofs.trail.occurring.is_last.Goals as goal

pub returns-in-Some : goal.returns-in-Some
returns-in-Some c = λ h. has-at c.args.list.now (length c.args.list.now - 1) c.args.place (sym c.in-Some.ensures.value ∙ ap Some (eqb-true c.in-Some.last.now c.args.place h))
