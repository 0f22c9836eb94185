use Rattle.std.proofs.Common.{refl, sym, ◌∙◌, ◌+◌}
use Rattle.jh_closure.proofs.congruence_closure.Having.{has-at}
use Rattle.jh_propagation.specs.declared.propagation.branch.Branch.{Branch}
use Rattle.jh_propagation.specs.propagation.Branches.{parts_of}
use Rattle.jh_propagation.proofs.propagation.Quieting.{next-busy}
use Rattle.jh_propagation.proofs.propagation.settling.next_waiting.Goals as goal

pub returns-clause-next : goal.returns-clause-next
returns-clause-next c =
    let old : Branch = c.args.branch.now in
    let new : Branch = record { decisions = old.decisions; classes = old.classes; trail = old.trail; reasons = old.reasons; waiting = old.waiting; head = old.head + 1 } in
    next-busy c.args.problem.now (parts_of old) (parts_of new) c.in_ok-place.place refl refl refl refl refl refl (sym c.place_at.ensures ∙ c.in_ok-place.was) c.requires.branch

pub returns-clause-inside : goal.returns-clause-inside
returns-clause-inside c = c.requires.branch.waits c.in_ok-place.place (has-at c.args.branch.now.waiting.items c.args.branch.now.head c.in_ok-place.place (sym c.place_at.ensures ∙ c.in_ok-place.was))
