use Rattle.std.proofs.Common.{sym, subst, drop, List, ℕ, inr, [], ◌∷◌}
use Rattle.jh_closure.specs.congruence_closure.Nodes.{Has}
use Rattle.jh_closure.proofs.congruence_closure.Having.{has-last}
use Rattle.jh_propagation.specs.declared.trail.decided.Decided.{Decided}
use Rattle.jh_propagation.specs.trail.Occurring.{places_in}
use Rattle.jh_propagation.proofs.propagation.Quieting.{waits-again}
use Rattle.jh_propagation.proofs.propagation.settling.take_one.Goals as goal

pub returns-in_ok-push-clause-branch : goal.returns-in_ok-push-clause-branch
returns-in_ok-push-clause-branch c = c.in_ok-push.ensures.branch (c.args.place ∷ []) c.requires.branch

pub returns-in_ok-push-clause-said : goal.returns-in_ok-push-clause-said
returns-in_ok-push-clause-said c = (c.args.literal.holds, subst (λ (trail : List Decided). Has trail c.args.literal) (sym c.in_ok-push.ensures.trail) (has-last c.args.branch.now.trail c.args.literal))

pub returns-in_ok-push-clause-waits : goal.returns-in_ok-push-clause-waits
returns-in_ok-push-clause-waits c =
    let more : List ℕ = places_in c.args.problem.now.ground c.args.literal.atom in
    inr (subst (λ (xs : List ℕ). Has xs c.args.place) (λ i. drop (sym c.in_ok-push.ensures.head i) (sym c.in_ok-push.ensures.waiting i))
    (waits-again c.args.branch.now.waiting.items more c.args.branch.now.head c.args.place c.requires.branch.begun c.requires.occurs))
