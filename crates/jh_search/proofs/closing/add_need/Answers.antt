use Rattle.std.proofs.Common.{sym, subst, List, [], ◌∷◌, inl, inr}
use Rattle.jh_closure.specs.congruence_closure.Nodes.{Has}
use Rattle.jh_closure.proofs.congruence_closure.Having.{has-left, has-last, has-pushed}
use Rattle.jh_propagation.specs.declared.trail.decided.Decided.{Decided}
use Rattle.jh_search.proofs.closing.add_need.Goals as goal

pub returns-in_ok-push-clause-only : goal.returns-in_ok-push-clause-only
returns-in_ok-push-clause-only c = λ d h. elim (has-pushed c.args.needs.now.items c.args.step.literal d (subst (λ (xs : List Decided). Has xs d) c.in_ok-push.ensures.items h)) [
  | inl old ↦ inl old
  | inr e ↦ inr (e, c.if-step.true)
]

pub returns-in_ok-push-clause-keeps : goal.returns-in_ok-push-clause-keeps
returns-in_ok-push-clause-keeps c = λ d h. subst (λ (xs : List Decided). Has xs d) (sym c.in_ok-push.ensures.items) (has-left c.args.needs.now.items (c.args.step.literal ∷ []) d h)

pub returns-in_ok-push-clause-here : goal.returns-in_ok-push-clause-here
returns-in_ok-push-clause-here c = λ e. subst (λ (xs : List Decided). Has xs c.args.step.literal) (sym c.in_ok-push.ensures.items) (has-last c.args.needs.now.items c.args.step.literal)
