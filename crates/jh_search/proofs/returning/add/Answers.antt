use Rattle.std.proofs.Common.{sym, ◌∙◌, subst, List, [], ◌∷◌, inl, inr}
use Rattle.std.proofs.lemmas.Bool.{true≢false}
use Rattle.jh_closure.specs.congruence_closure.Nodes.{Has}
use Rattle.jh_closure.proofs.congruence_closure.Having.{has-left, has-last, has-pushed}
use Rattle.jh_propagation.specs.declared.trail.decided.Decided.{Decided}
use Rattle.jh_search.proofs.returning.add.Goals as goal

pub returns-in_ok-push-clause-only : goal.returns-in_ok-push-clause-only
returns-in_ok-push-clause-only c = λ k h. elim (has-pushed c.args.made.now.items c.args.item k (subst (λ (xs : List Decided). Has xs k) c.in_ok-push.ensures.items h)) [
  | inl old ↦ inr old
  | inr e ↦ inl (e, λ f. true≢false (sym (c.is_one.ensures.1 (e ∙ sym f)) ∙ c.if-not-is_one.true))
]

pub returns-in_ok-push-clause-first : goal.returns-in_ok-push-clause-first
returns-in_ok-push-clause-first c = inr (subst (λ (xs : List Decided). Has xs c.args.item) (sym c.in_ok-push.ensures.items) (has-last c.args.made.now.items c.args.item))

pub returns-in_ok-push-clause-keeps : goal.returns-in_ok-push-clause-keeps
returns-in_ok-push-clause-keeps c = λ k h. subst (λ (xs : List Decided). Has xs k) (sym c.in_ok-push.ensures.items) (has-left c.args.made.now.items (c.args.item ∷ []) k h)
