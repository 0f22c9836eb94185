use Rattle.std.proofs.Common.{sym, subst, ℕ, List, [], ◌∷◌, inl, inr}
use Rattle.jh_closure.specs.congruence_closure.Nodes.{Has}
use Rattle.jh_closure.proofs.congruence_closure.Having.{has-last, has-left, has-pushed}
use Rattle.jh_cong.proofs.classes.following.add_where.Goals as goal

pub returns-in_ok-push-clause-added : goal.returns-in_ok-push-clause-added
returns-in_ok-push-clause-added c f = subst (λ (ks : List ℕ). Has ks c.args.number) (sym c.in_ok-push.ensures.items) (has-last c.args.listed.now.items c.args.number)

pub returns-in_ok-push-clause-keeps : goal.returns-in_ok-push-clause-keeps
returns-in_ok-push-clause-keeps c i h = subst (λ (ks : List ℕ). Has ks i) (sym c.in_ok-push.ensures.items) (has-left c.args.listed.now.items (c.args.number ∷ []) i h)

pub returns-in_ok-push-clause-only : goal.returns-in_ok-push-clause-only
returns-in_ok-push-clause-only c i h = elim (has-pushed c.args.listed.now.items c.args.number i (subst (λ (ks : List ℕ). Has ks i) c.in_ok-push.ensures.items h)) [
  | inl old ↦ inl old
  | inr same ↦ inr (same, c.same.ensures.0 c.if-same.true)
]
