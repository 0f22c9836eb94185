use Rattle.std.proofs.Common.{sym, subst, ◌∙◌, ℕ, List, [], ◌∷◌, inl, inr}
use Rattle.jh_closure.specs.congruence_closure.Nodes.{Has}
use Rattle.jh_closure.proofs.congruence_closure.Having.{has-last, has-left, has-pushed}
use Rattle.jh_cong.proofs.classes.apart.add_constant.Goals as goal

pub returns-in_ok-push-clause-covers : goal.returns-in_ok-push-clause-covers
returns-in_ok-push-clause-covers c is = subst (λ (ks : List ℕ). Has ks c.args.node) (sym c.in_ok-push.ensures.items) (has-last c.args.made.now.items c.args.node)

pub returns-in_ok-push-clause-keeps : goal.returns-in_ok-push-clause-keeps
returns-in_ok-push-clause-keeps c k h = subst (λ (ks : List ℕ). Has ks k) (sym c.in_ok-push.ensures.items) (has-left c.args.made.now.items (c.args.node ∷ []) k h)

pub returns-in_ok-push-clause-only : goal.returns-in_ok-push-clause-only
returns-in_ok-push-clause-only c k h = elim (has-pushed c.args.made.now.items c.args.node k (subst (λ (ks : List ℕ). Has ks k) c.in_ok-push.ensures.items h)) [
  | inl old ↦ inl old
  | inr same ↦ inr (same, sym c.is_constant_node.ensures ∙ c.if-is_constant_node.true)
]
