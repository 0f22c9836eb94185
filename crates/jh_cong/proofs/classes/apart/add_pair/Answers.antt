use Rattle.std.proofs.Common.{sym, subst, List, [], ◌∷◌, inl, inr}
use Rattle.jh_closure.specs.congruence_closure.Nodes.{Has}
use Rattle.jh_closure.specs.declared.congruence_closure.equation.Equation.{Equation}
use Rattle.jh_closure.proofs.congruence_closure.Having.{has-last, has-left, has-pushed}
use Rattle.jh_arena.specs.table.Nodes.{nodes}
use Rattle.jh_cong.specs.classes.Constants.{ArePair}
use Rattle.jh_cong.specs.classes.Saying.{pair_of}
use Rattle.jh_cong.proofs.classes.apart.add_pair.Goals as goal

pub returns-in_ok-push-clause-covers : goal.returns-in_ok-push-clause-covers
returns-in_ok-push-clause-covers c apart = subst (λ (es : List Equation). Has es (pair_of c.args.left c.args.right)) (sym c.in_ok-push.ensures.items) (has-last c.args.pairs.now.items (pair_of c.args.left c.args.right))

pub returns-in_ok-push-clause-keeps : goal.returns-in_ok-push-clause-keeps
returns-in_ok-push-clause-keeps c e h = subst (λ (es : List Equation). Has es e) (sym c.in_ok-push.ensures.items) (has-left c.args.pairs.now.items (pair_of c.args.left c.args.right ∷ []) e h)

pub returns-in_ok-push-clause-only : goal.returns-in_ok-push-clause-only
returns-in_ok-push-clause-only c e h = elim (has-pushed c.args.pairs.now.items (pair_of c.args.left c.args.right) e (subst (λ (es : List Equation). Has es e) c.in_ok-push.ensures.items h)) [
  | inl old ↦ inl old
  | inr same ↦ inr (subst (λ (z : Equation). ArePair (nodes c.args.table.now) z) same (record { apart = c.are_apart.ensures.0 c.if-are_apart.true; left_inside = c.requires.left; right_inside = c.requires.right }))
]
