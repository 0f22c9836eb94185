use Rattle.std.proofs.Common.{◌<◌, sym, subst, inl, inr, ℕ, List, [], ◌∷◌, length}
use Rattle.jh_closure.specs.union_find.Merges.{root}
use Rattle.jh_closure.specs.congruence_closure.Nodes.{Has}
use Rattle.jh_closure.proofs.congruence_closure.Answering.{given-inside, given-value, alike-signature}
use Rattle.jh_closure.proofs.congruence_closure.Having.{has-left, has-last, has-pushed}
use Rattle.jh_closure.proofs.congruence_closure.Oks.{on-ok-then}
use Rattle.jh_closure.proofs.congruence_closure.explaining.add_reason.Goals as goal

pub returns-in_ok-push-in-Given-clause-listed : goal.returns-in_ok-push-in-Given-clause-listed
returns-in_ok-push-in-Given-clause-listed c i h = subst (λ (ks : List ℕ). Has ks i) (sym c.in_ok-push-in-Given.ensures.items) (has-left c.args.listed.now.items (c.in-Given.number ∷ []) i h)

pub returns-in_ok-push-in-Given-clause-numbers : goal.returns-in_ok-push-in-Given-clause-numbers
returns-in_ok-push-in-Given-clause-numbers c said f just i h =
    elim (has-pushed c.args.listed.now.items c.in-Given.number i (subst (λ (ks : List ℕ). Has ks i) c.in_ok-push-in-Given.ensures.items h)) [
      | inl old ↦ inl old
      | inr same ↦ inr (subst (λ z. z < length said) same (given-inside c.args.nodes.now said f c.args.merge.why c.args.merge.left c.args.merge.right c.in-Given.number c.in-Given.is just))
    ]

pub returns-in_ok-push-in-Given-clause-leads : goal.returns-in_ok-push-in-Given-clause-leads
returns-in_ok-push-in-Given-clause-leads c said f s at just gives met eq =
    given-value c.args.nodes.now said f c.args.merge.why c.args.merge.left c.args.merge.right c.in-Given.number c.in-Given.is just at c.push.new.self.items met
    (subst (λ (ks : List ℕ). Has ks c.in-Given.number) (sym c.in_ok-push-in-Given.ensures.items) (has-last c.args.listed.now.items c.in-Given.number))

pub returns-in-Alike-clause-asked : goal.returns-in-Alike-clause-asked
returns-in-Alike-clause-asked c =
    on-ok-then c.ask_parts.result
    (λ h said ms lt just all. h ms (length c.args.nodes.now) lt
    (alike-signature c.args.nodes.now said (root ms c.args.time) c.args.merge.why c.args.merge.left c.args.merge.right c.node_at.result c.node_at-in-Alike.result c.in-Alike.is just c.node_at.ensures c.node_at-in-Alike.ensures)
    (c.requires.parts.inside c.args.merge.left c.node_at.result c.node_at.ensures) (c.requires.parts.inside c.args.merge.right c.node_at-in-Alike.result c.node_at-in-Alike.ensures) all)
    c.ask_parts.ensures.asked
