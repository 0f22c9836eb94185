use Rattle.std.proofs.Common.{subst, ℕ, List, inl, inr}
use Rattle.jh_closure.specs.congruence_closure.Nodes.{Has}
use Rattle.jh_closure.specs.declared.congruence_closure.equation.Equation.{Equation}
use Rattle.jh_arena.specs.table.Nodes.{nodes}
use Rattle.jh_cong.specs.flattening.TreeValues.{AreApart}
use Rattle.jh_cong.specs.classes.Saying.{pair_of, tree_at}
use Rattle.jh_cong.proofs.classes.Aparting.{pairs-made}
use Rattle.jh_cong.proofs.classes.apart.pairs_of.Goals as goal

pub returns : goal.returns
returns c =
    let ts = nodes c.args.table.now in
    let pairs = c.add_all.new.pairs.items in
    pairs-made ts c.in_ok-listed.listed.items pairs c.in_ok-listed.ensures
    (subst (λ (ks : List ℕ). (m k : ℕ) → Has ks m → Has ks k → AreApart (tree_at ts m) (tree_at ts k) → Has pairs (pair_of m k)) c.as_slice.ensures.value c.in_ok-add_all.ensures.covers)
    (λ e h. elim (c.in_ok-add_all.ensures.only e h) [ inl old ↦ absurd (subst (λ (es : List Equation). Has es e) c.new-pairs.ensures.items old) | inr pair ↦ pair ])
