use Rattle.std.proofs.Common.{sym, ◌∙◌, subst, List, ℕ, inl, inr}
use Rattle.jh_closure.specs.congruence_closure.Nodes.{Has}
use Rattle.jh_closure.proofs.congruence_closure.Having.{has-at}
use Rattle.jh_propagation.specs.propagation.Branches.{IsSaid}
use Rattle.jh_search.proofs.Lists.{take-has, none-some}
use Rattle.jh_search.proofs.deciding.first_undecided.Goals as goal

pub returns-in-None-clause-some : goal.returns-in-None-clause-some
returns-in-None-clause-some c = (
  subst (λ (xs : List ℕ). Has xs c.place_at-atom.result) c.atoms-atoms.ensures (has-at c.atoms-atoms.result.now c.loop-index.index c.place_at-atom.result c.place_at-atom.ensures),
  λ b h. none-some (sym c.in-None.is ∙ (c.said.ensures b).1 h),
)

pub loop-index-preserved : goal.loop-index-preserved
loop-index-preserved c = λ k h. elim (take-has c.atoms-atoms.result.now c.loop-index.index c.place_at-atom.result k c.place_at-atom.ensures h) [
  | inl old ↦ c.loop-index.invariant k old
  | inr e ↦ subst (IsSaid c.args.branch.now.trail) e (c.in-Some._holds, (c.said.ensures c.in-Some._holds).0 c.in-Some.is)
]
