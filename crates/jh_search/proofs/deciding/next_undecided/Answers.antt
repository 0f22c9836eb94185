use Rattle.std.proofs.Common.{sym, ◌∙◌, subst, List, ℕ}
use Rattle.jh_closure.specs.congruence_closure.Nodes.{Has}
use Rattle.jh_closure.proofs.congruence_closure.Having.{has-at}
use Rattle.jh_search.proofs.Lists.{none-some}
use Rattle.jh_search.proofs.deciding.next_undecided.Goals as goal

pub returns-in-None : goal.returns-in-None
returns-in-None c = (
  subst (λ (xs : List ℕ). Has xs c.place_at-atom.result) c.atoms-atoms.ensures (has-at c.atoms-atoms.result.now c.loop-index.index c.place_at-atom.result c.place_at-atom.ensures),
  λ b h. none-some (sym c.in-None.is ∙ (c.said.ensures b).1 h),
)
