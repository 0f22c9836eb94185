use Rattle.std.proofs.Common.{sym, ◌∙◌, subst, List, ℕ}
use Rattle.jh_closure.specs.congruence_closure.Nodes.{Has}
use Rattle.jh_closure.proofs.congruence_closure.Having.{has-at}
use Rattle.jh_search.proofs.deciding.better_at.Goals as goal

pub better-requires-clause-atom : goal.better-requires-clause-atom
better-requires-clause-atom c = subst (λ (xs : List ℕ). Has xs c.in-Some.atom) c.atoms.ensures (has-at c.atoms.result.now c.args.index c.in-Some.atom (sym c.atom_at.ensures ∙ c.in-Some.is))
