use Rattle.std.proofs.Common.{◌≡◌, ◌||◌, drop}
use Rattle.std.specs.List.{list_any}
use Rattle.jh_query.specs.queries.Bare.{cond_tree}
use Rattle.jh_query.specs.declared.partial_truth.casing.Atom.{Atom}
use Rattle.jh_bapa.specs.decision.Cases.{is_hopeless}
use Rattle.jh_bapa.proofs.decision.hoping.are_hopeless.Given as goal

abbrev pub invariant-loop-atom : goal.invariant-loop-atom
invariant-loop-atom l = list_any (λ (a : Atom). is_hopeless l.atoms l.spots (cond_tree a.cond.now) a.case) l.atoms ≡ (l.any || list_any (λ (a : Atom). is_hopeless l.atoms l.spots (cond_tree a.cond.now) a.case) (drop l.atom-index l.atoms))
