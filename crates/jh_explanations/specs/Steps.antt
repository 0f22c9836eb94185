-- Explanations over nodes of a table.
use Rattle.std.specs.Prelude.{◌≡◌, ◌↔◌, true, List, map}
use Rattle.jh_form.specs.Tree.{ValueTree}
use Rattle.jh_closure.specs.structures.Literals.{LiteralTree}
use Rattle.jh_closure.specs.congruence_closure.Nodes.{Has}
use Rattle.jh_propagation.specs.declared.trail.decided.Decided.{Decided}
use Rattle.jh_propagation.specs.trail.Listing.{DecideOnce}
use Rattle.jh_propagation.specs.trail.Occurring.{Occurrences}
use Rattle.jh_propagation.specs.trail.Saying.{literals_at}
use Rattle.jh_explanations.specs.declared.step.Step.{Step}

abbrev pub literals_of : List Step → List Decided
literals_of ss = map (λ (s : Step). s.literal) ss

abbrev pub trees_of : List ValueTree → List Step → List LiteralTree
trees_of ts ss = literals_at ts (literals_of ss)

-- Each step says whether its literal is one of these decisions.
abbrev pub AreMarked : List Decided → List Step → Type 0
AreMarked ds ss = (s : Step) → Has ss s → (s.is_decision ≡ true) ↔ Has ds s.literal

-- Each literal is over an atom of the instances, and no two are over one.
pub record AreOverAtoms (g : Occurrences) (ds : List Decided) : Type 0 where
  pub over_atoms : (d : Decided) → Has ds d → Has g.atoms d.atom
  pub once : DecideOnce ds
