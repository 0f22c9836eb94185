-- Marked places of the trail: those of an explanation.
use Rattle.std.specs.Prelude.{◌≡◌, ◌⊎◌, ◌<◌, ◌≤◌, ℕ, Bool, true, List, ◌∷◌, Some, length, slice_get}
use Rattle.jh_form.specs.Tree.{ValueTree}
use Rattle.jh_closure.specs.congruence_closure.Nodes.{Has}
use Rattle.jh_models.specs.ground_models.Clashes.{Clash}
use Rattle.jh_models.specs.shortening.Steps.{AreSteps}
use Rattle.jh_propagation.specs.declared.trail.decided.Decided.{Decided}
use Rattle.jh_propagation.specs.trail.Listing.{DecideOnce}
use Rattle.jh_propagation.specs.trail.Saying.{literals_at, opposite_of}
use Rattle.jh_propagation.specs.declared.propagation.problem.Problem.{Problem}
use Rattle.jh_propagation.specs.declared.propagation.branch.Reason.{Reason}
use Rattle.jh_propagation.specs.declared.propagation.branch.Reason.TheVariants as reason
use Rattle.jh_propagation.specs.propagation.Problems.{instances_in}
use Rattle.jh_explanations.specs.declared.step.Step.{Step}
use Rattle.jh_explanations.specs.Steps.{literals_of, trees_of, AreMarked}

abbrev pub IsMarkedAt : List Bool → ℕ → Type 0
IsMarkedAt marks n = slice_get marks n ≡ Some true

-- the marked literals before a place stand in a list
abbrev pub HoldBelow : List Decided → List Bool → ℕ → List Decided → Type 0
HoldBelow trail marks place ks = (n : ℕ) (d : Decided) → n < place → IsMarkedAt marks n → slice_get trail n ≡ Some d → Has ks d

-- The marked literals clash; and each marked one from a place on was decided, or its opposite clashes with those marked before it.
pub record AreExplained (ts : List ValueTree) (p : Problem) (trail : List Decided) (reasons : List Reason) (marks : List Bool) (place : ℕ) : Type 0 where
  pub long : length marks ≡ length trail
  pub clash : (ks : List Decided) → HoldBelow trail marks (length trail) ks → Clash (instances_in ts p) (literals_at ts ks)
  pub each : (n : ℕ) (d : Decided) → place ≤ n → IsMarkedAt marks n → slice_get trail n ≡ Some d → (slice_get reasons n ≡ Some reason.Decision) ⊎ ((ks : List Decided) → HoldBelow trail marks n ks → Clash (instances_in ts p) (literals_at ts (opposite_of d ∷ ks)))

-- places were marked, and no others
pub record AddsMarks (old new : List Bool) (places : List ℕ) : Type 0 where
  pub long : length new ≡ length old
  pub here : (n : ℕ) → Has places n → IsMarkedAt new n
  pub kept : (n : ℕ) → IsMarkedAt old n → IsMarkedAt new n
  pub only : (n : ℕ) → IsMarkedAt new n → IsMarkedAt old n ⊎ Has places n

-- The steps are the marked literals before a place.
pub record AreGathered (ts : List ValueTree) (p : Problem) (ds trail : List Decided) (marks : List Bool) (place : ℕ) (ss : List Step) : Type 0 where
  pub goes : AreSteps (instances_in ts p) (literals_at ts ds) (trees_of ts ss)
  pub all : HoldBelow trail marks place (literals_of ss)
  pub from : (d : Decided) → Has (literals_of ss) d → (n : ℕ) × ((n < place) × (slice_get trail n ≡ Some d))
  pub once : DecideOnce (literals_of ss)
  pub marked : AreMarked ds ss
