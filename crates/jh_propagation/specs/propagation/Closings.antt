-- Why a branch is closed.
use Rattle.std.specs.Prelude.{◌≡◌, ◌<◌, ℕ, List, Some, slice_get, length}
use Rattle.jh_form.specs.Tree.{ValueTree}
use Rattle.jh_closure.specs.congruence_closure.Nodes.{Has}
use Rattle.jh_closure.specs.structures.Literals.{NotMet}
use Rattle.jh_models.specs.ground_models.Truths.{IsFalse}
use Rattle.jh_propagation.specs.declared.trail.decided.Decided.{Decided}
use Rattle.jh_propagation.specs.trail.Listing.{picked}
use Rattle.jh_propagation.specs.trail.Saying.{truth_at, literals_at}
use Rattle.jh_propagation.specs.declared.propagation.problem.Problem.{Problem}
use Rattle.jh_propagation.specs.declared.propagation.branch.Cause.{Cause}
use Rattle.jh_propagation.specs.declared.propagation.branch.Cause.TheVariants as cause

-- the instance at this place is false
pub record IsFalseAt (ts : List ValueTree) (p : Problem) (trail : List Decided) (place : ℕ) : Type 0 where
  pub instance : ℕ
  pub here : slice_get p.instances.items place ≡ Some instance
  pub is_false : IsFalse (literals_at ts trail) (truth_at ts instance)

-- no structure meets the literals at these places
pub record AreUnmet (ts : List ValueTree) (trail : List Decided) (places : List ℕ) : Type 0 where
  pub inside : (n : ℕ) → Has places n → n < length trail
  pub unmet : NotMet (literals_at ts (picked trail places))

abbrev pub IsCause : List ValueTree → Problem → List Decided → Cause → Type 0
IsCause ts p trail (cause.Instance place) = IsFalseAt ts p trail place
IsCause ts p trail (cause.Equality places) = AreUnmet ts trail places
