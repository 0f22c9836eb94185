-- What a literal of the trail follows from.
use Rattle.std.specs.Prelude.{◌≡◌, ◌⊎◌, ◌<◌, ◌≤◌, ℕ, List, ◌∷◌, Some, length, slice_get, take}
use Rattle.jh_form.specs.Tree.{ValueTree}
use Rattle.jh_closure.specs.congruence_closure.Nodes.{Has}
use Rattle.jh_cong.specs.declared.classes.literal.Said.{Said}
use Rattle.jh_models.specs.ground_models.Clashes.{Clash}
use Rattle.jh_propagation.specs.declared.trail.decided.Decided.{Decided}
use Rattle.jh_propagation.specs.trail.Saying.{literals_at, opposite_of}
use Rattle.jh_propagation.specs.declared.propagation.problem.Problem.{Problem}
use Rattle.jh_propagation.specs.declared.propagation.branch.Reason.{Reason}
use Rattle.jh_propagation.specs.declared.propagation.branch.Reason.TheVariants as reason
use Rattle.jh_propagation.specs.propagation.Problems.{IsPosed, instances_in}
use Rattle.jh_propagation.specs.propagation.Branches.{IsForced, IsEqual}
use Rattle.jh_propagation.specs.propagation.Speaking.{AreSpoken}

-- The trail with its reasons: each literal that wasn't decided follows from those before it.
pub record IsHistory (ts : List ValueTree) (p : Problem) (trail : List Decided) (reasons : List Reason) : Type 0 where
  pub posed : IsPosed ts p
  pub over_atoms : (d : Decided) → Has trail d → Has p.ground.atoms d.atom
  pub reasoned : length reasons ≡ length trail
  pub instances : (n place : ℕ) (d : Decided) → slice_get trail n ≡ Some d → slice_get reasons n ≡ Some (reason.Instance place) → IsForced ts p (take n trail) d place
  pub equalities : (n count : ℕ) (d : Decided) → slice_get trail n ≡ Some d → slice_get reasons n ≡ Some (reason.Equality count) → IsEqual ts (take n trail) d count
  pub rising : (m n first later : ℕ) → m ≤ n → slice_get reasons m ≡ Some (reason.Equality first) → slice_get reasons n ≡ Some (reason.Equality later) → first ≤ later

-- The classes were told the first literals of the trail, as many as the reasons of the literals before a place speak of.
pub record IsToldBelow (us ts : List ValueTree) (trail : List Decided) (reasons : List Reason) (said : List Said) (place : ℕ) : Type 0 where
  pub counts : (n count : ℕ) → n < place → slice_get reasons n ≡ Some (reason.Equality count) → count ≤ length said
  pub told : length said ≤ length trail
  pub spoken : AreSpoken us ts (take (length said) trail) said

-- each literal whose reason says that it was decided is one of these decisions
abbrev pub AreDecided : List Decided → List Decided → List Reason → Type 0
AreDecided ds trail reasons = (n : ℕ) (d : Decided) → slice_get trail n ≡ Some d → slice_get reasons n ≡ Some reason.Decision → Has ds d

-- the literals at these places stand in a list
abbrev pub HoldAt : List Decided → List ℕ → List Decided → Type 0
HoldAt trail places ks = (n : ℕ) (d : Decided) → Has places n → slice_get trail n ≡ Some d → Has ks d

-- Literals clash with those at these places, whatever others there are.
abbrev pub ClashWith : List ValueTree → Problem → List Decided → List ℕ → Type 0
ClashWith ts p trail places = (ks : List Decided) → HoldAt trail places ks → Clash (instances_in ts p) (literals_at ts ks)

-- So does the opposite of a literal.
abbrev pub RestsOn : List ValueTree → Problem → List Decided → Decided → List ℕ → Type 0
RestsOn ts p trail d places = (ks : List Decided) → HoldAt trail places ks → Clash (instances_in ts p) (literals_at ts (opposite_of d ∷ ks))

-- The literal at a place was decided, or rests on those at other places.
abbrev pub RestsAt : List ValueTree → Problem → List Decided → List Reason → ℕ → List ℕ → Type 0
RestsAt ts p trail reasons place places = (slice_get reasons place ≡ Some reason.Decision) ⊎ ((d : Decided) → slice_get trail place ≡ Some d → RestsOn ts p trail d places)
