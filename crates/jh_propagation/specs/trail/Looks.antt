-- What is found of an instance: that it is false, or the literals whose opposite makes it false.
use Rattle.std.specs.Prelude.{◌≡◌, ◌<◌, ◌++◌, ℕ, Bool, true, false, List, [], ◌∷◌, Option, Some, None, slice_get, take}
use Rattle.jh_form.specs.Tree.{FormulaTree, ValueTree}
use Rattle.jh_closure.specs.congruence_closure.Nodes.{Has}
use Rattle.jh_models.specs.ground_models.Truths.{IsFalse}
use Rattle.jh_propagation.specs.declared.trail.decided.Decided.{Decided}
use Rattle.jh_propagation.specs.declared.trail.found.Found.{Found}
use Rattle.jh_propagation.specs.declared.trail.found.Found.TheVariants as found
use Rattle.jh_propagation.specs.declared.trail.looking.Looked.{Looked}
use Rattle.jh_propagation.specs.declared.trail.looking.Looked.TheVariants as looked
use Rattle.jh_propagation.specs.trail.Saying.{literals_at, opposite_of, supposed}

-- The instance isn't false, and the list has exactly the literals whose opposite, put to the decided ones, makes it false.
pub record AreForced (ts : List ValueTree) (ds : List Decided) (i : FormulaTree) (list : List Decided) : Type 0 where
  pub not_false : IsFalse (literals_at ts ds) i → ⊥
  pub all : (l : Decided) → IsFalse (literals_at ts (opposite_of l ∷ ds)) i → Has list l
  pub only : (l : Decided) → Has list l → IsFalse (literals_at ts (opposite_of l ∷ ds)) i

-- What is seen of an instance: a list of what is forced, or no list where it is false.
abbrev pub IsSeen : List ValueTree → List Decided → FormulaTree → Option (List Decided) → Type 0
IsSeen ts ds i None = IsFalse (literals_at ts ds) i
IsSeen ts ds i (Some list) = AreForced ts ds i list

-- the literals that are forced, where the instance isn't false
abbrev pub list_in : Found → Option (List Decided)
list_in found.False = None
list_in found.Nothing = Some []
list_in (found.One l) = Some (l ∷ [])
list_in (found.Many v) = Some v.items

-- the same, and no literals where it is false
abbrev pub items_in : Found → List Decided
items_in found.False = []
items_in found.Nothing = []
items_in (found.One l) = l ∷ []
items_in (found.Many v) = v.items

-- the list of a look, where the instance isn't false
abbrev pub list_of : Looked → Option (List Decided)
list_of looked.False = None
list_of (looked.Forces list) = Some list

-- a list of what stands in both
pub record AreCommon (xs ys list : List Decided) : Type 0 where
  pub left : (l : Decided) → Has list l → Has xs l
  pub right : (l : Decided) → Has list l → Has ys l
  pub all : (l : Decided) → Has xs l → Has ys l → Has list l

-- Among these literals is each that stands at one of the places, and the opposite of the one that is supposed.
pub record Covers (ds : List Decided) (except : Option Decided) (places : List ℕ) (ks : List Decided) : Type 0 where
  pub placed : (p : ℕ) (d : Decided) → Has places p → slice_get ds p ≡ Some d → Has ks d
  pub turned : (d : Decided) → except ≡ Some d → Has ks (opposite_of d)

-- a place of a list
abbrev pub HasPlace : List Decided → ℕ → Type 0
HasPlace ds p = (d : Decided) × (slice_get ds p ≡ Some d)

-- Places before one were added, of literals that make the instance false.
pub record IsReason (ts : List ValueTree) (ds : List Decided) (except : Option Decided) (before : ℕ) (i : FormulaTree) (old new : List ℕ) : Type 0 where
  pub places : List ℕ
  pub added : new ≡ old ++ places
  pub below : (p : ℕ) → Has places p → (p < before) × HasPlace ds p
  pub makes : (ks : List Decided) → Covers ds except places ks → IsFalse (literals_at ts ks) i

-- Nothing was added, and the literals before the place don't make the instance false.
pub record IsNoReason (ts : List ValueTree) (ds : List Decided) (except : Option Decided) (before : ℕ) (i : FormulaTree) (old new : List ℕ) : Type 0 where
  pub none : IsFalse (literals_at ts (supposed except (take before ds))) i → ⊥
  pub same : new ≡ old

-- whether there is a reason
abbrev pub IsSought : List ValueTree → List Decided → Option Decided → ℕ → FormulaTree → List ℕ → List ℕ → Bool → Type 0
IsSought ts ds except before i old new true = IsReason ts ds except before i old new
IsSought ts ds except before i old new false = IsNoReason ts ds except before i old new
