-- The ground atoms of instances that are nodes, and in which instances each stands.
use Rattle.std.specs.Prelude.{◌≡◌, ◌<◌, ◌⊎◌, ℕ, List, [], map, Some, slice_get, length}
use Rattle.std.specs.Option.{option_map_or}
use Rattle.std.specs.declared.alloc.Global.{Global}
use Rattle.std.specs.declared.vec.Vec.{Vec}
use Rattle.jh_form.specs.Tree.{FormulaTree, ValueTree}
use Rattle.jh_closure.specs.congruence_closure.Nodes.{Has}
use Rattle.jh_closure.specs.congruence_closure.Uses.{row}
use Rattle.jh_arena.specs.table.Growth.{AreDifferent}
use Rattle.jh_models.specs.ground_models.Atoms.{atoms_of, StandsIn, IsGroundAtom}
use Rattle.jh_propagation.specs.trail.Saying.{truth_at, truths_at, IsTruth}

-- atoms in an order, and for each node a list of places of instances
pub record Occurrences : Type 0 where
  pub atoms : List ℕ
  pub rows : List (List ℕ)

-- the places that are listed for a node
abbrev pub places_in : Occurrences → ℕ → List ℕ
places_in g k = option_map_or (λ xs. xs) (slice_get g.rows k) []

-- lists without their memory
abbrev pub lists_in : List (Vec ℕ Global) → List (List ℕ)
lists_in rows = map (λ (v : Vec ℕ Global). v.items) rows

-- The atoms are nodes for the ground atoms of the instances, each once. Where an atom stands in an instance, the place of the
-- instance is among those of the atom.
pub record AreOccurrences (ts : List ValueTree) (is : List ℕ) (g : Occurrences) : Type 0 where
  pub stand : (k : ℕ) → Has g.atoms k → IsGroundAtom (truths_at ts is) (truth_at ts k)
  pub all : (a : FormulaTree) → IsGroundAtom (truths_at ts is) a → (k : ℕ) × (Has g.atoms k × (truth_at ts k ≡ a))
  pub truths : (k : ℕ) → Has g.atoms k → IsTruth ts k
  pub once : AreDifferent g.atoms
  pub occur : (j n k : ℕ) → slice_get is j ≡ Some n → IsTruth ts k → StandsIn (atoms_of (truth_at ts n)) (truth_at ts k) → Has (places_in g k) j
  pub inside : (k j : ℕ) → Has (places_in g k) j → j < length is

-- While they are gathered: an atom is there where a place is listed for it.
pub record AreGathered (atoms : List ℕ) (rows : List (Vec ℕ Global)) : Type 0 where
  pub listed : (k : ℕ) → Has atoms k → (p : ℕ) × Has (row rows k) p
  pub all : (k p : ℕ) → Has (row rows k) p → Has atoms k
  pub once : AreDifferent atoms

-- One more place is listed for one atom.
pub record IsNoted (atom place : ℕ) (old new : List (Vec ℕ Global)) : Type 0 where
  pub keeps : (k p : ℕ) → Has (row old k) p → Has (row new k) p
  pub here : Has (row new atom) place
  pub only : (k p : ℕ) → Has (row new k) p → Has (row old k) p ⊎ ((k ≡ atom) × (p ≡ place))
  pub long : length new ≡ length old

-- a node of this formula, for which the place is listed
pub record HasNode (ts : List ValueTree) (rows : List (Vec ℕ Global)) (place : ℕ) (a : FormulaTree) : Type 0 where
  pub node : ℕ
  pub truth : IsTruth ts node
  pub is : truth_at ts node ≡ a
  pub there : Has (row rows node) place

-- one of these formulas at this node
pub record StandsThere (ts : List ValueTree) (k : ℕ) (atoms : List FormulaTree) : Type 0 where
  pub truth : IsTruth ts k
  pub stands : StandsIn atoms (truth_at ts k)

-- The place of an instance is listed for each of its atoms, and nothing else is new.
pub record AreAdded (ts : List ValueTree) (place : ℕ) (atoms : List FormulaTree) (old new : List (Vec ℕ Global)) : Type 0 where
  pub keeps : (k p : ℕ) → Has (row old k) p → Has (row new k) p
  pub there : (a : FormulaTree) → StandsIn atoms a → HasNode ts new place a
  pub only : (k p : ℕ) → Has (row new k) p → Has (row old k) p ⊎ ((p ≡ place) × StandsThere ts k atoms)
  pub long : length new ≡ length old

-- The first instances are gathered.
pub record AreBegun (ts : List ValueTree) (is : List ℕ) (count : ℕ) (rows : List (Vec ℕ Global)) : Type 0 where
  pub there : (j n : ℕ) (a : FormulaTree) → j < count → slice_get is j ≡ Some n → StandsIn (atoms_of (truth_at ts n)) a → HasNode ts rows j a
  pub only : (k j : ℕ) → Has (row rows k) j → (j < count) × ((n : ℕ) × ((slice_get is j ≡ Some n) × StandsThere ts k (atoms_of (truth_at ts n))))
  pub long : length rows ≡ length ts
