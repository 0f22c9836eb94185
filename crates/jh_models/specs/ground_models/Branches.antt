-- When closed branches are leaves of one search. Each branch has its list of decisions, in order, and its explanation.
use Rattle.std.specs.Prelude.{◌≡◌, ◌⊎◌, List, [], ◌∷◌, ◌++◌}
use Rattle.jh_form.specs.Tree.{FormulaTree}
use Rattle.jh_closure.specs.structures.Literals.{LiteralTree, IsListed}
use Rattle.jh_models.specs.ground_models.Atoms.{opposite, IsGroundAtom}
use Rattle.jh_models.specs.ground_models.Clashes.{DecidesAtom, IsOpen}

-- a closed branch
pub record ClosedTree : Type 0 where
  pub decisions : List LiteralTree
  pub explanation : List LiteralTree

-- each of a list is so, at least one is, and each two are, the earlier one first
abbrev pub Each : {X : Type 0} → (X → Type 0) → List X → Type 0
Each P [] = Unit {0}
Each P (x ∷ xs) = P x × Each P xs

abbrev pub AtLeastOne : {X : Type 0} → (X → Type 0) → List X → Type 0
AtLeastOne P [] = ⊥
AtLeastOne P (x ∷ xs) = P x ⊎ AtLeastOne P xs

abbrev pub EachTwo : {X : Type 0} → (X → X → Type 0) → List X → Type 0
EachTwo P [] = Unit {0}
EachTwo P (x ∷ xs) = Each (P x) xs × EachTwo P xs

-- The branch begins with these decisions, and then that one.
abbrev pub Goes : ClosedTree → List LiteralTree → LiteralTree → Type 0
Goes b before l = (rest : List LiteralTree) × (b.decisions ≡ before ++ (l ∷ rest))

-- A literal is needed after decisions where some branch begins with them and then with it, and its explanation holds it.
abbrev pub IsNeeded : List ClosedTree → List LiteralTree → LiteralTree → Type 0
IsNeeded bs before l = AtLeastOne (λ b. Goes b before l × IsListed b.explanation l) bs

module _ (is : List FormulaTree) where
  -- each decision is on a ground atom of the instances
  abbrev pub AreOnAtoms : List ClosedTree → Type 0
  AreOnAtoms bs = Each (λ b. Each (λ l. IsGroundAtom is l.atom) b.decisions) bs

  -- each list without its last decision is open
  abbrev pub AreOpenBefore : List ClosedTree → Type 0
  AreOpenBefore bs = Each (λ b. (before : List LiteralTree) (l : LiteralTree) → b.decisions ≡ before ++ (l ∷ []) → IsOpen is before) bs

  -- the atom of a decision isn't decided by the propagation of the decisions before it
  abbrev pub AreUndecided : List ClosedTree → Type 0
  AreUndecided bs = Each (λ b. (before : List LiteralTree) (l : LiteralTree) → Goes b before l → DecidesAtom is before l.atom → ⊥) bs

-- no list decides an atom twice
abbrev pub DecideOnce : List ClosedTree → Type 0
DecideOnce bs = Each (λ b. EachTwo (λ k l. k.atom ≡ l.atom → ⊥) b.decisions) bs

-- Two lists have a first place at which they differ, and there one has a literal and the other its opposite.
abbrev pub Part : ClosedTree → ClosedTree → Type 0
Part b c = (before : List LiteralTree) × (l : LiteralTree) × Goes b before l × Goes c before (opposite l)

abbrev pub AllPart : List ClosedTree → Type 0
AllPart bs = EachTwo Part bs

-- Where one list begins with some decisions and then a literal, and a later one with them and then its opposite, the literal is
-- needed after them: the other side of a decision is searched only where it was needed.
abbrev pub TurnWhereNeeded : List ClosedTree → Type 0
TurnWhereNeeded bs = EachTwo (λ b c. (before : List LiteralTree) (l : LiteralTree) → Goes b before l → Goes c before (opposite l) → IsNeeded bs before l) bs

-- The search isn't finished: a literal is needed after decisions, and no list begins with them and then its opposite.
abbrev pub IsUnfinished : List ClosedTree → Type 0
IsUnfinished bs = (before : List LiteralTree) × (l : LiteralTree) × IsNeeded bs before l × Each (λ b. Goes b before (opposite l) → ⊥) bs

-- The branches are leaves of one search that isn't finished.
pub record AreLeaves (is : List FormulaTree) (bs : List ClosedTree) : Type 0 where
  pub on_atoms : AreOnAtoms is bs
  pub once : DecideOnce bs
  pub part : AllPart bs
  pub open_before : AreOpenBefore is bs
  pub undecided : AreUndecided is bs
  pub needed : TurnWhereNeeded bs
  pub unfinished : IsUnfinished bs
