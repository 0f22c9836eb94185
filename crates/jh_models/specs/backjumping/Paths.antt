-- A search as it goes on: its path of decisions, and the branches that were closed so far. A decision whose side is closed is
-- turned round where that side needs it; what the closed side needed beside it is kept until the other side is closed too.
use Rattle.std.specs.Prelude.{◌≡◌, ◌⊎◌, Bool, true, false, List, [], ◌∷◌, ◌++◌}
use Rattle.jh_form.specs.Tree.{FormulaTree}
use Rattle.jh_closure.specs.structures.Literals.{LiteralTree, IsListed, AreListed}
use Rattle.jh_models.specs.ground_models.Atoms.{opposite, IsGroundAtom}
use Rattle.jh_models.specs.ground_models.GroundModel.{IsGroundModel}
use Rattle.jh_models.specs.ground_models.Clashes.{DecidesAtom, IsOpen}
use Rattle.jh_models.specs.ground_models.Explanations.{IsExplanation}
use Rattle.jh_models.specs.ground_models.Branches.{ClosedTree, Each, Goes, IsNeeded, AreOnAtoms, AreOpenBefore, AreUndecided, DecideOnce, AllPart, TurnWhereNeeded}

-- A decision of the path. It is the second side where its opposite was searched before it; then there are the decisions that
-- closed that side, beside the opposite itself.
pub record Turn : Type 0 where
  pub literal : LiteralTree
  pub is_second : Bool
  pub needs : List LiteralTree

-- the decisions of a path, which has its newest first, in their order
abbrev pub decisions : List Turn → List LiteralTree
decisions [] = []
decisions (t ∷ before) = decisions before ++ (t.literal ∷ [])

-- no ground model holds the literals
abbrev pub NoModel : List FormulaTree → List LiteralTree → Type 0
NoModel is ls = (m : List LiteralTree) → IsGroundModel is m → AreListed m ls → ⊥

-- a literal is a decision of the path, and needed after those before it
abbrev pub NeededIn : List ClosedTree → List Turn → LiteralTree → Type 0
NeededIn bs [] l = ⊥
NeededIn bs (t ∷ before) l = ((t.literal ≡ l) × IsNeeded bs (decisions before) l) ⊎ NeededIn bs before l

-- what is known of a decision after those before it
pub record IsTurn (is : List FormulaTree) (bs : List ClosedTree) (t : Turn) (before : List Turn) : Type 0 where
  pub on_atom : IsGroundAtom is t.literal.atom
  pub once : Each (λ k. k.atom ≡ t.literal.atom → ⊥) (decisions before)
  pub open_before : IsOpen is (decisions before)
  pub undecided : DecidesAtom is (decisions before) t.literal.atom → ⊥
  pub first : t.is_second ≡ false → Each (λ b. Goes b (decisions before) (opposite t.literal) → ⊥) bs
  pub needed : t.is_second ≡ true → IsNeeded bs (decisions before) (opposite t.literal)
  pub refuted : t.is_second ≡ true → NoModel is (opposite t.literal ∷ t.needs)
  pub places : t.is_second ≡ true → (l : LiteralTree) → IsListed t.needs l → NeededIn bs before l

abbrev pub IsPath : List FormulaTree → List ClosedTree → List Turn → Type 0
IsPath is bs [] = Unit {0}
IsPath is bs (t ∷ before) = IsTurn is bs t before × IsPath is bs before

-- A closed branch parts from the path at a decision that was turned round.
abbrev pub Parts : List Turn → ClosedTree → Type 0
Parts [] b = ⊥
Parts (t ∷ before) b = ((t.is_second ≡ true) × Goes b (decisions before) (opposite t.literal)) ⊎ Parts before b

-- A closed branch begins with the path.
abbrev pub BeginsWith : List Turn → ClosedTree → Type 0
BeginsWith path b = (rest : List LiteralTree) × (b.decisions ≡ decisions path ++ rest)

-- the branches that were closed so far
pub record AreClosed (is : List FormulaTree) (bs : List ClosedTree) : Type 0 where
  pub explained : Each (λ b. IsExplanation is b.decisions b.explanation) bs
  pub on_atoms : AreOnAtoms is bs
  pub once : DecideOnce bs
  pub part : AllPart bs
  pub open_before : AreOpenBefore is bs
  pub undecided : AreUndecided is bs
  pub needed : TurnWhereNeeded bs

-- The search goes on from this path.
pub record IsSearch (is : List FormulaTree) (bs : List ClosedTree) (path : List Turn) : Type 0 where
  pub closed : AreClosed is bs
  pub path_so_far : IsPath is bs path
  pub parts : Each (Parts path) bs

-- All that begins with this path is closed, by some of its decisions.
pub record IsClosing (is : List FormulaTree) (bs : List ClosedTree) (path : List Turn) (needs : List LiteralTree) : Type 0 where
  pub closed : AreClosed is bs
  pub path_so_far : IsPath is bs path
  pub parts : Each (λ b. Parts path b ⊎ BeginsWith path b) bs
  pub refuted : NoModel is needs
  pub places : (l : LiteralTree) → IsListed needs l → NeededIn bs path l

-- a decision, a branch that is closed, and a decision that is turned round
abbrev pub first_side : LiteralTree → Turn
first_side l = record { literal = l; is_second = false; needs = [] }

abbrev pub second_side : LiteralTree → List LiteralTree → Turn
second_side l needs = record { literal = l; is_second = true; needs = needs }

abbrev pub closed_by : List Turn → List LiteralTree → ClosedTree
closed_by path explanation = record { decisions = decisions path; explanation = explanation }

-- those of an explanation that are decisions of the path
pub record AreNeeds (path : List Turn) (explanation needs : List LiteralTree) : Type 0 where
  pub only : (l : LiteralTree) → IsListed needs l → IsListed explanation l × IsListed (decisions path) l
  pub all : (l : LiteralTree) → IsListed explanation l → IsListed (decisions path) l → IsListed needs l

-- The first list without a literal, and with the second one.
pub record AreJoined (needs : List LiteralTree) (l : LiteralTree) (more joined : List LiteralTree) : Type 0 where
  pub only : (k : LiteralTree) → IsListed joined k → (IsListed needs k × (l ≡ k → ⊥)) ⊎ IsListed more k
  pub first : (k : LiteralTree) → IsListed needs k → (l ≡ k) ⊎ IsListed joined k
  pub second : (k : LiteralTree) → IsListed more k → IsListed joined k
