-- What the ground search may say of a sequent of local shape.
use Rattle.std.specs.Prelude.{◌≡◌, ◌<◌, ◌≤◌, ℕ, List, map, Option, None, Some}
use Rattle.jh_form.specs.Tree.{FormulaTree}
use Rattle.jh_seq.specs.sequent.Sequents.{SequentTree}
use Rattle.jh_derivation_rules.specs.Steps.{steps_of}
use Rattle.jh_derivation_rules.specs.Closes.{ClosesSequent}
use Rattle.jh_instance_proofs.specs.derivations.Nesting.{OperandsNestWithin}
use Rattle.jh_closure.specs.declared.structures.literal.Literal.{Literal}
use Rattle.jh_closure.specs.structures.Literals.{LiteralTree, literal_tree}
use Rattle.jh_models.specs.ground_models.Branches.{ClosedTree}
use Rattle.jh_models.specs.ground_models.Budget.{IsSpent}
use Rattle.jh_models.specs.ground_models.GroundModel.{IsGroundModel}
use Rattle.jh_query.specs.queries.Size.{capped}
use Rattle.jh_inst.specs.instances.Instances.{IsFirstFree, instances}
use Rattle.jh_inst.specs.instances.Count.{count}
use Rattle.jh_local.specs.declared.answer.Closed.{Closed}
use Rattle.jh_local.specs.declared.answer.LocalCause.{LocalCause}
use Rattle.jh_local.specs.declared.answer.LocalCause.TheVariants as cause
use Rattle.jh_local.specs.declared.answer.Searched.{Searched}
use Rattle.jh_local.specs.declared.answer.Searched.TheVariants as searched

abbrev pub literal_trees : List Literal → List LiteralTree
literal_trees ls = map literal_tree ls

abbrev pub closed_tree : Closed → ClosedTree
closed_tree b = record { decisions = literal_trees b.decisions; explanation = literal_trees b.explanation }

abbrev pub closed_trees : List Closed → List ClosedTree
closed_trees bs = map closed_tree bs

-- the instances have no ground model
abbrev pub HasNoModel : List FormulaTree → Type 0
HasNoModel is = (ls : List LiteralTree) → IsGroundModel is ls → ⊥

-- Why instances of which there can be so many aren't shown to have no ground model, with a budget of so many closed branches.
abbrev pub IsLocalCause : List FormulaTree → ℕ → ℕ → LocalCause → Type 0
IsLocalCause is many leaves (cause.Open b) = (many ≤ 100000) × IsGroundModel is (literal_trees b.literals)
IsLocalCause is many leaves (cause.TooMany n) = (n ≡ capped many) × (100000 < n)
IsLocalCause is many leaves (cause.Budget bs) = (many ≤ 100000) × IsSpent is leaves (closed_trees bs)

-- there can be at most 100,000 of them, and they have no ground model
pub record AreRefuted (is : List FormulaTree) (many : ℕ) : Type 0 where
  pub few : many ≤ 100000
  pub none : HasNoModel is

-- What comes of a search of them: why they aren't shown to have no ground model, or nothing where they have none.
abbrev pub IsOutcome : List FormulaTree → ℕ → ℕ → Option LocalCause → Type 0
IsOutcome is many leaves None = AreRefuted is many
IsOutcome is many leaves (Some cause) = IsLocalCause is many leaves cause

abbrev pub IsSearchedFor : List FormulaTree → ℕ → ℕ → Searched → Type 0
IsSearchedFor is many leaves (searched.Proved derivation) = AreRefuted is many
IsSearchedFor is many leaves (searched.Unproved cause) = IsLocalCause is many leaves cause

-- The derivation of an answer closes the sequent, and no operand of it nests deeper than 4,096 levels.
abbrev pub IsDerived : SequentTree → Searched → Type 0
IsDerived s (searched.Proved derivation) = ClosesSequent (steps_of derivation) s × OperandsNestWithin 4096 (steps_of derivation)
IsDerived s (searched.Unproved cause) = Unit {0}

-- What is said of a sequent is right for the instances that so many rounds make of it, whose constants are numbered from the first
-- number beyond all turns of the sequent; and its derivation closes the sequent.
pub record IsSearched (s : SequentTree) (rounds leaves : ℕ) (a : Searched) : Type 0 where
  pub first : ℕ
  pub is_first : IsFirstFree s first
  pub right : IsSearchedFor (instances s first rounds) (count s first rounds) leaves a
  pub derived : IsDerived s a
