-- What stands at nodes.
use Rattle.std.specs.Prelude.{◌≡◌, ℕ, List, [], ◌∷◌, map, Option, None, Some, slice_get}
use Rattle.jh_name.specs.declared.naming.Name.{Name}
use Rattle.jh_form.specs.Tree.{TermTree, FieldTree, FormulaTree, of_object, of_field, of_truth, free_field, read_object}
use Rattle.jh_arena.specs.table.Entries.{Listing}
use Rattle.jh_arena.specs.table.Nodes.{nodes}
use Rattle.jh_reach.specs.Standing.{AreFormulas}
use Rattle.jh_seq.specs.sequent.Sequents.{SequentTree}
use Rattle.jh_fca.specs.elimination.Constraints.{Constraint}
use Rattle.jh_field_constraints.specs.declared.constraints.NodeConstraint.{NodeConstraint}

abbrev pub IsFormula : Listing → ℕ → FormulaTree → Type 0
IsFormula t n a = slice_get (nodes t) n ≡ Some (of_truth a)

abbrev pub IsTerm : Listing → ℕ → TermTree → Type 0
IsTerm t n a = slice_get (nodes t) n ≡ Some (of_object a)

abbrev pub IsField : Listing → ℕ → FieldTree → Type 0
IsField t n f = slice_get (nodes t) n ≡ Some (of_field f)

-- the nodes are these, one by one
unfoldable pub Are : {X : Type 0} → (ℕ → X → Type 0) → List ℕ → List X → Type 0
Are R [] [] = Unit {0}
Are R [] (x ∷ xs) = ⊥
Are R (n ∷ ns) [] = ⊥
Are R (n ∷ ns) (x ∷ xs) = R n x × Are R ns xs

abbrev pub AreTerms : Listing → List ℕ → List TermTree → Type 0
AreTerms t ns more = Are (IsTerm t) ns more

-- the field of this name
abbrev pub IsNamed : Listing → ℕ → Name → Type 0
IsNamed t n x = IsField t n (free_field x)

abbrev pub AreNames : Listing → List ℕ → List Name → Type 0
AreNames t ns xs = Are (IsNamed t) ns xs

-- the read of a field at a term
abbrev pub IsRead : Listing → Name → ℕ → TermTree → Type 0
IsRead t f n a = IsTerm t n (read_object (free_field f) a)

abbrev pub AreReads : Listing → Name → List ℕ → List TermTree → Type 0
AreReads t f ns more = Are (IsRead t f) ns more

-- The nodes of a constraint.
pub record IsConstraint (t : Listing) (of : NodeConstraint) (c : Constraint) : Type 0 where
  pub field : IsNamed t of.field c.field
  pub says : IsFormula t of.says c.says

-- the nodes of a constraint, where there is one
unfoldable pub AreConstraint : Listing → Option NodeConstraint → Option Constraint → Type 0
AreConstraint t None None = Unit {0}
AreConstraint t None (Some c) = ⊥
AreConstraint t (Some of) None = ⊥
AreConstraint t (Some of) (Some c) = IsConstraint t of c

-- The facts of a sequent's hypotheses stand at these nodes, one for each, in the same order, and its goal at this one.
pub record IsSequent (t : Listing) (ns : List ℕ) (n : ℕ) (s : SequentTree) : Type 0 where
  pub facts : AreFormulas t ns (map (λ h. h.fact) s.hyps)
  pub goal : IsFormula t n s.goal
