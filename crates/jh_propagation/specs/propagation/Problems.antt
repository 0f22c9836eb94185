-- The instances of a search.
use Rattle.std.specs.Prelude.{◌≡◌, ℕ, Bool, true, false, List, Some, slice_get}
use Rattle.jh_form.specs.Tree.{FormulaTree, ValueTree, of_truth}
use Rattle.jh_form.specs.Tree as t
use Rattle.jh_closure.specs.congruence_closure.Nodes.{Has}
use Rattle.jh_arena.specs.table.Nodes.{nodes}
use Rattle.jh_models.specs.ground_models.Atoms.{IsGroundAtom}
use Rattle.jh_propagation.specs.trail.Saying.{AreTruths, truth_at, truths_at}
use Rattle.jh_propagation.specs.trail.Occurring.{AreOccurrences}
use Rattle.jh_propagation.specs.declared.propagation.problem.Problem.{Problem}

abbrev pub is_label : FormulaTree → Bool
is_label (t.mark k a) = true
is_label _ = false

-- no atom of the instances has a label in front
abbrev pub AreUnlabelled : List ValueTree → List ℕ → Type 0
AreUnlabelled ts instances = (a : FormulaTree) → IsGroundAtom (truths_at ts instances) a → is_label a ≡ false

-- The instances are formulas, and their atoms are known and have no label in front.
pub record IsPosed (ts : List ValueTree) (p : Problem) : Type 0 where
  pub truths : AreTruths ts p.instances.items
  pub occurrences : AreOccurrences ts p.instances.items p.ground
  pub unlabelled : (k : ℕ) → Has p.ground.atoms k → is_label (truth_at ts k) ≡ false

-- the name of an atom: the node of another table that is the same formula
pub record IsNamed (us ts : List ValueTree) (names : List ℕ) (k : ℕ) : Type 0 where
  pub name : ℕ
  pub here : slice_get names k ≡ Some name
  pub same : slice_get us name ≡ slice_get ts k

-- atoms with their names in another table, and the nodes of True and False there
pub record AreNames (us ts : List ValueTree) (atoms names : List ℕ) (yes no : ℕ) : Type 0 where
  pub each : (k : ℕ) → Has atoms k → IsNamed us ts names k
  pub yes_there : slice_get us yes ≡ Some (of_truth t.true_formula)
  pub no_there : slice_get us no ≡ Some (of_truth t.false_formula)

-- They are formulas of the problem's own table; and another table, that of the classes, has their atoms, and True and False.
pub record IsProblem (us : List ValueTree) (p : Problem) : Type 0 where
  pub posed : IsPosed (nodes p.table) p
  pub named : (k : ℕ) → Has p.ground.atoms k → IsNamed us (nodes p.table) p.names.items k
  pub yes : slice_get us p.yes ≡ Some (of_truth t.true_formula)
  pub no : slice_get us p.no ≡ Some (of_truth t.false_formula)

abbrev pub instances_in : List ValueTree → Problem → List FormulaTree
instances_in ts p = truths_at ts p.instances.items
