-- Sequents whose labels are taken off.
use Rattle.std.specs.Prelude.{◌≡◌, ℕ, true, List, Option, Some, slice_get}
use Rattle.jh_form.specs.Tree.{FormulaTree, ValueTree, of_truth}
use Rattle.jh_boxed_operations.specs.comparison.Unmarked.{unmarked_formula}
use Rattle.jh_arena.specs.table.Entries.{Listing, is_truth}
use Rattle.jh_arena.specs.table.Nodes.{nodes}
use Rattle.jh_seq.specs.sequent.Sequents.{HypTree, SequentTree}
use Rattle.jh_splitting.specs.declared.sequent.NodeHyp.{NodeHyp}
use Rattle.jh_splitting.specs.Pairs.{ArePaired}

-- the node is this formula without labels
abbrev pub IsBare : List ValueTree → FormulaTree → ℕ → Type 0
IsBare ts a n = slice_get ts n ≡ Some (of_truth (unmarked_formula a))

-- the second node is the formula at the first one without labels
pub record IsUnlabelled (ts : List ValueTree) (k n : ℕ) : Type 0 where
  pub formula : FormulaTree
  pub there : slice_get ts k ≡ Some (of_truth formula)
  pub is : IsBare ts formula n

-- Each answer of the memo is right.
pub record HoldsUnlabelled (ts : List ValueTree) (find : ℕ → Option ℕ) : Type 0 where
  pub at : (k n : ℕ) → find k ≡ Some n → IsUnlabelled ts k n

-- the fact of each hypothesis is a formula
abbrev pub AreFacts : Listing → List NodeHyp → Type 0
AreFacts t xs = (i : ℕ) (x : NodeHyp) → slice_get xs i ≡ Some x → is_truth (slice_get (nodes t) x.fact) ≡ true

-- the nodes are the facts of hypotheses without labels, one for each
abbrev pub AreUnlabelled : List ValueTree → List NodeHyp → List ℕ → Type 0
AreUnlabelled ts xs ns = ArePaired (λ (x : NodeHyp) n. IsUnlabelled ts x.fact n) xs ns

abbrev pub AreBare : List ValueTree → List HypTree → List ℕ → Type 0
AreBare ts hs ns = ArePaired (λ (h : HypTree) n. IsBare ts h.fact n) hs ns

-- the nodes are the facts and the goal of a sequent without labels
pub record IsBareSequent (ts : List ValueTree) (facts : List ℕ) (goal : ℕ) (s : SequentTree) : Type 0 where
  pub hyps : AreBare ts s.hyps facts
  pub goal_is : IsBare ts s.goal goal
