-- Literals over nodes of a table, and the literals over formulas that they stand for.
use Rattle.std.specs.Prelude.{◌≡◌, ℕ, not, true, List, ◌∷◌, map, Option, Some, None, slice_get}
use Rattle.jh_form.specs.Tree.{FormulaTree, ValueTree}
use Rattle.jh_closure.specs.structures.Literals.{LiteralTree}
use Rattle.jh_closure.specs.congruence_closure.Nodes.{Has}
use Rattle.jh_arena.specs.table.Entries.{is_truth, the_truth}
use Rattle.jh_models.specs.ground_models.Atoms.{literal}
use Rattle.jh_propagation.specs.declared.trail.decided.Decided.{Decided}

-- the formula at a node
abbrev pub truth_at : List ValueTree → ℕ → FormulaTree
truth_at ts n = the_truth (slice_get ts n)

abbrev pub truths_at : List ValueTree → List ℕ → List FormulaTree
truths_at ts ns = map (truth_at ts) ns

-- a node that is a formula
abbrev pub IsTruth : List ValueTree → ℕ → Type 0
IsTruth ts n = is_truth (slice_get ts n) ≡ true

abbrev pub AreTruths : List ValueTree → List ℕ → Type 0
AreTruths ts ns = (n : ℕ) → Has ns n → IsTruth ts n

-- the literal over formulas that one over nodes stands for
abbrev pub literal_tree_at : List ValueTree → Decided → LiteralTree
literal_tree_at ts d = literal (truth_at ts d.atom) d.holds

-- each literal of a list over formulas
abbrev pub literals_at : List ValueTree → List Decided → List LiteralTree
literals_at ts ds = map (literal_tree_at ts) ds

-- the literal that says the contrary
abbrev pub opposite_of : Decided → Decided
opposite_of d = record { atom = d.atom; holds = not d.holds }

-- the literals with the opposite of one put to them, where there is one
abbrev pub supposed : Option Decided → List Decided → List Decided
supposed None ds = ds
supposed (Some d) ds = opposite_of d ∷ ds
