-- Lists of formulas.
use Rattle.std.specs.Prelude.{ℕ, Bool, true, ◌&&◌, List, [], ◌∷◌, slice_get}
use Rattle.jh_form.specs.Tree.{FormulaTree, ValueTree}
use Rattle.jh_form.specs.Tree as t
use Rattle.jh_arena.specs.table.Entries.{is_truth, the_truth}

-- the formulas joined by And to the right; none give the formula that is true
abbrev pub joined : List FormulaTree → FormulaTree
joined [] = t.true_formula
joined (a ∷ []) = a
joined (a ∷ b ∷ rest) = t.and a (joined (b ∷ rest))

-- whether each of these nodes is a formula
abbrev pub are_truths : List ValueTree → List ℕ → Bool
are_truths ts [] = true
are_truths ts (n ∷ ns) = is_truth (slice_get ts n) && are_truths ts ns

-- the formulas at these nodes
abbrev pub truths_at : List ValueTree → List ℕ → List FormulaTree
truths_at ts [] = []
truths_at ts (n ∷ ns) = the_truth (slice_get ts n) ∷ truths_at ts ns
