-- Formulas of a sequent, boxed and at nodes of a table.
use Rattle.std.specs.Prelude.{ℕ, List, map, slice_get}
use Rattle.jh_form.specs.Tree.{FormulaTree, ValueTree}
use Rattle.jh_form.specs.Bare.{formula_tree}
use Rattle.jh_arena.specs.table.Entries.{the_truth}
use Rattle.jh_seq.specs.declared.sequent.sequent.Hyp.{Hyp}

-- the formulas at these nodes
abbrev pub formula_at : List ValueTree → ℕ → FormulaTree
formula_at ts n = the_truth (slice_get ts n)

abbrev pub formulas_at : List ValueTree → List ℕ → List FormulaTree
formulas_at ts ns = map (formula_at ts) ns

-- the facts of these hypotheses
abbrev pub hyp_fact : Hyp → FormulaTree
hyp_fact h = formula_tree h.fact

abbrev pub hyp_facts : List Hyp → List FormulaTree
hyp_facts hs = map hyp_fact hs
