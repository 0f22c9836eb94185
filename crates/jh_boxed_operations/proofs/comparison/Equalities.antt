-- What the tests of equality and of exchanges decide.
use Rattle.std.proofs.Common.{◌≡◌, sym, ap, ◌∙◌, Bool, true, false, ◌&&◌}
use Rattle.std.proofs.lemmas.Bool.{true≢false}
use Rattle.jh_form.specs.Tree.{ValueTree, FormulaTree}
use Rattle.jh_form.proofs.ClosedLemmas.{both-left, both-right}
use Rattle.jh_boxed_operations.specs.comparison.Compared.{related_formula}
use Rattle.jh_boxed_operations.specs.comparison.Exchanged.{nothing, equal_trees, Exchanged}
use Rattle.jh_boxed_operations.specs.comparison.Unmarked.{unmarked_formula}
use Rattle.jh_boxed_operations.proofs.comparison.PastSteps.{formula-past}
use Rattle.jh_boxed_operations.proofs.comparison.Decisions.{never, both, value-related, value-passes, value-equal, value-itself, formula-related, formula-passes, formula-equal, formula-itself}

no_pair : (u v : ValueTree) → nothing u v ≡ true → never u v
no_pair u v h = true≢false (sym h)

none_passes : (u v : ValueTree) → never u v → nothing u v ≡ true
none_passes u v h = absurd h

pub equal_trees-true : (u v : ValueTree) → equal_trees u v ≡ true → u ≡ v
equal_trees-true u v h = value-equal u v (value-related nothing never no_pair u v h)

pub equal_trees-same : (u v : ValueTree) → u ≡ v → equal_trees u v ≡ true
equal_trees-same u v e = ap (λ w. equal_trees u w) (sym e) ∙ value-passes nothing never none_passes u u (value-itself never u)

module _ (old new : ValueTree) where
  abbrev pub pairs : ValueTree → ValueTree → Bool
  pairs u v = equal_trees u old && equal_trees v new

  abbrev pub Pairs : ValueTree → ValueTree → Type 0
  Pairs u v = (u ≡ old) × (v ≡ new)

  pairs-true : (u v : ValueTree) → pairs u v ≡ true → Pairs u v
  pairs-true u v h = (equal_trees-true u old (both-left (equal_trees u old) (equal_trees v new) h), equal_trees-true v new (both-right (equal_trees u old) (equal_trees v new) h))

  pairs-same : (u v : ValueTree) → Pairs u v → pairs u v ≡ true
  pairs-same u v p = both (equal_trees u old) (equal_trees v new) (equal_trees-same u old p.0) (equal_trees-same v new p.1)

  pub exchanged-true : (a b : FormulaTree) → related_formula a true pairs b ≡ true → Exchanged a b old new
  exchanged-true a b h = formula-related pairs Pairs pairs-true a b h

  pub exchanged-passes : (a b : FormulaTree) → Exchanged a b old new → related_formula a true pairs b ≡ true
  exchanged-passes a b x = formula-passes pairs Pairs pairs-same a b x

pub same-true : (a b : FormulaTree) → related_formula a false nothing b ≡ true → unmarked_formula a ≡ unmarked_formula b
same-true a b h =
    formula-equal (unmarked_formula a) (unmarked_formula b) (formula-related nothing never no_pair (unmarked_formula a) (unmarked_formula b) (sym (formula-past a b) ∙ h))

pub same-passes : (a b : FormulaTree) → unmarked_formula a ≡ unmarked_formula b → related_formula a false nothing b ≡ true
same-passes a b e =
    formula-past a b
    ∙ ap (λ c. related_formula (unmarked_formula a) true nothing c) (sym e)
    ∙ formula-passes nothing never none_passes (unmarked_formula a) (unmarked_formula a) (formula-itself never (unmarked_formula a))
