-- Steps of derivations without memory.
use Rattle.std.specs.Prelude.{ℕ, List, map, Option, None, Some}
use Rattle.jh_name.specs.declared.naming.Name.{Name}
use Rattle.jh_name.specs.declared.place.Kind.{Kind}
use Rattle.jh_form.specs.Tree.{TermTree, FieldTree, FieldTrees, ValueTree, FormulaTree}
use Rattle.jh_form.specs.Bare.{term_tree, field_tree, value_tree, formula_tree, list_tree}
use Rattle.jh_seq.specs.jh_boxed_operations.comparison.Unmarked.{unmarked_term, unmarked_field, unmarked_fields, unmarked_value, unmarked_formula}
use Rattle.jh_reach.specs.Axioms.{BaseTree}
use Rattle.jh_derivation_rules.specs.declared.step.Base.{Base}
use Rattle.jh_derivation_rules.specs.declared.step.DerivStep.{DerivStep}
use Rattle.jh_derivation_rules.specs.declared.step.DerivStep.TheVariants as d
use Rattle.jh_derivation_rules.specs.declared.step.Derivation.{Derivation}

pub data StepTree : Type 0 where
  absurdity : StepTree
  pair : FormulaTree → StepTree
  reflexive : FormulaTree → StepTree
  symmetric : ValueTree → ValueTree → StepTree
  transitive : ValueTree → ValueTree → ValueTree → StepTree
  reading : Kind → FieldTree → TermTree → TermTree → StepTree
  replacing : FormulaTree → FormulaTree → ValueTree → ValueTree → StepTree
  conjuncts : FormulaTree → StepTree
  disjuncts : FormulaTree → StepTree
  implication : FormulaTree → StepTree
  equivalence : FormulaTree → StepTree
  inward : FormulaTree → StepTree
  instance_at : FormulaTree → TermTree → StepTree
  witness : FormulaTree → Name → StepTree
  cut : FormulaTree → StepTree
  updating : FieldTree → StepTree
  axiom_of : ℕ → FieldTrees → Option BaseTree → StepTree
  relation : FormulaTree → StepTree

-- the trees of the operands
unfoldable pub base_tree : Base → BaseTree
base_tree b = record { place = b.place; field = field_tree b.field; at = term_tree b.at; value = term_tree b.value }

unfoldable pub option_base : Option Base → Option BaseTree
option_base None = None
option_base (Some b) = Some (base_tree b)

unfoldable pub step_tree : DerivStep → StepTree
step_tree d.Absurd = absurdity
step_tree (d.Pair a) = pair (formula_tree a)
step_tree (d.Reflexive a) = reflexive (formula_tree a)
step_tree (d.Symmetric v w) = symmetric (value_tree v) (value_tree w)
step_tree (d.Transitive v w x) = transitive (value_tree v) (value_tree w) (value_tree x)
step_tree (d.Read k f a b) = reading k (field_tree f) (term_tree a) (term_tree b)
step_tree (d.Replace a b v w) = replacing (formula_tree a) (formula_tree b) (value_tree v) (value_tree w)
step_tree (d.And a) = conjuncts (formula_tree a)
step_tree (d.Or a) = disjuncts (formula_tree a)
step_tree (d.Implies a) = implication (formula_tree a)
step_tree (d.Iff a) = equivalence (formula_tree a)
step_tree (d.Not a) = inward (formula_tree a)
step_tree (d.All a b) = instance_at (formula_tree a) (term_tree b)
step_tree (d.Exists a x) = witness (formula_tree a) x
step_tree (d.Cut a) = cut (formula_tree a)
step_tree (d.Update f) = updating (field_tree f)
step_tree (d.Axiom n fs b) = axiom_of n (list_tree fs) (option_base b)
step_tree (d.Open a) = relation (formula_tree a)

abbrev pub steps_of : Derivation → List StepTree
steps_of made = map step_tree made.steps

-- A step with the labels taken off its operands: no rule looks at labels.
unfoldable pub bare_base : Option BaseTree → Option BaseTree
bare_base None = None
bare_base (Some b) = Some (record { place = b.place; field = unmarked_field b.field; at = unmarked_term b.at; value = unmarked_term b.value })

unfoldable pub bare_step : StepTree → StepTree
bare_step absurdity = absurdity
bare_step (pair a) = pair (unmarked_formula a)
bare_step (reflexive a) = reflexive (unmarked_formula a)
bare_step (symmetric v w) = symmetric (unmarked_value v) (unmarked_value w)
bare_step (transitive v w x) = transitive (unmarked_value v) (unmarked_value w) (unmarked_value x)
bare_step (reading k f a b) = reading k (unmarked_field f) (unmarked_term a) (unmarked_term b)
bare_step (replacing a b v w) = replacing (unmarked_formula a) (unmarked_formula b) (unmarked_value v) (unmarked_value w)
bare_step (conjuncts a) = conjuncts (unmarked_formula a)
bare_step (disjuncts a) = disjuncts (unmarked_formula a)
bare_step (implication a) = implication (unmarked_formula a)
bare_step (equivalence a) = equivalence (unmarked_formula a)
bare_step (inward a) = inward (unmarked_formula a)
bare_step (instance_at a b) = instance_at (unmarked_formula a) (unmarked_term b)
bare_step (witness a x) = witness (unmarked_formula a) x
bare_step (cut a) = cut (unmarked_formula a)
bare_step (updating f) = updating (unmarked_field f)
bare_step (axiom_of n fs b) = axiom_of n (unmarked_fields fs) (bare_base b)
bare_step (relation a) = relation (unmarked_formula a)
