-- What steps and rules over nodes stand for.
use Rattle.std.specs.Prelude.{◌≡◌, ℕ, List, [], ◌∷◌, Option, Some, None, Result, Ok, Err, slice_get}
use Rattle.jh_name.specs.declared.naming.Name.{Name}
use Rattle.jh_name.specs.declared.memory.NoMemory.{NoMemory}
use Rattle.jh_form.specs.Tree.{TermTree, IntTree, FieldTree, FieldTrees, SetTree, ValueTree, FormulaTree, of_object, of_number, of_truth, of_set, of_field}
use Rattle.jh_form.specs.Tree as t
pub use Rattle.jh_derivation_steps.specs.closedness.Standing.{formula_at, term_at, field_at, number_at, set_at, value_at, IsFormula, IsTerm, IsField, IsNumber, IsSet, IsValue}
use Rattle.jh_reach.specs.Axioms.{BaseTree}
use Rattle.jh_derivation_rules.specs.Cited.{update_of}
use Rattle.jh_derivation_rules.specs.Steps.{StepTree}
use Rattle.jh_derivation_rules.specs.Steps as s
use Rattle.jh_derivation_rules.specs.Rules.{Rule}
use Rattle.jh_derivation_steps.specs.declared.premises.nodes.Nodes.{Nodes}
use Rattle.jh_derivation_steps.specs.declared.premises.nodes.Nodes.TheVariants as n
use Rattle.jh_derivation_steps.specs.declared.premises.nodes.Adds.{Adds}
use Rattle.jh_derivation_steps.specs.declared.premises.nodes.Adds.TheVariants as a
use Rattle.jh_derivation_steps.specs.declared.premises.nodes.NodeRule.{NodeRule}
use Rattle.jh_derivation_steps.specs.declared.premises.nodes.NodeStep.{NodeStep}
use Rattle.jh_derivation_steps.specs.declared.premises.nodes.NodeStep.TheVariants as d

-- the formulas at nodes
unfoldable pub formulas_at : List ValueTree → Nodes → List FormulaTree
formulas_at ts n.Nothing = []
formulas_at ts (n.One x) = formula_at ts x ∷ []
formulas_at ts (n.Two x y) = formula_at ts x ∷ formula_at ts y ∷ []

unfoldable pub branches_at : List ValueTree → Adds → List (List FormulaTree)
branches_at ts a.Closes = []
branches_at ts (a.Goes x) = formulas_at ts x ∷ []
branches_at ts (a.Splits x y) = formulas_at ts x ∷ formulas_at ts y ∷ []

unfoldable pub rule_at : List ValueTree → NodeRule → Rule
rule_at ts r = record { needs = formulas_at ts r.needs; adds = branches_at ts r.adds }

unfoldable pub option_rule : List ValueTree → Option NodeRule → Option Rule
option_rule ts (Some r) = Some (rule_at ts r)
option_rule ts None = None

unfoldable pub option_formula : List ValueTree → Option ℕ → Option FormulaTree
option_formula ts (Some k) = Some (formula_at ts k)
option_formula ts None = None

-- each of the nodes is a formula
unfoldable pub AreFormulas : List ValueTree → Nodes → Type 0
AreFormulas ts n.Nothing = Unit {0}
AreFormulas ts (n.One x) = IsFormula ts x
AreFormulas ts (n.Two x y) = IsFormula ts x × IsFormula ts y

unfoldable pub AreBranches : List ValueTree → Adds → Type 0
AreBranches ts a.Closes = Unit {0}
AreBranches ts (a.Goes x) = AreFormulas ts x
AreBranches ts (a.Splits x y) = AreFormulas ts x × AreFormulas ts y

unfoldable pub IsRule : List ValueTree → Option NodeRule → Type 0
IsRule ts (Some r) = AreFormulas ts r.needs × AreBranches ts r.adds
IsRule ts None = Unit {0}

unfoldable pub IsMade : List ValueTree → Option ℕ → Type 0
IsMade ts (Some k) = IsFormula ts k
IsMade ts None = Unit {0}

-- The node is what is wanted, where something is, and there is none where nothing is; want of memory aside.
abbrev pub Makes : List ValueTree → Option FormulaTree → Result (Option ℕ) NoMemory → Type 0
Makes ts wanted (Ok made) = (option_formula ts made ≡ wanted) × IsMade ts made
Makes ts wanted (Err e) = Unit {0}

-- The rule is what is wanted, in the same way.
abbrev pub Gives : List ValueTree → Option Rule → Result (Option NodeRule) NoMemory → Type 0
Gives ts wanted (Ok made) = (option_rule ts made ≡ wanted) × IsRule ts made
Gives ts wanted (Err e) = Unit {0}

-- the name of a term that is a free name
unfoldable pub name_of : TermTree → Name
name_of (t.free_object x) = x
name_of _ = record { text = []; turn = 0 }

abbrev pub IsName : List ValueTree → ℕ → Type 0
IsName ts k = slice_get ts k ≡ Some (of_object (t.free_object (name_of (term_at ts k))))

-- the fields of a formula that says that they are a forest
unfoldable pub forest_fields : FormulaTree → FieldTrees
forest_fields (t.tree fs) = fs
forest_fields _ = t.none

-- the node says that some fields are a forest
abbrev pub IsForest : List ValueTree → ℕ → Type 0
IsForest ts k = slice_get ts k ≡ Some (of_truth (t.tree (forest_fields (formula_at ts k))))

-- the parts of an update by an object
unfoldable pub changed_field : FieldTree → FieldTree
changed_field (t.update f a v) = f
changed_field (t.free_field x) = t.free_field x

unfoldable pub changed_at : FieldTree → TermTree
changed_at (t.update f a v) = a
changed_at (t.free_field x) = t.null

unfoldable pub changed_value : FieldTree → TermTree
changed_value (t.update f a (of_object v)) = v
changed_value _ = t.null

-- the base of which the update at a node tells, for the member at a place
abbrev pub base_at : List ValueTree → ℕ → ℕ → BaseTree
base_at ts place k = record { place = place; field = changed_field (field_at ts k); at = changed_at (field_at ts k); value = changed_value (field_at ts k) }

-- an update by an object stands at the node
abbrev pub IsUpdate : List ValueTree → ℕ → Type 0
IsUpdate ts k = slice_get ts k ≡ Some (of_field (update_of (base_at ts 0 k)))

-- the step that nodes stand for
unfoldable pub step_at : List ValueTree → NodeStep → StepTree
step_at ts d.Absurd = s.absurdity
step_at ts (d.Pair x) = s.pair (formula_at ts x)
step_at ts (d.Reflexive x) = s.reflexive (formula_at ts x)
step_at ts (d.Symmetric x y) = s.symmetric (value_at ts x) (value_at ts y)
step_at ts (d.Transitive x y z) = s.transitive (value_at ts x) (value_at ts y) (value_at ts z)
step_at ts (d.Reading k f x y) = s.reading k (field_at ts f) (term_at ts x) (term_at ts y)
step_at ts (d.Replacing x y v w) = s.replacing (formula_at ts x) (formula_at ts y) (value_at ts v) (value_at ts w)
step_at ts (d.Conjuncts x) = s.conjuncts (formula_at ts x)
step_at ts (d.Disjuncts x) = s.disjuncts (formula_at ts x)
step_at ts (d.Implication x) = s.implication (formula_at ts x)
step_at ts (d.Equivalence x) = s.equivalence (formula_at ts x)
step_at ts (d.Inward x) = s.inward (formula_at ts x)
step_at ts (d.Instance x y) = s.instance_at (formula_at ts x) (term_at ts y)
step_at ts (d.Witness x y) = s.witness (formula_at ts x) (name_of (term_at ts y))
step_at ts (d.Cut x) = s.cut (formula_at ts x)
step_at ts (d.Updating f) = s.updating (field_at ts f)
step_at ts (d.Axiom n x) = s.axiom_of n (forest_fields (formula_at ts x)) None
step_at ts (d.BasedAxiom n x place u) = s.axiom_of n (forest_fields (formula_at ts x)) (Some (base_at ts place u))
step_at ts (d.Relation x) = s.relation (formula_at ts x)

-- its nodes are of their sorts
unfoldable pub AreOperands : List ValueTree → NodeStep → Type 0
AreOperands ts d.Absurd = Unit {0}
AreOperands ts (d.Pair x) = IsFormula ts x
AreOperands ts (d.Reflexive x) = IsFormula ts x
AreOperands ts (d.Symmetric x y) = IsValue ts x × IsValue ts y
AreOperands ts (d.Transitive x y z) = IsValue ts x × IsValue ts y × IsValue ts z
AreOperands ts (d.Reading k f x y) = IsField ts f × IsTerm ts x × IsTerm ts y
AreOperands ts (d.Replacing x y v w) = IsFormula ts x × IsFormula ts y × IsValue ts v × IsValue ts w
AreOperands ts (d.Conjuncts x) = IsFormula ts x
AreOperands ts (d.Disjuncts x) = IsFormula ts x
AreOperands ts (d.Implication x) = IsFormula ts x
AreOperands ts (d.Equivalence x) = IsFormula ts x
AreOperands ts (d.Inward x) = IsFormula ts x
AreOperands ts (d.Instance x y) = IsFormula ts x × IsTerm ts y
AreOperands ts (d.Witness x y) = IsFormula ts x × IsName ts y
AreOperands ts (d.Cut x) = IsFormula ts x
AreOperands ts (d.Updating f) = IsField ts f
AreOperands ts (d.Axiom n x) = IsForest ts x
AreOperands ts (d.BasedAxiom n x place u) = IsForest ts x × IsUpdate ts u
AreOperands ts (d.Relation x) = IsFormula ts x
