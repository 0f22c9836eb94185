-- How deep the operands of steps nest.
use Rattle.std.specs.Prelude.{◌≤◌, ℕ, List, [], ◌∷◌, Option, None, Some}
use Rattle.jh_form.specs.Tree.{FieldTrees, ValueTree, of_object, of_field, of_truth}
use Rattle.jh_form.specs.Tree as t
use Rattle.jh_boxed.specs.Sizes.{value_depth}
use Rattle.jh_deriv.specs.jh_reach.Axioms.{BaseTree}
use Rattle.jh_derivation_rules.specs.Steps.{StepTree}
use Rattle.jh_derivation_rules.specs.Steps as s

abbrev pub listed : FieldTrees → List ValueTree → List ValueTree
listed t.none vs = vs
listed (t.more f fs) vs = of_field f ∷ listed fs vs

abbrev pub based : Option BaseTree → List ValueTree
based None = []
based (Some b) = of_field b.field ∷ of_object b.at ∷ of_object b.value ∷ []

-- the operands of a step that are formulas, terms and fields
abbrev pub operands_of : StepTree → List ValueTree
operands_of s.absurdity = []
operands_of (s.pair a) = of_truth a ∷ []
operands_of (s.reflexive a) = of_truth a ∷ []
operands_of (s.symmetric v w) = v ∷ w ∷ []
operands_of (s.transitive v w x) = v ∷ w ∷ x ∷ []
operands_of (s.reading k f a b) = of_field f ∷ of_object a ∷ of_object b ∷ []
operands_of (s.replacing a b v w) = of_truth a ∷ of_truth b ∷ v ∷ w ∷ []
operands_of (s.conjuncts a) = of_truth a ∷ []
operands_of (s.disjuncts a) = of_truth a ∷ []
operands_of (s.implication a) = of_truth a ∷ []
operands_of (s.equivalence a) = of_truth a ∷ []
operands_of (s.inward a) = of_truth a ∷ []
operands_of (s.instance_at a b) = of_truth a ∷ of_object b ∷ []
operands_of (s.witness a x) = of_truth a ∷ []
operands_of (s.cut a) = of_truth a ∷ []
operands_of (s.updating f) = of_field f ∷ []
operands_of (s.axiom_of n fs b) = listed fs (based b)
operands_of (s.relation a) = of_truth a ∷ []

-- none of these nests deeper than so many levels, where what has no parts nests one
abbrev pub NestWithin : ℕ → List ValueTree → Type 0
NestWithin n [] = Unit {0}
NestWithin n (v ∷ vs) = (value_depth v ≤ n) × NestWithin n vs

-- no operand of any of these steps does
abbrev pub OperandsNestWithin : ℕ → List StepTree → Type 0
OperandsNestWithin n [] = Unit {0}
OperandsNestWithin n (x ∷ xs) = NestWithin n (operands_of x) × OperandsNestWithin n xs
