-- Instances that are true in a structure.
use Rattle.std.specs.Prelude.{◌⊎◌, List, [], ◌∷◌}
use Rattle.jh_form.specs.Tree.{FormulaTree}
use Rattle.jh_form.specs.Tree as t
use Rattle.jh_closure.specs.structures.Structures.{Structure}
use Rattle.jh_closure.specs.structures.Literals.{Says, Denies}

-- a formula that is negated is false in the structure
abbrev pub Unmakes : {O N T S F : Type 0} → Structure O N T S F → FormulaTree → Type 0
Unmakes s t.true_formula = ⊥
Unmakes s t.false_formula = Unit {0}
Unmakes s a = Denies s a

-- The structure makes the instance true: And and Or are as ever here, whatever operations the structure has for them.
abbrev pub Makes : {O N T S F : Type 0} → Structure O N T S F → FormulaTree → Type 0
Makes s t.true_formula = Unit {0}
Makes s t.false_formula = ⊥
Makes s (t.and a b) = Makes s a × Makes s b
Makes s (t.or a b) = Makes s a ⊎ Makes s b
Makes s (t.negation a) = Unmakes s a
Makes s a = Says s a

abbrev pub MakesAll : {O N T S F : Type 0} → Structure O N T S F → List FormulaTree → Type 0
MakesAll s [] = Unit {0}
MakesAll s (i ∷ is) = Makes s i × MakesAll s is
