-- What literals say of an instance by its connectives alone: each atom that they don't decide is unknown.
use Rattle.std.specs.Prelude.{◌⊎◌, true, false, List, [], ◌∷◌}
use Rattle.jh_form.specs.Tree.{FormulaTree}
use Rattle.jh_form.specs.Tree as t
use Rattle.jh_closure.specs.structures.Literals.{LiteralTree, IsListed}
use Rattle.jh_models.specs.ground_models.Atoms.{literal}

-- a formula that is negated: it is false where what is negated is said to hold
abbrev pub IsTrueBy : List LiteralTree → FormulaTree → Type 0
IsTrueBy ls t.true_formula = Unit {0}
IsTrueBy ls t.false_formula = ⊥
IsTrueBy ls a = IsListed ls (literal a true)

-- The literals make the instance false: both parts of an Or, or one part of an And.
abbrev pub IsFalse : List LiteralTree → FormulaTree → Type 0
IsFalse ls t.true_formula = ⊥
IsFalse ls t.false_formula = Unit {0}
IsFalse ls (t.and a b) = IsFalse ls a ⊎ IsFalse ls b
IsFalse ls (t.or a b) = IsFalse ls a × IsFalse ls b
IsFalse ls (t.negation a) = IsTrueBy ls a
IsFalse ls a = IsListed ls (literal a false)

-- a formula that is negated: it is true where what is negated is said not to hold
abbrev pub IsDenied : List LiteralTree → FormulaTree → Type 0
IsDenied ls t.true_formula = ⊥
IsDenied ls t.false_formula = Unit {0}
IsDenied ls a = IsListed ls (literal a false)

-- The literals make the instance true: both parts of an And, or one part of an Or.
abbrev pub IsTrue : List LiteralTree → FormulaTree → Type 0
IsTrue ls t.true_formula = Unit {0}
IsTrue ls t.false_formula = ⊥
IsTrue ls (t.and a b) = IsTrue ls a × IsTrue ls b
IsTrue ls (t.or a b) = IsTrue ls a ⊎ IsTrue ls b
IsTrue ls (t.negation a) = IsDenied ls a
IsTrue ls a = IsListed ls (literal a true)

-- they make one of the instances false, or each of them true
abbrev pub SomeFalse : List FormulaTree → List LiteralTree → Type 0
SomeFalse [] ls = ⊥
SomeFalse (i ∷ is) ls = IsFalse ls i ⊎ SomeFalse is ls

abbrev pub AllTrue : List FormulaTree → List LiteralTree → Type 0
AllTrue [] ls = Unit {0}
AllTrue (i ∷ is) ls = IsTrue ls i × AllTrue is ls
