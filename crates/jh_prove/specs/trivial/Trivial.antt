-- Sequents that are valid at sight. Labels play no part in it.
use Rattle.std.specs.Prelude.{◌≡◌, ◌⊎◌, List, [], ◌∷◌, map}
use Rattle.jh_form.specs.Tree.{FormulaTree}
use Rattle.jh_form.specs.Tree as t
use Rattle.jh_boxed_operations.specs.comparison.Unmarked.{unmarked_formula}
use Rattle.jh_seq.specs.sequent.Sequents.{SequentTree}

-- A goal is evident, whatever is known: it is True, or an equation of two equal sides. It has no labels. (An equation of truths is an
-- equivalence; splitting leaves none as a goal.)
abbrev pub IsEvident : FormulaTree → Type 0
IsEvident t.true_formula = Unit {0}
IsEvident (t.eq_object a b) = a ≡ b
IsEvident (t.eq_number a b) = a ≡ b
IsEvident (t.eq_set a b) = a ≡ b
IsEvident _ = ⊥

-- A fact gives a goal at sight: it is the goal, or False. Neither has labels.
abbrev pub Gives : FormulaTree → FormulaTree → Type 0
Gives goal fact = (fact ≡ goal) ⊎ (fact ≡ t.false_formula)

abbrev pub SomeGives : FormulaTree → List FormulaTree → Type 0
SomeGives goal [] = ⊥
SomeGives goal (fact ∷ more) = Gives goal fact ⊎ SomeGives goal more

abbrev pub IsTrivialOver : List FormulaTree → FormulaTree → Type 0
IsTrivialOver facts goal = IsEvident goal ⊎ SomeGives goal facts

-- A sequent is trivial: its goal is evident, is one of its hypotheses, or a hypothesis is False.
abbrev pub IsTrivial : SequentTree → Type 0
IsTrivial s = IsTrivialOver (map (λ h. unmarked_formula h.fact) s.hyps) (unmarked_formula s.goal)
