-- Steps that go over the formulas of a sequent.
use Rattle.std.specs.Prelude.{List, [], ◌∷◌, ◌++◌, map, None}
use Rattle.jh_form.specs.Tree.{FormulaTree}
use Rattle.jh_seq.specs.sequent.Sequents.{HypTree, SequentTree}
use Rattle.jh_normal_forms.specs.rebuilding.Built.{Rule}

-- the hypotheses with f of each fact, under the old names
abbrev pub over_facts : (FormulaTree → FormulaTree) → List HypTree → List HypTree
over_facts f hs = map (λ h. record { name = h.name; fact = f h.fact }) hs

-- the sequent with f of each hypothesis and g of the goal
abbrev pub over_each : (FormulaTree → FormulaTree) → (FormulaTree → FormulaTree) → SequentTree → SequentTree
over_each f g s = record { method = s.method; mark = s.mark; hyps = over_facts f s.hyps; goal = g s.goal }

-- the sequent with more hypotheses, without names, behind the others
abbrev pub with_facts : List FormulaTree → SequentTree → SequentTree
with_facts facts s = record { method = s.method; mark = s.mark; hyps = s.hyps ++ map (λ a. record { name = None; fact = a }) facts; goal = s.goal }

-- all formulas of a sequent, the hypotheses' and then the goal
abbrev pub formulas : SequentTree → List FormulaTree
formulas s = map (λ h. h.fact) s.hyps ++ (s.goal ∷ [])

-- the rule that makes each part what it was
abbrev pub leaving : Rule
leaving = record { object = λ a. a; number = λ a. a; set = λ a. a; field = λ a. a; truth = λ a s. a }
