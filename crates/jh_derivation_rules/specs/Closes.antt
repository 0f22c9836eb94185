-- When a list of steps is a whole derivation that closes, and which step is the first to fail.
use Rattle.std.specs.Prelude.{◌≡◌, ℕ, zero, suc, true, List, [], ◌∷◌, ◌++◌, map}
use Rattle.jh_form.specs.Tree.{FormulaTree}
use Rattle.jh_form.specs.Tree as t
use Rattle.jh_form.specs.Meaning.{Interp, InUniverse, truth}
use Rattle.jh_seq.specs.jh_boxed_operations.comparison.Unmarked.{unmarked_formula}
use Rattle.jh_seq.specs.sequent.Sequents.{HypTree, SequentTree}
use Rattle.jh_derivation_rules.specs.Steps.{StepTree, bare_step}
use Rattle.jh_derivation_rules.specs.Rules.{Rule, Meets}

-- The steps are a tree in which each meets its rule from the facts of its branch, and each branch ends in a step that
-- closes it. The root stands first, and behind it what closes each of its branches, the left one first.
mutual
  pub data Closes : List FormulaTree → List StepTree → Type 0 where
    step : (fs : List FormulaTree) (s : StepTree) (r : Rule) (ss : List StepTree) → Meets fs s r → AllClose fs r.adds ss → Closes fs (s ∷ ss)

  -- the steps close each branch, one behind another
  pub data AllClose : List FormulaTree → List (List FormulaTree) → List StepTree → Type 0 where
    none : (fs : List FormulaTree) → AllClose fs [] []
    more : (fs added : List FormulaTree) (rest : List (List FormulaTree)) (ss later : List StepTree) → Closes (fs ++ added) ss → AllClose fs rest later → AllClose fs (added ∷ rest) (ss ++ later)

-- the branches that a step leads to
abbrev pub after : List FormulaTree → List (List FormulaTree) → List (List FormulaTree)
after fs [] = []
after fs (added ∷ rest) = (fs ++ added) ∷ after fs rest

-- Of these branches, of which the first is worked at, the steps leave none open, and each meets its rule.
abbrev pub Runs : List (List FormulaTree) → List StepTree → Type 0
Runs [] [] = Unit {0}
Runs [] (s ∷ ss) = ⊥
Runs (fs ∷ open_ones) [] = ⊥
Runs (fs ∷ open_ones) (s ∷ ss) = (r : Rule) × Meets fs s r × Runs (after fs r.adds ++ open_ones) ss

-- Step n is the first that doesn't meet its rule, is missing or is too many: in the order of the tree, the root
-- first and left branches first.
abbrev pub FailsAt : List (List FormulaTree) → List StepTree → ℕ → Type 0
FailsAt [] [] n = ⊥
FailsAt [] (s ∷ ss) n = n ≡ 0
FailsAt (fs ∷ open_ones) [] n = n ≡ 0
FailsAt (fs ∷ open_ones) (s ∷ ss) zero = (r : Rule) → Meets fs s r → ⊥
FailsAt (fs ∷ open_ones) (s ∷ ss) (suc n) = (r : Rule) × Meets fs s r × FailsAt (after fs r.adds ++ open_ones) ss n

-- the facts of a sequent: its hypotheses and its negated goal, without labels
abbrev pub facts_of : SequentTree → List FormulaTree
facts_of s = map (λ (h : HypTree). unmarked_formula h.fact) s.hyps ++ (t.negation (unmarked_formula s.goal) ∷ [])

-- The derivation closes the sequent.
abbrev pub ClosesSequent : List StepTree → SequentTree → Type 0
ClosesSequent steps s = Closes (facts_of s) (map bare_step steps)

-- The derivation's step n is the first that fails.
abbrev pub FailsSequent : List StepTree → SequentTree → ℕ → Type 0
FailsSequent steps s n = FailsAt (facts_of s ∷ []) (map bare_step steps) n

-- each of the facts is true
abbrev pub AllHold : Interp → List FormulaTree → Type 0
AllHold m [] = Unit {0}
AllHold m (a ∷ rest) = (truth a m [] ≡ true) × AllHold m rest

-- the facts are never true together
abbrev pub AreUnsatisfiable : List FormulaTree → Type 0
AreUnsatisfiable fs = (m : Interp) → InUniverse m → AllHold m fs → ⊥
