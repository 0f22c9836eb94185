-- Branches that are open, over nodes, and what a turn of the replay does.
use Rattle.std.specs.Prelude.{◌≡◌, ◌≤◌, ℕ, Bool, true, false, List, [], ◌∷◌, ◌++◌, map, Option, Some, None, Result, Ok, Err, length}
use Rattle.jh_name.specs.declared.memory.NoMemory.{NoMemory}
use Rattle.jh_form.specs.declared.form.FieldTerm.{FieldTerm}
use Rattle.jh_form.specs.Tree.{FieldTree, ValueTree, IntTree, FormulaTree}
use Rattle.jh_form.specs.Bare.{field_tree}
use Rattle.jh_seq.specs.sequent.Sequents.{HypTree, hyp_tree}
use Rattle.jh_seq.specs.declared.sequent.sequent.Hyp.{Hyp}
use Rattle.jh_derivation_rules.specs.Steps.{StepTree, step_tree, bare_step}
use Rattle.jh_derivation_rules.specs.declared.step.DerivStep.{DerivStep}
use Rattle.jh_form.specs.Tree as t
use Rattle.jh_derivation_rules.specs.Steps as s
use Rattle.jh_derivation_rules.specs.Rules.{Rule, rule_of, is_closed_step, IsRefuted, IsFresh, Meets}
use Rattle.jh_boxed_operations.specs.comparison.Exchanged.{Exchanged}
use Rattle.jh_boxed_operations.specs.comparison.Unmarked.{unmarked_field, unmarked_formula}
use Rattle.jh_derivation_rules.specs.Closes.{after, Runs, FailsAt}
use Rattle.jh_derivation_steps.specs.declared.premises.nodes.NodeRule.{NodeRule}
use Rattle.jh_derivation_steps.specs.declared.premises.nodes.NodeStep.{NodeStep}
use Rattle.jh_open_branches.specs.declared.branches.Waiting.{Waiting}
use Rattle.jh_open_branches.specs.Placed.{ArePlaced}
use Rattle.jh_open_branches.specs.Waits.{kept_by}
use Rattle.jh_derivation_steps.specs.premises.Nodes.{formula_at, rule_at, IsFormula, AreFormulas, IsRule, step_at, AreOperands}

-- both sides of the equation are one
abbrev pub IsItself : FormulaTree → Type 0
IsItself (t.eq_object a b) = a ≡ b
IsItself (t.eq_number a b) = a ≡ b
IsItself (t.iff a b) = a ≡ b
IsItself (t.eq_set a b) = a ≡ b
IsItself _ = ⊥

unfoldable pub is_const : IntTree → Bool
is_const (t.const z) = true
is_const _ = false

-- two constants that differ
abbrev pub AreApart : IntTree → IntTree → Type 0
AreApart (t.const y) (t.const z) = y ≡ z → ⊥
AreApart _ _ = ⊥

-- what a rule asks for that hangs on its operands alone
abbrev pub SuitsAlone : StepTree → Type 0
SuitsAlone (s.reflexive a) = IsRefuted a
SuitsAlone (s.replacing a b v w) = Exchanged a b v w
SuitsAlone _ = Unit {0}

-- what it asks for of the facts
abbrev pub SuitsFacts : List FormulaTree → StepTree → Type 0
SuitsFacts fs (s.witness a x) = IsFresh fs x
SuitsFacts fs _ = Unit {0}

-- some fields without labels
abbrev pub bare_list : List FieldTerm → List FieldTree
bare_list fs = map (λ f. unmarked_field (field_tree f)) fs

-- The nodes stand for a step without labels.
abbrev pub Enters : List ValueTree → StepTree → Result NodeStep NoMemory → Type 0
Enters ts step (Ok made) = (step_at ts made ≡ step) × AreOperands ts made
Enters ts step (Err e) = Unit {0}

-- The rule is that of the step, whatever the facts; where there is none, the step meets none from any facts.
abbrev pub Finds : List ValueTree → StepTree → Result (Option NodeRule) NoMemory → Type 0
Finds ts step (Ok (Some made)) = (rule_of step ≡ Some (rule_at ts made)) × (is_closed_step step ≡ true) × SuitsAlone step × IsRule ts (Some made)
Finds ts step (Ok None) = (r : Rule) → rule_of step ≡ Some r → is_closed_step step ≡ true → SuitsAlone step → ⊥
Finds ts step (Err e) = Unit {0}

-- the formulas at a list of nodes
abbrev pub facts_at : List ValueTree → List ℕ → List FormulaTree
facts_at ts [] = []
facts_at ts (k ∷ ks) = formula_at ts k ∷ facts_at ts ks

abbrev pub AllFormulas : List ValueTree → List ℕ → Type 0
AllFormulas ts [] = Unit {0}
AllFormulas ts (k ∷ ks) = IsFormula ts k × AllFormulas ts ks

-- the facts of a branch that waits
abbrev pub waiting_at : List ValueTree → List ℕ → Waiting → List FormulaTree
waiting_at ts ks w = facts_at ts (kept_by ks w)

-- the branches that are open, of which the last of the stack is the first
abbrev pub open_at : List ValueTree → List ℕ → List Waiting → List (List FormulaTree)
open_at ts ks [] = []
open_at ts ks (w ∷ ws) = open_at ts ks ws ++ waiting_at ts ks w ∷ []

-- each branch that waits adds formulas
abbrev pub AreWaiting : List ValueTree → List Waiting → Type 0
AreWaiting ts [] = Unit {0}
AreWaiting ts (w ∷ ws) = AreFormulas ts w.added × AreWaiting ts ws

-- none of them keeps more than n facts
abbrev pub Below : ℕ → List Waiting → Type 0
Below n [] = Unit {0}
Below n (w ∷ ws) = (w.count ≤ n) × Below n ws

-- each keeps at least n facts, and as many as those before it
abbrev pub Rises : ℕ → List Waiting → Type 0
Rises n [] = Unit {0}
Rises n (w ∷ ws) = (n ≤ w.count) × Rises w.count ws

-- What is true of the branches throughout: the facts are formulas, each has its place, and each branch that waits keeps
-- some first ones of them, no more than those above it in the stack.
pub record AreBranches (ts : List ValueTree) (ks : List ℕ) (place : ℕ → Option ℕ) (ws : List Waiting) : Type 0 where
  pub facts : AllFormulas ts ks
  pub placed : ArePlaced ks place
  pub waiting : AreWaiting ts ws
  pub below : Below (length ks) ws
  pub rises : Rises 0 ws

-- a step at the first branch meets its rule, and these branches are open then
abbrev pub Turns : List (List FormulaTree) → StepTree → List (List FormulaTree) → Type 0
Turns [] step new = ⊥
Turns (fs ∷ rest) step new = (r : Rule) × Meets fs step r × (new ≡ after fs r.adds ++ rest)

-- no branch is open, or the step doesn't meet its rule at the first one
abbrev pub IsStuck : List (List FormulaTree) → StepTree → Type 0
IsStuck [] step = Unit {0}
IsStuck (fs ∷ rest) step = (r : Rule) → Meets fs step r → ⊥

-- the steps without labels
abbrev pub bare_steps : List DerivStep → List StepTree
bare_steps ss = map bare_step (map step_tree ss)

-- What the steps come to from these branches: they close them all, or this step is the first that fails.
abbrev pub Comes : List (List FormulaTree) → List StepTree → Result (Option ℕ) NoMemory → Type 0
Comes bs ss (Ok None) = Runs bs ss
Comes bs ss (Ok (Some n)) = FailsAt bs ss n
Comes bs ss (Err e) = Unit {0}

-- the facts of hypotheses, without labels
abbrev pub bare_facts : List Hyp → List FormulaTree
bare_facts hs = map (λ (h : HypTree). unmarked_formula h.fact) (map hyp_tree hs)

-- The facts are those of before, with these formulas at their end.
pub record Gains (ts us : List ValueTree) (old new : List ℕ) (place : ℕ → Option ℕ) (fs : List FormulaTree) : Type 0 where
  pub facts : facts_at us new ≡ facts_at ts old ++ fs
  pub formulas : AllFormulas us new
  pub placed : ArePlaced new place
