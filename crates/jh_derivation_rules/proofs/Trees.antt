-- Trees of steps and the order in which their branches are worked at.
use Rattle.std.proofs.Common.{◌≡◌, refl, sym, ap, subst, ◌∙◌, ℕ, zero, suc, List, [], ◌∷◌, ◌++◌, append_assoc, Option, Some, None, inl, inr}
use Rattle.std.specs.Prelude.{map}
use Rattle.jh_form.specs.Tree.{FormulaTree}
use Rattle.jh_form.specs.Tree as t
use Rattle.jh_form.specs.Meaning.{Interp, truth}
use Rattle.jh_seq.specs.jh_boxed_operations.comparison.Unmarked.{unmarked_formula}
use Rattle.jh_seq.specs.sequent.Sequents.{HypTree, SequentTree, AllTrue, IsValid}
use Rattle.jh_reach.specs.Truths.{AxiomsAreTrue}
use Rattle.jh_derivation_rules.specs.Steps.{StepTree, bare_step}
use Rattle.jh_derivation_rules.specs.Rules.{Rule, Meets}
use Rattle.jh_derivation_rules.specs.Closes.{Closes, AllClose, step, none, more, after, Runs, FailsAt, AllHold, AreUnsatisfiable, ClosesSequent, facts_of}
use Rattle.jh_derivation_rules.proofs.Truths.{true-or-false, not-false}
use Rattle.jh_derivation_rules.proofs.Unmarkings.{truth-unmarked}
use Rattle.jh_derivation_rules.proofs.Soundness.{BranchesClash, step-clash, hold-append}

mutual
  pub closes-clash : AxiomsAreTrue → (fs : List FormulaTree) (ss : List StepTree) → Closes fs ss → AreUnsatisfiable fs
  closes-clash truths _ _ (step fs s r ss meets rest) = step-clash truths fs s r meets (all-clash truths fs r.adds ss rest)

  all-clash : AxiomsAreTrue → (fs : List FormulaTree) (adds : List (List FormulaTree)) (ss : List StepTree) → AllClose fs adds ss → BranchesClash fs adds
  all-clash truths _ _ _ (none fs) = tt
  all-clash truths _ _ _ (more fs added rest ss later here behind) = (closes-clash truths (fs ++ added) ss here, all-clash truths fs rest later behind)

hyps-hold : (m : Interp) (hs : List HypTree) → AllTrue hs m → AllHold m (map (λ (h : HypTree). unmarked_formula h.fact) hs)
hyps-hold m [] h = tt
hyps-hold m (x ∷ hs) h = (truth-unmarked x.fact m [] ∙ h.0, hyps-hold m hs h.1)

pub closes-valid : AxiomsAreTrue → (steps : List StepTree) (s : SequentTree) → ClosesSequent steps s → IsValid s
closes-valid truths steps s closes m inside all =
    elim (true-or-false (truth s.goal m [])) [
      | inl holds ↦ holds
      | inr fails ↦ absurd (closes-clash truths (facts_of s) (map bare_step steps) closes m inside
          (hold-append m (map (λ (h : HypTree). unmarked_formula h.fact) s.hyps) (t.negation (unmarked_formula s.goal) ∷ []) (hyps-hold m s.hyps all)
          (not-false (truth (unmarked_formula s.goal) m []) (truth-unmarked s.goal m [] ∙ fails), tt)))
    ]

-- the steps close each list of facts, one behind another
abbrev CloseEach : List (List FormulaTree) → List StepTree → Type 0
CloseEach [] ss = ss ≡ []
CloseEach (fs ∷ rest) ss = (xs ys : List StepTree) × (ss ≡ xs ++ ys) × Closes fs xs × CloseEach rest ys

each-split : (bs cs : List (List FormulaTree)) (ss : List StepTree) → CloseEach (bs ++ cs) ss → (xs ys : List StepTree) × (ss ≡ xs ++ ys) × CloseEach bs xs × CloseEach cs ys
each-split [] cs ss h = ([], ss, refl, refl, h)
each-split (fs ∷ bs) cs ss h =
    let later = each-split bs cs h.1 h.4 in
    (h.0 ++ later.0, later.1, h.2 ∙ ap (λ zs. h.0 ++ zs) later.2 ∙ sym (append_assoc h.0 later.0 later.1), (h.0, later.0, refl, h.3, later.3), later.4)

each-all : (fs : List FormulaTree) (adds : List (List FormulaTree)) (ss : List StepTree) → CloseEach (after fs adds) ss → AllClose fs adds ss
each-all fs [] ss h = subst (λ zs. AllClose fs [] zs) (sym h) (none fs)
each-all fs (added ∷ rest) ss h = subst (λ zs. AllClose fs (added ∷ rest) zs) (sym h.2) (more fs added rest h.0 h.1 h.3 (each-all fs rest h.1 h.4))

runs-each : (bs : List (List FormulaTree)) (ss : List StepTree) → Runs bs ss → CloseEach bs ss
runs-each [] [] h = refl
runs-each [] (s ∷ ss) h = absurd h
runs-each (fs ∷ bs) [] h = absurd h
runs-each (fs ∷ bs) (s ∷ ss) h =
    let parts = each-split (after fs h.0.adds) bs ss (runs-each (after fs h.0.adds ++ bs) ss h.2) in
    (s ∷ parts.0, parts.1, ap (λ zs. s ∷ zs) parts.2, step fs s h.0 parts.0 h.1 (each-all fs h.0.adds parts.0 parts.3), parts.4)

mutual
  closes-runs : (fs : List FormulaTree) (ss : List StepTree) → Closes fs ss → (bs : List (List FormulaTree)) (ts : List StepTree) → Runs bs ts → Runs (fs ∷ bs) (ss ++ ts)
  closes-runs _ _ (step fs s r ss meets rest) bs ts h = (r, meets, all-runs fs r.adds ss rest bs ts h)

  all-runs : (fs : List FormulaTree) (adds : List (List FormulaTree)) (ss : List StepTree) → AllClose fs adds ss → (bs : List (List FormulaTree)) (ts : List StepTree) → Runs bs ts → Runs (after fs adds ++ bs) (ss ++ ts)
  all-runs _ _ _ (none fs) bs ts h = h
  all-runs _ _ _ (more fs added rest ss later here behind) bs ts h =
      subst (λ zs. Runs ((fs ++ added) ∷ (after fs rest ++ bs)) zs) (sym (append_assoc ss later ts))
      (closes-runs (fs ++ added) ss here (after fs rest ++ bs) (later ++ ts) (all-runs fs rest later behind bs ts h))

no-more : {X : Type 0} (xs : List X) → xs ++ [] ≡ xs
no-more [] = refl
no-more (x ∷ xs) = ap (λ zs. x ∷ zs) (no-more xs)

pub runs-closes : (fs : List FormulaTree) (ss : List StepTree) → Runs (fs ∷ []) ss → Closes fs ss
runs-closes fs ss h =
    let parts = runs-each (fs ∷ []) ss h in
    subst (λ zs. Closes fs zs) (sym (parts.2 ∙ ap (λ zs. parts.0 ++ zs) parts.4 ∙ no-more parts.0)) parts.3

pub closes-run : (fs : List FormulaTree) (ss : List StepTree) → Closes fs ss → Runs (fs ∷ []) ss
closes-run fs ss h = subst (λ zs. Runs (fs ∷ []) zs) (no-more ss) (closes-runs fs ss h [] [] tt)

-- a step meets one rule
abbrev the_rule : Rule → Option Rule → Rule
the_rule r (Some q) = q
the_rule r None = r

one-rule : (fs : List FormulaTree) (s : StepTree) (r q : Rule) → Meets fs s r → Meets fs s q → r ≡ q
one-rule fs s r q h k = ap (the_rule r) (sym h.form ∙ k.form)

pub fails-runs : (bs : List (List FormulaTree)) (ss : List StepTree) (n : ℕ) → FailsAt bs ss n → Runs bs ss → ⊥
fails-runs [] [] n h k = h
fails-runs [] (s ∷ ss) n h k = k
fails-runs (fs ∷ bs) [] n h k = k
fails-runs (fs ∷ bs) (s ∷ ss) zero h k = h k.0 k.1
fails-runs (fs ∷ bs) (s ∷ ss) (suc n) h k =
    fails-runs (after fs h.0.adds ++ bs) ss n h.2 (subst (λ (q : Rule). Runs (after fs q.adds ++ bs) ss) (one-rule fs s k.0 h.0 k.1 h.1) k.2)

pub fails-once : (bs : List (List FormulaTree)) (ss : List StepTree) (n k : ℕ) → FailsAt bs ss n → FailsAt bs ss k → n ≡ k
fails-once [] [] n k h g = absurd h
fails-once [] (s ∷ ss) n k h g = h ∙ sym g
fails-once (fs ∷ bs) [] n k h g = h ∙ sym g
fails-once (fs ∷ bs) (s ∷ ss) zero zero h g = refl
fails-once (fs ∷ bs) (s ∷ ss) zero (suc k) h g = absurd (h g.0 g.1)
fails-once (fs ∷ bs) (s ∷ ss) (suc n) zero h g = absurd (g h.0 h.1)
fails-once (fs ∷ bs) (s ∷ ss) (suc n) (suc k) h g =
    ap suc (fails-once (after fs h.0.adds ++ bs) ss n k h.2 (subst (λ (q : Rule). FailsAt (after fs q.adds ++ bs) ss k) (one-rule fs s g.0 h.0 g.1 h.1) g.2))
