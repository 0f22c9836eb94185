-- What a turn of the replay does to the branches that are open.
use Rattle.std.proofs.Common.{◌≡◌, refl, sym, ap, subst, ◌∙◌, ℕ, zero, suc, ◌+◌, ◌≤◌, arith, true, List, [], ◌∷◌, ◌++◌, length, length-append, take, slice_get, Option, Some, None, inl, inr, Ok, Err}
use Rattle.std.specs.Prelude.{Result}
use Rattle.std.proofs.lemmas.List.{length-take-le}
use Rattle.jh_name.specs.declared.memory.NoMemory.{NoMemory}
use Rattle.jh_form.specs.Tree.{ValueTree, FormulaTree, of_truth}
use Rattle.jh_arena.specs.table.Growth.{Grows, AreDifferent}
use Rattle.jh_name.specs.declared.naming.Name.{Name}
use Rattle.jh_form.specs.declared.form.Formula.{Formula}
use Rattle.jh_derivation_rules.specs.declared.step.DerivStep.{DerivStep}
use Rattle.jh_derivation_rules.specs.declared.step.DerivStep.TheVariants as d
use Rattle.jh_derivation_rules.specs.Steps.{StepTree, step_tree, bare_step}
use Rattle.jh_derivation_rules.specs.Steps as s
use Rattle.jh_derivation_rules.specs.Rules.{Rule, rule_of, is_closed_step, Has, HasAll, Suits}
use Rattle.jh_derivation_rules.specs.Closes.{after}
use Rattle.jh_derivation_steps.specs.declared.premises.nodes.Nodes.{Nodes}
use Rattle.jh_derivation_steps.specs.declared.premises.nodes.Nodes.TheVariants as n
use Rattle.jh_derivation_steps.specs.declared.premises.nodes.Adds.{Adds}
use Rattle.jh_derivation_steps.specs.declared.premises.nodes.NodeRule.{NodeRule}
use Rattle.jh_derivation_steps.specs.declared.premises.nodes.NodeStep.{NodeStep}
use Rattle.jh_derivation_steps.specs.declared.premises.nodes.NodeStep.TheVariants as e
use Rattle.jh_derivation_steps.specs.premises.Nodes.{formula_at, formulas_at, branches_at, rule_at, option_rule, step_at, Gives, IsFormula, AreFormulas}
use Rattle.jh_derivation_steps.specs.premises.Nodes as p
use Rattle.jh_open_branches.specs.declared.branches.Waiting.{Waiting}
use Rattle.jh_open_branches.specs.Placed.{ArePlaced, Stands, StandAll, numbers}
use Rattle.jh_open_branches.specs.Waits.{waits, kept_by, Follows}
use Rattle.jh_deriv.specs.Replays.{SuitsAlone, SuitsFacts, Finds, facts_at, AllFormulas, open_at, AreBranches, Turns, IsStuck}
use Rattle.jh_deriv.proofs.Opens.{all-append, all-take, all-numbers, open-after, open-last, open-kept, below-more, below-append, below-last, below-after, rises-last, rises-append, rises-after, facts-stay, open-stays, waiting-stay, waiting-append, waiting-last, waiting-after}

-- a fact of the list, by its formula and by its node
pub stands-has : (ts : List ValueTree) (ks : List ℕ) (x k : ℕ) → slice_get ks k ≡ Some x → Has (facts_at ts ks) (formula_at ts x)
stands-has ts [] x k h = absurd (cc)
stands-has ts (y ∷ ks) x zero h = let same : y ≡ x = cc in inl (ap (λ m. formula_at ts m) same)
stands-has ts (y ∷ ks) x (suc k) h = inr (stands-has ts ks x k h)

pub has-stands : (ts : List ValueTree) → AreDifferent ts → (ks : List ℕ) (x : ℕ) → AllFormulas ts ks → IsFormula ts x → Has (facts_at ts ks) (formula_at ts x) → Stands ks x
has-stands ts different [] x all is h = absurd h
has-stands ts different (y ∷ ks) x all is (inl same) =
    let one : y ≡ x = different y x (of_truth (formula_at ts x)) (all.0 ∙ ap (λ z. Some (of_truth z)) same) is in
    (0, ap (λ m. Some m) one)
has-stands ts different (y ∷ ks) x all is (inr later) = let r = has-stands ts different ks x all.1 is later in (suc r.0, r.1)

pub stand-has : (ts : List ValueTree) (ks : List ℕ) (x : Nodes) → StandAll ks (numbers x) → HasAll (facts_at ts ks) (formulas_at ts x)
unfolding numbers formulas_at
stand-has ts ks n.Nothing h = tt
stand-has ts ks (n.One x) h = (stands-has ts ks x h.0.0 h.0.1, tt)
stand-has ts ks (n.Two x y) h = (stands-has ts ks x h.0.0 h.0.1, (stands-has ts ks y h.1.0.0 h.1.0.1, tt))

pub has-stand : (ts : List ValueTree) → AreDifferent ts → (ks : List ℕ) (x : Nodes) → AllFormulas ts ks → AreFormulas ts x → HasAll (facts_at ts ks) (formulas_at ts x) → StandAll ks (numbers x)
unfolding numbers formulas_at AreFormulas
has-stand ts different ks n.Nothing all are h = tt
has-stand ts different ks (n.One x) all are h = (has-stands ts different ks x all are h.0, tt)
has-stand ts different ks (n.Two x y) all are h = (has-stands ts different ks x all are.0 h.0, (has-stands ts different ks y all are.1 h.1.0, tt))

-- what a rule asks for beside facts, in its two parts
pub suits-both : (fs : List FormulaTree) (step : StepTree) → SuitsAlone step → SuitsFacts fs step → Suits fs step
suits-both fs (s.reflexive a) h k = h
suits-both fs (s.replacing a b v w) h k = h
suits-both fs (s.witness a x) h k = k
suits-both fs _ h k = tt

pub suits-alone : (fs : List FormulaTree) (step : StepTree) → Suits fs step → SuitsAlone step
suits-alone fs (s.reflexive a) h = h
suits-alone fs (s.replacing a b v w) h = h
suits-alone fs _ h = tt

pub suits-facts : (fs : List FormulaTree) (step : StepTree) → Suits fs step → SuitsFacts fs step
suits-facts fs (s.witness a x) h = h
suits-facts fs _ h = tt

-- no step but these asks anything of its operands beyond their form
pub alone-other : (ts : List ValueTree) (step : NodeStep) → ((a : ℕ) → step ≡ e.Reflexive a → ⊥) → ((a b v w : ℕ) → step ≡ e.Replacing a b v w → ⊥) → SuitsAlone (step_at ts step)
unfolding step_at
alone-other ts (e.Reflexive a) h k = absurd (h a refl)
alone-other ts (e.Replacing a b v w) h k = absurd (k a b v w refl)
alone-other ts _ h k = tt

-- the rule that is given for a step that suits alone
pub gives-finds : (ts : List ValueTree) (step : StepTree) (r : Result (Option NodeRule) NoMemory) → Gives ts (rule_of step) r → is_closed_step step ≡ true → SuitsAlone step → Finds ts step r
unfolding option_rule
gives-finds ts step (Ok (Some made)) g closed alone = (sym g.0, closed, alone, g.1)
gives-finds ts step (Ok None) g closed alone = λ r form other suits. let wrong : None ≡ Some r = g.0 ∙ form in absurd (cc)
gives-finds ts step (Err error) g closed alone = tt

-- no step but that for a witness asks anything of the facts
pub suits-other : (fs : List FormulaTree) (step : DerivStep) → ((a : Formula) (x : Name) → step ≡ d.Exists a x → ⊥) → SuitsFacts fs (bare_step (step_tree step))
unfolding step_tree bare_step
suits-other fs (d.Exists a x) h = absurd (h a x refl)
suits-other fs _ h = tt

-- Going on with the last branch that waits.
pub record Goes (ts : List ValueTree) (ks : List ℕ) (ws : List Waiting) (new : List ℕ) (place : ℕ → Option ℕ) (rest : List Waiting) : Type 0 where
  pub branches : AreBranches ts new place rest
  pub opens : open_at ts ks ws ≡ facts_at ts new ∷ open_at ts new rest

next-at : (ts : List ValueTree) (ks : List ℕ) (old place : ℕ → Option ℕ) (rest : List Waiting) (w : Waiting) → AreBranches ts ks old (rest ++ w ∷ []) → ArePlaced (kept_by ks w) place → Goes ts ks (rest ++ w ∷ []) (kept_by ks w) place rest
next-at ts ks old place rest w h placed =
    let below = below-last (length ks) rest w h.below in
    let rises = rises-last 0 rest w h.rises in
    let waiting = waiting-last ts rest w h.waiting in
    let long : w.count ≤ length (take w.count ks ++ numbers w.added) = omega (arith, length-append (take w.count ks) (numbers w.added), length-take-le w.count ks below.1) in
    record {
      branches = record {
        facts = all-append ts (take w.count ks) (numbers w.added) (all-take ts w.count ks h.facts) (all-numbers ts w.added waiting.1);
        placed = placed;
        waiting = waiting.0;
        below = below-more w.count (length (take w.count ks ++ numbers w.added)) rest long rises.below;
        rises = rises.rises;
      };
      opens = open-last ts ks rest w ∙ ap (λ zs. facts_at ts (kept_by ks w) ∷ zs) (sym (open-kept ts ks (numbers w.added) w.count rest rises.below below.1));
    }

pub next-goes : (ts : List ValueTree) (ks : List ℕ) (old : ℕ → Option ℕ) (ws : List Waiting) (new : List ℕ) (place : ℕ → Option ℕ) (rest : List Waiting) → AreBranches ts ks old ws → Follows ks ws new rest → ArePlaced new place → Goes ts ks ws new place rest
next-goes ts ks old ws new place rest h f placed =
    let here : AreBranches ts ks old (rest ++ f.0 ∷ []) = subst (λ (zs : List Waiting). AreBranches ts ks old zs) f.1 h in
    let there : ArePlaced (kept_by ks f.0) place = subst (λ (zs : List ℕ). ArePlaced zs place) f.2 placed in
    let goes = next-at ts ks old place rest f.0 here there in
    subst (λ (zs : List Waiting). Goes ts ks zs new place rest) (sym f.1) (subst (λ (zs : List ℕ). Goes ts ks (rest ++ f.0 ∷ []) zs place rest) (sym f.2) goes)

-- The branches in a table that has grown.
pub branches-stay : (ts us : List ValueTree) → Grows ts us → (ks : List ℕ) (place : ℕ → Option ℕ) (ws : List Waiting) → AreBranches ts ks place ws → AreBranches us ks place ws
branches-stay ts us g ks place ws h = record {
  facts = (facts-stay ts us g ks h.facts).1;
  placed = h.placed;
  waiting = waiting-stay ts us g ws h.waiting;
  below = h.below;
  rises = h.rises;
}

pub goes-stays : (ts us : List ValueTree) → Grows ts us → (ks : List ℕ) (ws : List Waiting) (new : List ℕ) (place : ℕ → Option ℕ) (rest : List Waiting) → Goes ts ks ws new place rest → open_at ts ks ws ≡ facts_at us new ∷ open_at us new rest
goes-stays ts us g ks ws new place rest h =
    h.opens ∙ (λ i. sym (facts-stay ts us g new h.branches.facts).0 i ∷ sym (open-stays ts us g new rest h.branches.facts h.branches.waiting) i)

-- The branches after a step.
pub branches-after : (ts : List ValueTree) (ks : List ℕ) (old place : ℕ → Option ℕ) (ws : List Waiting) (x : Adds) → AreBranches ts ks old ws → ArePlaced ks place → p.AreBranches ts x → AreBranches ts ks place (ws ++ waits ks x)
branches-after ts ks old place ws x h placed adds = record {
  facts = h.facts;
  placed = placed;
  waiting = waiting-append ts ws (waits ks x) h.waiting (waiting-after ts ks x adds);
  below = below-append (length ks) ws (waits ks x) h.below (below-after ks x);
  rises = rises-append 0 (length ks) ws (waits ks x) h.rises h.below (omega arith) (rises-after ks x);
}

pub spread-branches : (ts : List ValueTree) (ks new : List ℕ) (old place : ℕ → Option ℕ) (ws us : List Waiting) (x : Adds) → AreBranches ts ks old ws → p.AreBranches ts x → new ≡ ks → ArePlaced new place → us ≡ ws ++ waits ks x → AreBranches ts new place us
spread-branches ts ks new old place ws us x h adds e placed is =
    let there : ArePlaced ks place = subst (λ (zs : List ℕ). ArePlaced zs place) e placed in
    let made = branches-after ts ks old place ws x h there adds in
    subst (λ (zs : List Waiting). AreBranches ts new place zs) (sym is) (subst (λ (zs : List ℕ). AreBranches ts zs place (ws ++ waits ks x)) (sym e) made)

pub spread-opens : (ts : List ValueTree) (ks new : List ℕ) (ws us : List Waiting) (x : Adds) → new ≡ ks → us ≡ ws ++ waits ks x → open_at ts new us ≡ after (facts_at ts ks) (branches_at ts x) ++ open_at ts ks ws
spread-opens ts ks new ws us x e is = (λ i. open_at ts (e i) (is i)) ∙ open-after ts ks ws x

-- A turn: what it is where the step meets its rule, and that it is stuck where it doesn't.
module _ (ts : List ValueTree) (fs : List FormulaTree) (bs rest : List (List FormulaTree)) (step : StepTree) (is : bs ≡ fs ∷ rest) where
  pub turns : (made : NodeRule) → Finds ts step (Ok (Some made)) → HasAll fs (formulas_at ts made.needs) → SuitsFacts fs step → (new : List (List FormulaTree)) → new ≡ after fs (branches_at ts made.adds) ++ rest → Turns bs step new
  unfolding rule_at
  turns made found has suits new e =
      subst (λ (zs : List (List FormulaTree)). Turns zs step new) (sym is)
      (rule_at ts made, record { form = found.0; closed = found.1; facts = has; suits = suits-both fs step found.2 suits }, e)

  pub stuck-none : Finds ts step (Ok None) → IsStuck bs step
  stuck-none found =
      subst (λ (zs : List (List FormulaTree)). IsStuck zs step) (sym is) (λ r meets. found r meets.form meets.closed (suits-alone fs step meets.suits))

  pub stuck-some : (made : NodeRule) → Finds ts step (Ok (Some made)) → (HasAll fs (formulas_at ts made.needs) → SuitsFacts fs step → ⊥) → IsStuck bs step
  unfolding rule_at
  stuck-some made found never =
      subst (λ (zs : List (List FormulaTree)). IsStuck zs step) (sym is) (λ r meets.
      let same : Some r ≡ Some (rule_at ts made) = sym meets.form ∙ found.0 in
      let one : r ≡ rule_at ts made = cc in
      never (subst (λ (z : Rule). HasAll fs z.needs) one meets.facts) (suits-facts fs step meets.suits))

pub stuck-empty : (bs : List (List FormulaTree)) (step : StepTree) → bs ≡ [] → IsStuck bs step
stuck-empty bs step is = subst (λ (zs : List (List FormulaTree)). IsStuck zs step) (sym is) tt
