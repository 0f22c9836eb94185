-- Steps that are followed from the facts of a sequent.
use Rattle.std.proofs.Common.{◌≡◌, refl, sym, ap, subst, ◌∙◌, ℕ, zero, suc, ◌+◌, ◌<◌, arith, true, false, not, List, [], ◌∷◌, ◌++◌, append_assoc, length, drop, get_or, slice_get, Option, Some, None, Ok, Err}
use Rattle.std.specs.Prelude.{Result, OnOk}
use Rattle.std.proofs.lemmas.Bool.{true≢false}
use Rattle.std.proofs.lemmas.List.{append-nil, drop_more, drop_all}
use Rattle.std.proofs.lemmas.Option.{slice_get-get_or}
use Rattle.jh_name.specs.declared.naming.Name.{Name}
use Rattle.jh_form.specs.Tree.{ValueTree, FormulaTree, of_truth}
use Rattle.jh_form.specs.Passing.{value_passes, formula_passes, name_equal}
use Rattle.jh_arena.specs.table.Entries.{the_truth, the_value}
use Rattle.jh_arena.specs.table.Growth.{Grows}
use Rattle.jh_form.specs.Tree as t
use Rattle.jh_form.specs.Bare.{formula_tree}
use Rattle.jh_boxed_operations.specs.comparison.Unmarked.{unmarked_formula}
use Rattle.jh_seq.specs.sequent.Sequents.{hyp_tree, sequent_tree}
use Rattle.jh_seq.specs.declared.sequent.sequent.Hyp.{Hyp}
use Rattle.jh_seq.specs.declared.sequent.sequent.Sequent.{Sequent}
use Rattle.jh_derivation_rules.specs.declared.step.DerivStep.{DerivStep}
use Rattle.jh_derivation_rules.specs.Steps.{StepTree, step_tree, bare_step}
use Rattle.jh_derivation_rules.specs.Rules.{IsFresh}
use Rattle.jh_derivation_rules.specs.Closes.{after, Runs, FailsAt, facts_of}
use Rattle.jh_derivation_steps.specs.declared.premises.nodes.Nodes.TheVariants as n
use Rattle.jh_derivation_steps.specs.declared.premises.nodes.Adds.TheVariants as a
use Rattle.jh_derivation_steps.specs.premises.Nodes.{formula_at, value_at, formulas_at, branches_at, IsFormula, AreFormulas}
use Rattle.jh_derivation_steps.specs.premises.Nodes as p
use Rattle.jh_open_branches.specs.declared.branches.Waiting.{Waiting}
use Rattle.jh_open_branches.specs.Placed.{ArePlaced}
use Rattle.jh_open_branches.specs.Waits.{waits}
use Rattle.jh_deriv.specs.Replays.{facts_at, AllFormulas, waiting_at, open_at, AreBranches, Turns, IsStuck, Gains, Comes, bare_facts, bare_steps}
use Rattle.jh_deriv.proofs.Opens.{facts-append, facts-stay, all-append, open-after}
use Rattle.jh_deriv.proofs.Turning.{branches-after}

pub rest-at : {X : Type 0} (xs : List X) (i : ℕ) (x : X) → i < length xs → x ≡ get_or xs i x → drop i xs ≡ x ∷ drop (i + 1) xs
rest-at xs i x lt is = drop_more xs i x lt ∙ ap (λ y. y ∷ drop (i + 1) xs) (sym is)

-- how far the steps have led, with i of them behind
pub record Led (start : List (List FormulaTree)) (all : List StepTree) (now : List (List FormulaTree)) (rest : List StepTree) (i : ℕ) : Type 0 where
  pub runs : Runs now rest → Runs start all
  pub fails : (n : ℕ) → FailsAt now rest n → FailsAt start all (i + n)

pub led-begin : (start : List (List FormulaTree)) (all : List StepTree) → Led start all start all 0
led-begin start all = record { runs = λ r. r; fails = λ n f. let one : n ≡ 0 + n = omega arith in subst (λ (k : ℕ). FailsAt start all k) one f }

pub led-next : (start : List (List FormulaTree)) (all : List StepTree) (now : List (List FormulaTree)) (step : StepTree) (rest : List StepTree) (new : List (List FormulaTree)) (i : ℕ) → Led start all now (step ∷ rest) i → Turns now step new → Led start all new rest (i + 1)
led-next start all [] step rest new i h t = absurd t
led-next start all (fs ∷ bs) step rest new i h t = record {
  runs = λ r. h.runs (t.0, t.1, subst (λ (zs : List (List FormulaTree)). Runs zs rest) t.2 r);
  fails = λ n f.
      let one : i + suc n ≡ i + 1 + n = omega arith in
      subst (λ (k : ℕ). FailsAt start all k) one (h.fails (suc n) (t.0, t.1, subst (λ (zs : List (List FormulaTree)). FailsAt zs rest n) t.2 f));
}

pub led-stuck : (start : List (List FormulaTree)) (all : List StepTree) (now : List (List FormulaTree)) (step : StepTree) (rest : List StepTree) (i : ℕ) → Led start all now (step ∷ rest) i → IsStuck now step → FailsAt start all i
led-stuck start all [] step rest i h stuck = let one : i + 0 ≡ i = omega arith in subst (λ (k : ℕ). FailsAt start all k) one (h.fails 0 refl)
led-stuck start all (fs ∷ bs) step rest i h stuck = let one : i + 0 ≡ i = omega arith in subst (λ (k : ℕ). FailsAt start all k) one (h.fails 0 stuck)

pub led-closed : (start : List (List FormulaTree)) (all : List StepTree) (now : List (List FormulaTree)) (i : ℕ) → Led start all now [] i → now ≡ [] → Runs start all
led-closed start all now i h is = h.runs (subst (λ (zs : List (List FormulaTree)). Runs zs []) (sym is) tt)

pub led-missing : (start : List (List FormulaTree)) (all : List StepTree) (now : List (List FormulaTree)) (i : ℕ) → Led start all now [] i → (now ≡ [] → ⊥) → FailsAt start all i
led-missing start all [] i h some = absurd (some refl)
led-missing start all (fs ∷ bs) i h some = let one : i + 0 ≡ i = omega arith in subst (λ (k : ℕ). FailsAt start all k) one (h.fails 0 refl)

no-end : {X : Type 0} (zs : List X) (x : X) → zs ++ x ∷ [] ≡ [] → ⊥
no-end [] x e = absurd (cc)
no-end (z ∷ zs) x e = absurd (cc)

-- where no branch is open, none waits
pub none-waits : (ts : List ValueTree) (ks : List ℕ) (ws : List Waiting) → open_at ts ks ws ≡ [] → ws ≡ []
none-waits ts ks [] h = refl
none-waits ts ks (w ∷ ws) h = absurd (no-end (open_at ts ks ws) (waiting_at ts ks w) h)

-- the facts after one was added
pub gains-one : (ts us : List ValueTree) → Grows ts us → (old new : List ℕ) (place : ℕ → Option ℕ) (node : ℕ) (x : FormulaTree) → AllFormulas ts old → slice_get us node ≡ Some (of_truth x) → new ≡ old ++ node ∷ [] → ArePlaced new place → Gains ts us old new place (x ∷ [])
unfolding the_truth
gains-one ts us g old new place node x all is e placed =
    let stay = facts-stay ts us g old all in
    let here : formula_at us node ≡ x = ap the_truth is in
    let there : IsFormula us node = is ∙ ap (λ z. Some (of_truth z)) (sym here) in
    record {
      facts = ap (λ zs. facts_at us zs) e ∙ facts-append us old (node ∷ []) ∙ (λ i. stay.0 i ++ here i ∷ []);
      formulas = subst (λ (zs : List ℕ). AllFormulas us zs) (sym e) (all-append us old (node ∷ []) stay.1 (there, tt));
      placed = placed;
    }

pub gains-two : (ts us vs : List ValueTree) (old mid new : List ℕ) (first second : ℕ → Option ℕ) (fs gs : List FormulaTree) → Gains ts us old mid first fs → Gains us vs mid new second gs → Gains ts vs old new second (fs ++ gs)
gains-two ts us vs old mid new first second fs gs g h = record {
  facts = h.facts ∙ ap (λ zs. zs ++ gs) g.facts ∙ append_assoc (facts_at ts old) fs gs;
  formulas = h.formulas;
  placed = h.placed;
}

-- one branch is open, which has all these facts
pub record Begun (ts : List ValueTree) (ks : List ℕ) (place : ℕ → Option ℕ) (ws : List Waiting) (fs : List FormulaTree) : Type 0 where
  pub branches : AreBranches ts ks place ws
  pub opens : open_at ts ks ws ≡ fs ∷ []

pub begun : (ts us : List ValueTree) (old new : List ℕ) (first second : ℕ → Option ℕ) (before after : List Waiting) (fs : List FormulaTree) → old ≡ [] → before ≡ [] → Gains ts us old new first fs → ArePlaced new second → after ≡ before ++ waits new (a.Goes n.Nothing) → Begun us new second after fs
unfolding p.AreBranches AreFormulas branches_at formulas_at
begun ts us old new first second before after fs empty none g placed is =
    let none_open : AreBranches us new first [] = record { facts = g.formulas; placed = g.placed; waiting = tt; below = tt; rises = tt } in
    let one : after ≡ [] ++ waits new (a.Goes n.Nothing) = is ∙ ap (λ zs. zs ++ waits new (a.Goes n.Nothing)) none in
    let facts : facts_at us new ≡ fs = g.facts ∙ ap (λ zs. facts_at ts zs ++ fs) empty in
    record {
      branches = subst (λ (zs : List Waiting). AreBranches us new second zs) (sym one) (branches-after us new first second [] (a.Goes n.Nothing) none_open placed tt);
      opens = ap (λ zs. open_at us new zs) one ∙ open-after us new [] (a.Goes n.Nothing) ∙ (λ i. (append-nil (facts_at us new) ∙ facts) i ∷ []);
    }

pub begun-after : (ts us : List ValueTree) (old mid new : List ℕ) (first second : ℕ → Option ℕ) (before after : List Waiting) (fs : List FormulaTree) → old ≡ [] → before ≡ [] → Gains ts us old mid first fs → new ≡ mid → ArePlaced new second → after ≡ before ++ waits mid (a.Goes n.Nothing) → Begun us new second after fs
begun-after ts us old mid new first second before after fs empty none g e placed is =
    begun ts us old new first second before after fs empty none (subst (λ (zs : List ℕ). Gains ts us old zs first fs) (sym e) g) placed (is ∙ ap (λ zs. before ++ waits zs (a.Goes n.Nothing)) (sym e))

-- what is said of an answer, carried over
pub on-ok-one : {A E P Q : Type 0} (r : Result A E) → (P → Q) → OnOk r P → OnOk r Q
on-ok-one (Ok x) f h = f h
on-ok-one (Err e) f h = tt

pub on-ok-two : {A E P Q S : Type 0} (r : Result A E) → (P → Q → S) → OnOk r P → OnOk r Q → OnOk r S
on-ok-two (Ok x) f h k = f h k
on-ok-two (Err e) f h k = tt

-- The facts after one more hypothesis.
module _ (ts us : List ValueTree) (old new : List ℕ) (place : ℕ → Option ℕ) (whole : List FormulaTree) (hs : List Hyp) (i : ℕ) (h : Hyp) where
  pub hyp-added : i < length hs → h ≡ get_or hs i h → Gains ts us old new place (unmarked_formula (formula_tree h.fact) ∷ []) → facts_at ts old ++ bare_facts (drop i hs) ≡ whole → facts_at us new ++ bare_facts (drop (i + 1) hs) ≡ whole
  unfolding hyp_tree
  hyp-added lt is g all =
      ap (λ zs. zs ++ bare_facts (drop (i + 1) hs)) g.facts
      ∙ append_assoc (facts_at ts old) (unmarked_formula (formula_tree h.fact) ∷ []) (bare_facts (drop (i + 1) hs))
      ∙ ap (λ zs. facts_at ts old ++ bare_facts zs) (sym (rest-at hs i h lt is))
      ∙ all

-- the facts of a sequent, from its hypotheses and its goal
pub facts-are : (s : Sequent) → bare_facts s.hyps ++ (t.negation (unmarked_formula (formula_tree s.goal)) ∷ []) ≡ facts_of (sequent_tree s)
unfolding sequent_tree
facts-are s = refl

-- the steps from a place on
pub steps-at : (ss : List DerivStep) (i : ℕ) (x : DerivStep) → i < length ss → x ≡ get_or ss i x → bare_steps (drop i ss) ≡ bare_step (step_tree x) ∷ bare_steps (drop (i + 1) ss)
steps-at ss i x lt is = ap (λ zs. bare_steps zs) (rest-at ss i x lt is)

-- What the steps come to at their end.
pub comes-end : (start : List (List FormulaTree)) (ss : List DerivStep) (ts : List ValueTree) (ks : List ℕ) (ws : List Waiting) (i count : ℕ) (r : Option ℕ) → Led start (bare_steps ss) (open_at ts ks ws) (bare_steps (drop i ss)) i → i ≡ length ss → count ≡ length ss →
    (r ≡ None → ws ≡ []) → ((n : ℕ) → r ≡ Some n → n ≡ count) → ((n : ℕ) → r ≡ Some n → ws ≡ [] → ⊥) → Comes start (bare_steps ss) (Ok r)
comes-end start ss ts ks ws i count r led at counted none missing waiting =
    let nothing : drop i ss ≡ [] = drop_all i ss (omega (arith, at)) in
    let here : Led start (bare_steps ss) (open_at ts ks ws) [] i = subst (λ (zs : List DerivStep). Led start (bare_steps ss) (open_at ts ks ws) (bare_steps zs) i) nothing led in
    by-answer here r none missing waiting
  where
    by-answer : Led start (bare_steps ss) (open_at ts ks ws) [] i → (r : Option ℕ) → (r ≡ None → ws ≡ []) → ((n : ℕ) → r ≡ Some n → n ≡ count) → ((n : ℕ) → r ≡ Some n → ws ≡ [] → ⊥) → Comes start (bare_steps ss) (Ok r)
    by-answer here None none missing waiting = led-closed start (bare_steps ss) (open_at ts ks ws) i here (ap (λ zs. open_at ts ks zs) (none refl))
    by-answer here (Some n) none missing waiting =
        let one : i ≡ n = omega (arith, at, counted, missing n refl) in
        subst (λ (k : ℕ). FailsAt start (bare_steps ss) k) one (led-missing start (bare_steps ss) (open_at ts ks ws) i here (λ e. waiting n refl (none-waits ts ks ws e)))

-- the formula of the list at a place
pub all-at : (ts : List ValueTree) (ks : List ℕ) (i k : ℕ) → AllFormulas ts ks → slice_get ks i ≡ Some k → IsFormula ts k
all-at ts [] i k all h = absurd (cc)
all-at ts (x ∷ ks) zero k all h = let same : x ≡ k = cc in subst (λ (m : ℕ). IsFormula ts m) same all.0
all-at ts (x ∷ ks) (suc i) k all h = all-at ts ks i k all.1 h

pub item-at : {X : Type 0} (xs : List X) (i : ℕ) (x : X) → i < length xs → x ≡ get_or xs i x → slice_get xs i ≡ Some x
item-at xs i x lt e = slice_get-get_or xs i x lt ∙ ap Some (sym e)

-- whether a name is fresh for the facts, where it is known of the first ones
module _ (ts : List ValueTree) (ks : List ℕ) (x : Name) where
  pub record FreshFrom (i : ℕ) : Type 0 where
    pub whole : IsFresh (facts_at ts (drop i ks)) x → IsFresh (facts_at ts ks) x
    pub rest : IsFresh (facts_at ts ks) x → IsFresh (facts_at ts (drop i ks)) x

  passes-truth : (k : ℕ) → IsFormula ts k → value_passes (value_at ts k) (λ y u. not (name_equal y x)) ≡ formula_passes (formula_at ts k) (λ y u. not (name_equal y x))
  unfolding the_value value_passes
  passes-truth k is = ap (λ o. value_passes (the_value o) (λ y u. not (name_equal y x))) is

  pub fresh-more : (i k : ℕ) → IsFormula ts k → drop i ks ≡ k ∷ drop (i + 1) ks → value_passes (value_at ts k) (λ y u. not (name_equal y x)) ≡ true → FreshFrom i → FreshFrom (i + 1)
  fresh-more i k is at passes h =
      let here : formula_passes (formula_at ts k) (λ y u. not (name_equal y x)) ≡ true = sym (passes-truth k is) ∙ passes in
      record {
        whole = λ fresh. h.whole (subst (λ (zs : List ℕ). IsFresh (facts_at ts zs) x) (sym at) (here, fresh));
        rest = λ fresh. (subst (λ (zs : List ℕ). IsFresh (facts_at ts zs) x) at (h.rest fresh)).1;
      }

  pub fresh-not : (i k : ℕ) → IsFormula ts k → drop i ks ≡ k ∷ drop (i + 1) ks → value_passes (value_at ts k) (λ y u. not (name_equal y x)) ≡ false → FreshFrom i → IsFresh (facts_at ts ks) x → ⊥
  fresh-not i k is at fails h fresh =
      let both = subst (λ (zs : List ℕ). IsFresh (facts_at ts zs) x) at (h.rest fresh) in
      true≢false (sym both.0 ∙ sym (passes-truth k is) ∙ fails)
