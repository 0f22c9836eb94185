-- Where the local form is valid, so is the sequent.
use Rattle.std.proofs.Common.{◌≡◌, refl, sym, ap, ◌∙◌, ℕ, ◌≤◌, Bool, true, false, if◌then◌else◌, List, [], ◌∷◌, ◌++◌, map, inl, inr, arith}
use Rattle.std.specs.Prelude.{filter}
use Rattle.std.proofs.lemmas.Bool.{lt-ltb}
use Rattle.jh_name.specs.declared.naming.Name.{Name}
use Rattle.jh_name.specs.declared.place.Sort as place
use Rattle.jh_form.specs.Tree.{ValueTree, FormulaTree}
use Rattle.jh_form.specs.Tree as t
use Rattle.jh_form.specs.Meaning.{Interp, InUniverse, truth}
use Rattle.jh_form.specs.Passing.{formula_passes}
use Rattle.jh_normal_forms.specs.declared.parts.order.Order.TheVariants as order
use Rattle.jh_normal_forms.specs.parts.Standing.{formula_parts}
use Rattle.jh_normal_forms.specs.declared.rebuilding.polarity.Polarity.TheVariants as pol
use Rattle.jh_approx.specs.jh_reach.Truths.{AxiomsAreTrue}
use Rattle.jh_seq.specs.sequent.Sequents.{HypTree, SequentTree, AllTrue, IsValid}
use Rattle.jh_seq.specs.splitting.Split.{before}
use Rattle.jh_fca.specs.local_form.Each.{over_facts, formulas}
use Rattle.jh_fca.specs.local_form.Chosen.{is_chosen, chosen}
use Rattle.jh_normal_forms.specs.idle_updates.Dropped.{dropped}
use Rattle.jh_fca.specs.local_form.Named.{turn_after, turn_behind, all_parts, first_turn, is_whole_update, updates, named, update_facts}
use Rattle.jh_normal_forms.specs.set_opening.SetsOpened.{sets_opened}
use Rattle.jh_fca.specs.cutting.Cut.{cut}
use Rattle.jh_fca.specs.elimination.Eliminated.{eliminate}
use Rattle.jh_fca.specs.elimination.Laws.{StandsWithout, EliminatedMayStand}
use Rattle.jh_fca.specs.local_form.Chains.{changes, reach_axioms}
use Rattle.jh_fca.specs.local_form.LocalOf.{begun, with_names, cut_down, local_with, local_of}
use Rattle.jh_fca.specs.local_form.Laws.{LocalIsValid}
use Rattle.jh_fca.proofs.local_form.Among.{Among, among-left, among-right, among-either, among-filter, filter-passes, among-once}
use Rattle.jh_fca.proofs.local_form.Chained.{reach-axioms-hold}
use Rattle.jh_fca.proofs.cutting.Cutting.{goal-cut, fact-cut}
use Rattle.jh_fca.proofs.local_form.DroppedNames.{dropped-passes}
use Rattle.jh_normal_forms.proofs.idle_updates.Droppings.{dropped-means}
use Rattle.jh_fca.proofs.local_form.Holding.{true-both, true-facts}
use Rattle.jh_fca.proofs.local_form.Naming.{IsNamed, with_updates, with-inside, named-meant, update-facts-hold}
use Rattle.jh_fca.proofs.local_form.PartNames.{EachOwn, EachPasses, own_passes, formula-own, formula-pass}
use Rattle.jh_normal_forms.proofs.set_opening.SetsOpen.{opened-means}

-- ---- turns

-- each formula passes a test
abbrev AllPass : (Name → place.Sort → Bool) → List FormulaTree → Type 0
AllPass p [] = Unit {0}
AllPass p (a ∷ fs) = (formula_passes a p ≡ true) × AllPass p fs

turn-within : (v : ValueTree) (vs : List ValueTree) → Among v vs → turn_after v ≤ turn_behind vs
unfolding turn_behind
turn-within v [] h = absurd h
turn-within v (w ∷ vs) (inl e) = let same : turn_after w ≡ turn_after v = ap turn_after e in omega (arith, same)
turn-within v (w ∷ vs) (inr h) = let le : turn_after v ≤ turn_behind vs = turn-within v vs h in omega (arith, le)

own-before : (v : ValueTree) (k : ℕ) → turn_after v ≤ k → own_passes (before k) v ≡ true
unfolding turn_after own_passes
own-before (t.of_object (t.free_object x)) k h = lt-ltb x.turn k (omega (arith, h))
own-before (t.of_number (t.free_number x)) k h = lt-ltb x.turn k (omega (arith, h))
own-before (t.of_truth (t.free_truth x)) k h = lt-ltb x.turn k (omega (arith, h))
own-before (t.of_set (t.free_set x)) k h = lt-ltb x.turn k (omega (arith, h))
own-before (t.of_field (t.free_field x)) k h = lt-ltb x.turn k (omega (arith, h))
own-before v k h = refl

parts-before : (k : ℕ) (facts : List FormulaTree) → EachOwn (before k) (all_parts facts) → AllPass (before k) facts
parts-before k [] h = tt
parts-before k (a ∷ facts) h = (
  formula-own (before k) a (λ v j. h v (among-left v (formula_parts a order.InnerFirst) (all_parts facts) j)),
  parts-before k facts (λ v j. h v (among-right v (formula_parts a order.InnerFirst) (all_parts facts) j)),
)

-- all names of some formulas have turns before the first one beyond
turns-before : (facts : List FormulaTree) → AllPass (before (first_turn facts)) facts
turns-before facts = parts-before (first_turn facts) facts (λ v h. own-before v (first_turn facts) (turn-within v (all_parts facts) h))

parts-pass : (p : Name → place.Sort → Bool) (facts : List FormulaTree) → AllPass p facts → EachPasses p (all_parts facts)
parts-pass p [] h v j = absurd j
parts-pass p (a ∷ facts) h v j = elim (among-either v (formula_parts a order.InnerFirst) (all_parts facts) j) [ inl l ↦ formula-pass p a h.0 v l | inr r ↦ parts-pass p facts h.1 v r ]

-- each update that gets a name is one that may
updates-named : (k : ℕ) (facts : List FormulaTree) → AllPass (before k) facts → (v : ValueTree) → Among v (updates facts) → IsNamed k v
updates-named k facts h v j =
    let chosen_one : Among v (filter is_whole_update (all_parts facts)) = among-once v (filter is_whole_update (all_parts facts)) j in
    record {
      whole = filter-passes is_whole_update v (all_parts facts) chosen_one;
      early = parts-pass (before k) facts h v (among-filter is_whole_update v (all_parts facts) chosen_one);
    }

-- ---- the steps

dropped-pass : (p : Name → place.Sort → Bool) (hs : List HypTree) (goal : FormulaTree) → AllPass p (map (λ h. h.fact) hs ++ (goal ∷ [])) → AllPass p (map (λ h. h.fact) (over_facts dropped hs) ++ (dropped goal ∷ []))
dropped-pass p [] goal h = (dropped-passes p goal h.0, tt)
dropped-pass p (x ∷ hs) goal h = (dropped-passes p x.fact h.0, dropped-pass p hs goal h.1)

true-if : (m : Interp) (c : Bool) (h : HypTree) (hs : List HypTree) → truth h.fact m [] ≡ true → AllTrue hs m → AllTrue (if c then h ∷ hs else hs) m
true-if m true h hs e k = (e, k)
true-if m false h hs e k = k

filter-true : (m : Interp) (p : HypTree → Bool) (hs : List HypTree) → AllTrue hs m → AllTrue (filter p hs) m
filter-true m p [] h = tt
filter-true m p (x ∷ hs) h = true-if m (p x) x (filter p hs) h.0 (filter-true m p hs h.1)

-- what each fact is exchanged for is true where the fact is
over-true : (m n : Interp) (f : FormulaTree → FormulaTree) → ((a : FormulaTree) → truth a m [] ≡ true → truth (f a) n [] ≡ true) → (hs : List HypTree) → AllTrue hs m → AllTrue (over_facts f hs) n
over-true m n f h [] k = tt
over-true m n f h (x ∷ hs) k = (h x.fact k.0, over-true m n f h hs k.1)

module _ (us : List ValueTree) (k : ℕ) (m : Interp) (all : (v : ValueTree) → Among v us → IsNamed k v) where
  named-true : (hs : List HypTree) (goal : FormulaTree) → AllPass (before k) (map (λ h. h.fact) hs ++ (goal ∷ [])) → AllTrue hs m → AllTrue (over_facts (named us k) hs) (with_updates us k m all)
  named-true [] goal passes h = tt
  named-true (x ∷ hs) goal passes h = (named-meant us k m all x.fact passes.0 ∙ h.0, named-true hs goal passes.1 h.1)

  goal-meant : (hs : List HypTree) (goal : FormulaTree) → AllPass (before k) (map (λ h. h.fact) hs ++ (goal ∷ [])) → truth (named us k goal) (with_updates us k m all) [] ≡ truth goal m []
  goal-meant [] goal passes = named-meant us k m all goal passes.0
  goal-meant (x ∷ hs) goal passes = goal-meant hs goal passes.1

-- a hypothesis is true with its sets opened and cut
cut-true : (n : Interp) (a : FormulaTree) → truth a n [] ≡ true → truth (cut (sets_opened a) pol.Negative) n [] ≡ true
cut-true n a h = fact-cut (sets_opened a) n [] (opened-means a n [] ∙ h)

cut-goal : (n : Interp) (a : FormulaTree) → truth (cut (sets_opened a) pol.Positive) n [] ≡ true → truth a n [] ≡ true
cut-goal n a h = sym (opened-means a n []) ∙ goal-cut (sets_opened a) n [] h

-- the steps from a sequent on whose updates get names
local-with-valid : AxiomsAreTrue → EliminatedMayStand → (us : List ValueTree) (k : ℕ) (s : SequentTree) → AllPass (before k) (formulas s) → ((v : ValueTree) → Among v us → IsNamed k v) → IsValid (local_with us k s) → IsValid s
local-with-valid law without us k s passes all valid m inside hold =
    let n : Interp = with_updates us k m all in
    let n_inside : InUniverse n = with-inside us k m all inside in
    let given : SequentTree = cut_down (with_names us k s) in
    let facts : AllTrue (with_names us k s).hyps n = true-both n (over_facts (named us k) s.hyps) _ (named-true us k m all s.hyps s.goal passes hold) (true-facts n (update_facts us k) (update-facts-hold us k m all)) in
    let less : AllTrue given.hyps n = over-true n n (λ a. cut (sets_opened a) pol.Negative) (cut-true n) (with_names us k s).hyps facts in
    let kept : StandsWithout given n = without given n n_inside less in
    let more : AllTrue (local_with us k s).hyps n = true-both n (eliminate given).hyps _ kept.facts (true-facts n (reach_axioms (formulas (eliminate given)) (changes us k)) (reach-axioms-hold law us k m all n_inside (formulas (eliminate given)))) in
    sym (goal-meant us k m all s.hyps s.goal passes) ∙ cut-goal n (named us k s.goal) (kept.goal (valid n n_inside more))

begun-valid : (s : SequentTree) → IsValid (begun s) → IsValid s
begun-valid s valid m inside hold =
    sym (dropped-means s.goal m [])
    ∙ valid m inside (over-true m m dropped (λ a h. dropped-means a m [] ∙ h) (filter (is_chosen s.mark.from) s.hyps) (filter-true m (is_chosen s.mark.from) s.hyps hold))

pub local-valid : AxiomsAreTrue → EliminatedMayStand → LocalIsValid
unfolding local_of
local-valid law without s valid =
    let k : ℕ = first_turn (formulas (chosen s)) in
    let passes : AllPass (before k) (formulas (begun s)) = dropped-pass (before k) (chosen s).hyps s.goal (turns-before (formulas (chosen s))) in
    begun-valid s (local-with-valid law without (updates (formulas (begun s))) k (begun s) passes (updates-named k (formulas (begun s)) passes) valid)
