-- A sequent of which the query is true is valid.
use Rattle.std.proofs.Common.{◌≡◌, refl, sym, ◌∙◌, Bool, true, false, not, ◌&&◌, ◌||◌, if◌then◌else◌, List, [], ◌∷◌, ◌++◌, map}
use Rattle.std.specs.Prelude.{filter}
use Rattle.std.specs.List.{flat_map, list_all}
use Rattle.std.proofs.lemmas.Bool.{true≢false}
use Rattle.jh_form.specs.Tree.{FormulaTree}
use Rattle.jh_form.specs.Meaning.{Interp, InUniverse, truth}
use Rattle.jh_boxed_operations.specs.comparison.Unmarked.{unmarked_formula}
use Rattle.jh_query.specs.queries.Truth.{holds, IsTrueQuery}
use Rattle.jh_derivation_rules.specs.jh_seq.sequent.Sequents.{HypTree, AllTrue}
use Rattle.jh_derivation_rules.specs.Closes.{AllHold}
use Rattle.jh_derivation_rules.proofs.Unmarkings.{truth-unmarked}
use Rattle.jh_approx.specs.definition.Shown.{shown}
use Rattle.jh_approx.specs.definition.Names.{NameLists, names, listed}
use Rattle.jh_approx.specs.definition.Links.{is_kept}
use Rattle.jh_approx.specs.definition.Told.{told}
use Rattle.jh_approx.specs.definition.Regions.{unlabelled, kept_facts, query_over, query_from, bapa_of}
use Rattle.jh_approx.specs.definition.Laws.{TrueQueryIsValid}
use Rattle.jh_approx.proofs.definition.Places.{ArePlaced, left, right, listed-placed}
use Rattle.jh_approx.proofs.definition.Counted.{counted, fits}
use Rattle.jh_approx.proofs.definition.Tellings.{IsTold, holds-told}
use Rattle.jh_approx.proofs.definition.Polarities.{goal-true, fact-true, shown-told}

-- a query can say each of several formulas
abbrev pub AllTold : List FormulaTree → Type 0
AllTold [] = Unit {0}
AllTold (a ∷ fs) = IsTold a × AllTold fs

abbrev bare : HypTree → HypTree
bare h = record { name = h.name; fact = unmarked_formula h.fact }

-- what is shown of a hypothesis
abbrev pub fact_shown : HypTree → FormulaTree
fact_shown h = shown h.fact false

chosen-hold : (m : Interp) (b : Bool) (h : HypTree) (hs : List HypTree) → truth (fact_shown h) m [] ≡ true → AllHold m (map fact_shown hs) → AllHold m (map fact_shown (if b then h ∷ hs else hs))
chosen-hold m true h hs e k = (e, k)
chosen-hold m false h hs e k = k

-- what is shown of the kept hypotheses is true where all hypotheses are
kept-hold : (m : Interp) (p : HypTree → Bool) (hs : List HypTree) → AllTrue hs m → AllHold m (map fact_shown (filter p (map bare hs)))
kept-hold m p [] h = tt
kept-hold m p (x ∷ hs) h =
    chosen-hold m (p (bare x)) (bare x) (filter p (map bare hs)) (fact-true m (unmarked_formula x.fact) (truth-unmarked x.fact m [] ∙ h.0)) (kept-hold m p hs h.1)

pub facts-told : (hs : List HypTree) → AllTold (map fact_shown hs)
facts-told [] = tt
facts-told (h ∷ hs) = (shown-told h.fact false, facts-told hs)

facts-hold : (m : Interp) (n : NameLists) (inside : InUniverse m) (fs : List FormulaTree) → AllTold fs → ArePlaced n (flat_map names fs) → AllHold m fs → list_all (holds (counted m n)) (map (told n) fs) ≡ true
facts-hold m n inside [] said k h = refl
facts-hold m n inside (a ∷ fs) said k h = λ i. (holds-told m n inside a said.0 (left n (names a) (flat_map names fs) k) ∙ h.0) i && facts-hold m n inside fs said.1 (right n (names a) (flat_map names fs) k) h.1 i

goal-left : (p q : Bool) → (not p || q) ≡ true → p ≡ true → q ≡ true
goal-left true q h e = h
goal-left false q h e = absurd (true≢false (sym e))

-- the goal is true where the facts are, by a query over the names of both
query-gives : (m : Interp) (inside : InUniverse m) (facts : List FormulaTree) (goal : FormulaTree) → AllTold facts → IsTold goal → IsTrueQuery (query_from facts goal) → AllHold m facts → truth goal m [] ≡ true
unfolding query_from query_over
query-gives m inside facts goal said u is hold =
    let vs = flat_map names facts ++ names goal in
    let n : NameLists = listed vs in
    let placed : ArePlaced n vs = listed-placed vs in
    let known : list_all (holds (counted m n)) (map (told n) facts) ≡ true = facts-hold m n inside facts said (left n (flat_map names facts) (names goal) placed) hold in
    sym (holds-told m n inside goal u (right n (flat_map names facts) (names goal) placed))
    ∙ goal-left (list_all (holds (counted m n)) (map (told n) facts)) (holds (counted m n) (told n goal)) (is (counted m n) (fits m n inside (query_from facts goal) refl refl refl refl)) known

pub true-query-valid : TrueQueryIsValid
unfolding bapa_of kept_facts unlabelled
true-query-valid s is m inside hold =
    let facts = map fact_shown (filter (is_kept (unlabelled s)) (map bare s.hyps)) in
    sym (truth-unmarked s.goal m [])
    ∙ goal-true m (unmarked_formula s.goal) (query-gives m inside facts (shown (unmarked_formula s.goal) true) (facts-told (filter (is_kept (unlabelled s)) (map bare s.hyps))) (shown-told (unmarked_formula s.goal) true) is (kept-hold m (is_kept (unlabelled s)) s.hyps hold))
