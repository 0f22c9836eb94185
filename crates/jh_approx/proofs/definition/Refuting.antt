-- Sizes that refute the query of a plain sequent list an interpretation in which it is false.
use Rattle.std.proofs.Common.{◌≡◌, refl, sym, ap, ◌∙◌, Bool, true, false, not, ◌||◌, if◌then◌else◌, List, [], ◌∷◌, ◌++◌, map}
use Rattle.std.specs.Prelude.{filter}
use Rattle.std.specs.List.{flat_map, list_all}
use Rattle.std.proofs.lemmas.Bool.{true≢false}
use Rattle.jh_form.specs.Tree.{FormulaTree, ValueTree}
use Rattle.jh_form.specs.Meaning.{Interp, InUniverse}
use Rattle.jh_boxed_operations.specs.comparison.Unmarked.{unmarked_formula}
use Rattle.jh_query.specs.declared.queries.sizes.Spot.{Spot}
use Rattle.jh_query.specs.queries.Named.{IsRenamed, IsWellFormed, moved_to}
use Rattle.jh_query.specs.queries.Sizing.{Sizing}
use Rattle.jh_query.specs.queries.Tree.{QueryTree}
use Rattle.jh_query.specs.queries.Truth.{Fits, holds, query_true}
use Rattle.jh_derivation_rules.specs.jh_seq.sequent.Sequents.{HypTree, AllTrue}
use Rattle.jh_derivation_rules.specs.Closes.{AllHold}
use Rattle.jh_derivation_rules.proofs.Unmarkings.{truth-unmarked}
use Rattle.jh_approx.specs.definition.Shown.{shown}
use Rattle.jh_approx.specs.definition.Names.{NameLists, names, listed}
use Rattle.jh_approx.specs.definition.Links.{is_kept}
use Rattle.jh_approx.specs.definition.Told.{told}
use Rattle.jh_approx.specs.definition.Listed.{listed_in}
use Rattle.jh_approx.specs.definition.Plain.{is_plain_formula, kept_hyps}
use Rattle.jh_approx.specs.definition.Regions.{unlabelled, kept_facts, query_over, query_from, bapa_of}
use Rattle.jh_approx.specs.definition.Laws.{RefutedIsFalse}
use Rattle.jh_approx.proofs.definition.Counted.{counted, spots}
use Rattle.jh_approx.proofs.definition.Counts.{first, second}
use Rattle.jh_approx.proofs.definition.Listings.{AreGood, listed-good, listed-inside, counted-is, renamed}
use Rattle.jh_approx.proofs.definition.Places.{ArePlaced, left, right, listed-placed}
use Rattle.jh_approx.proofs.definition.PlainNames.{ArePlain, names-plain, plain-append, plain-sayable, shown-plain}
use Rattle.jh_approx.proofs.definition.Polarities.{sayable-same, shown-told}
use Rattle.jh_approx.proofs.definition.Rooms.{queries-well-formed}
use Rattle.jh_approx.proofs.definition.Tellings.{holds-told}
use Rattle.jh_approx.proofs.definition.Validity.{AllTold, fact_shown, facts-told}

-- the truth of a query hangs on which classes are equal, not on their numbers
abbrev pub ClassesAreNames : Type 0
ClassesAreNames = (q : QueryTree) (z : Sizing) (u : List Spot) → IsWellFormed q → Fits q z → IsRenamed z.spots u → query_true q z ≡ query_true q (moved_to z u)

both-parts : (p q : Bool) → (not p || q) ≡ false → (p ≡ true) × (q ≡ false)
both-parts true q h = (refl, h)
both-parts false q h = absurd (true≢false h)

facts-true : (m : Interp) (n : NameLists) (inside : InUniverse m) (fs : List FormulaTree) → AllTold fs → ArePlaced n (flat_map names fs) → list_all (holds (counted m n)) (map (told n) fs) ≡ true → AllHold m fs
facts-true m n inside [] said k h = tt
facts-true m n inside (a ∷ fs) said k h = (
  sym (holds-told m n inside a said.0 (left n (names a) (flat_map names fs) k)) ∙ first (holds (counted m n) (told n a)) (list_all (holds (counted m n)) (map (told n) fs)) h,
  facts-true m n inside fs said.1 (right n (names a) (flat_map names fs) k) (second (holds (counted m n) (told n a)) (list_all (holds (counted m n)) (map (told n) fs)) h),
)

abbrev plain_hyp : HypTree → Bool
plain_hyp h = is_plain_formula h.fact

kept-true : (m : Interp) (hs : List HypTree) → list_all plain_hyp hs ≡ true → AllHold m (map fact_shown hs) → AllTrue hs m
kept-true m [] p k = tt
kept-true m (h ∷ hs) p k =
    (sym (sayable-same m h.fact false (plain-sayable h.fact (first (plain_hyp h) (list_all plain_hyp hs) p))) ∙ k.0, kept-true m hs (second (plain_hyp h) (list_all plain_hyp hs) p) k.1)

facts-plain : (hs : List HypTree) → list_all plain_hyp hs ≡ true → ArePlain (flat_map names (map fact_shown hs))
facts-plain [] p = refl
facts-plain (h ∷ hs) p =
    plain-append (names (fact_shown h)) (flat_map names (map fact_shown hs)) (names-plain (fact_shown h) (shown-plain h.fact false (first (plain_hyp h) (list_all plain_hyp hs) p)))
    (facts-plain hs (second (plain_hyp h) (list_all plain_hyp hs) p))

abbrev bare : HypTree → HypTree
bare h = record { name = h.name; fact = unmarked_formula h.fact }

chosen-true : (m : Interp) (b : Bool) (h : HypTree) (hs : List HypTree) → b ≡ true → AllTrue (if b then h ∷ hs else hs) m → AllTrue (h ∷ hs) m
chosen-true m true h hs e k = k
chosen-true m false h hs e k = absurd (true≢false (sym e))

-- where all hypotheses are kept, they are true with their labels
whole-true : (m : Interp) (p : HypTree → Bool) (hs : List HypTree) → list_all p (map bare hs) ≡ true → AllTrue (filter p (map bare hs)) m → AllTrue hs m
whole-true m p [] all k = tt
whole-true m p (h ∷ hs) all k =
    let parts = chosen-true m (p (bare h)) (bare h) (filter p (map bare hs)) (first (p (bare h)) (list_all p (map bare hs)) all) k in
    (sym (truth-unmarked h.fact m []) ∙ parts.0, whole-true m p hs (second (p (bare h)) (list_all p (map bare hs)) all) parts.1)

pub refuted-false : ClassesAreNames → RefutedIsFalse
unfolding bapa_of kept_facts query_from query_over unlabelled
refuted-false law s z plain fits refuted =
    let hs : List HypTree = kept_hyps s in
    let facts : List FormulaTree = map fact_shown hs in
    let goal : FormulaTree = shown (unmarked_formula s.goal) true in
    let vs : List ValueTree = flat_map names facts ++ names goal in
    let n : NameLists = listed vs in
    let hyps_plain : list_all plain_hyp hs ≡ true = first (list_all plain_hyp hs) (is_plain_formula (unmarked_formula s.goal)) plain in
    let goal_plain : is_plain_formula (unmarked_formula s.goal) ≡ true = second (list_all plain_hyp hs) (is_plain_formula (unmarked_formula s.goal)) plain in
    let good : AreGood n = listed-good vs (plain-append (flat_map names facts) (names goal) (facts-plain hs hyps_plain) (names-plain goal (shown-plain (unmarked_formula s.goal) true goal_plain))) in
    let m : Interp = listed_in s z in
    let inside : InUniverse m = listed-inside n z good (bapa_of s) fits refl refl refl refl in
    let placed : ArePlaced n vs = listed-placed vs in
    let same : query_true (bapa_of s) (counted m n) ≡ false =
    ap (query_true (bapa_of s)) (counted-is n z good (bapa_of s) fits refl refl refl refl)
    ∙ sym (law (bapa_of s) z (spots m n) (queries-well-formed s) fits (renamed n z good (bapa_of s) fits refl refl refl refl))
    ∙ refuted in
    let parts = both-parts (list_all (holds (counted m n)) (map (told n) facts)) (holds (counted m n) (told n goal)) same in
    let kept : AllTrue hs m = kept-true m hs hyps_plain (facts-true m n inside facts (facts-told hs) (left n (flat_map names facts) (names goal) placed) parts.0) in
    record {
      inside = inside;
      kept = kept;
      goal =
          sym (truth-unmarked s.goal m [])
          ∙ sym (sayable-same m (unmarked_formula s.goal) true (plain-sayable (unmarked_formula s.goal) goal_plain))
          ∙ sym (holds-told m n inside goal (shown-told (unmarked_formula s.goal) true) (right n (flat_map names facts) (names goal) placed))
          ∙ parts.1;
      whole = λ all. whole-true m (is_kept (unlabelled s)) s.hyps all kept;
    }
