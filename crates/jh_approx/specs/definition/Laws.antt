-- What the query of a sequent is for.
use Rattle.std.specs.Prelude.{◌≡◌, ◌⊎◌, Bool, true, false, List, [], ◌∷◌, filter}
use Rattle.std.specs.List.{list_all}
use Rattle.jh_form.specs.Tree.{ValueTree, FormulaTree}
use Rattle.jh_query.specs.queries.Named.{IsWellFormed}
use Rattle.jh_query.specs.queries.Truth.{Fits, IsTrueQuery, query_true}
use Rattle.jh_query.specs.queries.Sizing.{Sizing}
use Rattle.jh_form.specs.Meaning.{Interp, InUniverse, truth}
use Rattle.jh_derivation_rules.specs.jh_seq.sequent.Sequents.{HypTree, SequentTree, AllTrue, IsValid}
use Rattle.jh_approx.specs.definition.Links.{goal_names, is_linking, fact_links, shares, is_linked, is_kept}
use Rattle.jh_approx.specs.definition.Listed.{listed_in}
use Rattle.jh_approx.specs.definition.Plain.{is_plain, kept_hyps}
use Rattle.jh_approx.specs.definition.Regions.{bapa_of, unlabelled}

-- A sequent is valid where its query is true under all sizes that fit it.
abbrev pub TrueQueryIsValid : Type 0
TrueQueryIsValid = (s : SequentTree) → IsTrueQuery (bapa_of s) → IsValid s

-- The query of a sequent names only its own sets, elements, numbers and flags, has null for element 0, and divides by 1 or more.
abbrev pub QueriesAreWellFormed : Type 0
QueriesAreWellFormed = (s : SequentTree) → IsWellFormed (bapa_of s)

-- a hypothesis of a list
abbrev pub IsHyp : HypTree → List HypTree → Type 0
IsHyp h [] = ⊥
IsHyp h (k ∷ hs) = (k ≡ h) ⊎ IsHyp h hs

-- the names of the goal by which hypotheses are linked
abbrev pub goal_links : SequentTree → List ValueTree
goal_links s = filter (is_linking s) (goal_names s)

-- A fact is linked where it shares a linking name with the goal, or with a hypothesis that is linked, and only there: it passes
-- each test that all facts pass which share a name with the goal, or with a hypothesis that passes.
pub record LinksRight (s : SequentTree) : Type 0 where
  pub by_goal : (a : FormulaTree) → shares (fact_links s a) (goal_links s) ≡ true → is_linked s a ≡ true
  pub by_linked : (h : HypTree) (a : FormulaTree) → IsHyp h s.hyps → is_linked s h.fact ≡ true → shares (fact_links s a) (fact_links s h.fact) ≡ true → is_linked s a ≡ true
  pub by_nothing_else : (p : FormulaTree → Bool) →
      ((a : FormulaTree) → shares (fact_links s a) (goal_links s) ≡ true → p a ≡ true) →
      ((h : HypTree) (a : FormulaTree) → IsHyp h s.hyps → p h.fact ≡ true → shares (fact_links s a) (fact_links s h.fact) ≡ true → p a ≡ true) →
      (a : FormulaTree) → is_linked s a ≡ true → p a ≡ true

abbrev pub LinkedIsLeast : Type 0
LinkedIsLeast = (s : SequentTree) → LinksRight s

-- Sizes that refute the query of a plain sequent list an interpretation in which the hypotheses that are kept are true and the goal
-- is false. Where all are kept, the sequent isn't valid.
pub record IsFalseIn (s : SequentTree) (m : Interp) : Type 0 where
  pub inside : InUniverse m
  pub kept : AllTrue (kept_hyps s) m
  pub goal : truth s.goal m [] ≡ false
  pub whole : list_all (is_kept (unlabelled s)) (unlabelled s).hyps ≡ true → AllTrue s.hyps m

abbrev pub RefutedIsFalse : Type 0
RefutedIsFalse = (s : SequentTree) (z : Sizing) → is_plain s ≡ true → Fits (bapa_of s) z → query_true (bapa_of s) z ≡ false → IsFalseIn s (listed_in s z)
