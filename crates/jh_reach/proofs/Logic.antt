-- Truth of connectives, binders and joined lists, as implications between facts.
use Rattle.std.proofs.Common.{◌≡◌, refl, sym, ap, ◌∙◌, ℕ, zero, suc, ◌<◌, Bool, true, false, not, ◌||◌, List, [], ◌∷◌, ◌++◌, map, slice_get, Some}
use Rattle.std.proofs.lemmas.Bool.{and_from, or_left, or_right, not-true, true≢false}
use Rattle.jh_form.specs.Tree.{FieldTree, FormulaTree}
use Rattle.jh_form.specs.Tree as t
use Rattle.jh_form.specs.Meaning.{Interp, agree, truth}
use Rattle.jh_form.proofs.ClosedLemmas.{both-left, both-right}
use Rattle.jh_arena.specs.makers.Joined.{joined}
use Rattle.jh_reach.specs.Axioms.{disjoined}
use Rattle.jh_reach.proofs.Counts.{below-all, below-any}

pub implication : (p q : Bool) → (p ≡ true → q ≡ true) → (not p || q) ≡ true
implication true q h = h refl
implication false q h = refl

pub implied : (p q : Bool) → (not p || q) ≡ true → p ≡ true → q ≡ true
implied true q h k = h
implied false q h k = absurd (true≢false (sym k))

pub negated : (p : Bool) → (p ≡ true → ⊥) → not p ≡ true
negated true h = absurd (h refl)
negated false h = refl

pub not-both : (p : Bool) → not p ≡ true → p ≡ true → ⊥
not-both p h k = true≢false (sym k ∙ not-true p h)

pub equivalence : (p q : Bool) → (p ≡ true → q ≡ true) → (q ≡ true → p ≡ true) → agree p q ≡ true
equivalence true q h k = h refl
equivalence false true h k = absurd (true≢false (sym (k refl)))
equivalence false false h k = refl

module _ (m : Interp) where
  pub all-true : (a : FormulaTree) (e : List ℕ) → ((x : ℕ) → x < suc m.last → truth a m (x ∷ e) ≡ true) → truth (t.all a) m e ≡ true
  all-true a e h = below-all (suc m.last) (λ x. truth a m (x ∷ e)) h

  pub ex-true : (a : FormulaTree) (e : List ℕ) (x : ℕ) → x < suc m.last → truth a m (x ∷ e) ≡ true → truth (t.ex a) m e ≡ true
  ex-true a e x lt h = below-any (suc m.last) x (λ x. truth a m (x ∷ e)) lt h

  pub implies-true : (a b : FormulaTree) (e : List ℕ) → (truth a m e ≡ true → truth b m e ≡ true) → truth (t.implies a b) m e ≡ true
  implies-true a b e h = implication (truth a m e) (truth b m e) h

  pub and-left : (a b : FormulaTree) (e : List ℕ) → truth (t.and a b) m e ≡ true → truth a m e ≡ true
  and-left a b e h = both-left (truth a m e) (truth b m e) h

  pub and-right : (a b : FormulaTree) (e : List ℕ) → truth (t.and a b) m e ≡ true → truth b m e ≡ true
  and-right a b e h = both-right (truth a m e) (truth b m e) h

  pub and-true : (a b : FormulaTree) (e : List ℕ) → truth a m e ≡ true → truth b m e ≡ true → truth (t.and a b) m e ≡ true
  and-true a b e h k = and_from (truth a m e) (truth b m e) h k

  pub or-first : (a b : FormulaTree) (e : List ℕ) → truth a m e ≡ true → truth (t.or a b) m e ≡ true
  or-first a b e h = or_left (truth a m e) (truth b m e) h

  pub or-second : (a b : FormulaTree) (e : List ℕ) → truth b m e ≡ true → truth (t.or a b) m e ≡ true
  or-second a b e h = or_right (truth a m e) (truth b m e) h

  -- each formula of a list is true
  unfoldable pub AllTrue : List FormulaTree → List ℕ → Type 0
  AllTrue [] e = Unit {0}
  AllTrue (a ∷ many) e = (truth a m e ≡ true) × AllTrue many e

  pub joined-true : (many : List FormulaTree) (e : List ℕ) → AllTrue many e → truth (joined many) m e ≡ true
  unfolding AllTrue
  joined-true [] e h = refl
  joined-true (a ∷ []) e h = h.0
  joined-true (a ∷ b ∷ rest) e h = and_from (truth a m e) (truth (joined (b ∷ rest)) m e) h.0 (joined-true (b ∷ rest) e h.1)

  pub true-joined : (many : List FormulaTree) (e : List ℕ) → truth (joined many) m e ≡ true → AllTrue many e
  unfolding AllTrue
  true-joined [] e h = tt
  true-joined (a ∷ []) e h = (h, tt)
  true-joined (a ∷ b ∷ rest) e h = (both-left (truth a m e) (truth (joined (b ∷ rest)) m e) h, true-joined (b ∷ rest) e (both-right (truth a m e) (truth (joined (b ∷ rest)) m e) h))

  pub all-appended : (many bs : List FormulaTree) (e : List ℕ) → AllTrue many e → AllTrue bs e → AllTrue (many ++ bs) e
  unfolding AllTrue
  all-appended [] bs e h k = k
  all-appended (a ∷ many) bs e h k = (h.0, all-appended many bs e h.1 k)

  -- what is said of each field of a list
  pub each-true : (fs : List FieldTree) (part : FieldTree → FormulaTree) (e : List ℕ) → ((i : ℕ) (f : FieldTree) → slice_get fs i ≡ Some f → truth (part f) m e ≡ true) → AllTrue (map part fs) e
  unfolding AllTrue
  each-true [] part e h = tt
  each-true (f ∷ fs) part e h = (h 0 f refl, each-true fs part e (λ i g at. h (suc i) g at))

  pub true-each : (fs : List FieldTree) (part : FieldTree → FormulaTree) (e : List ℕ) (i : ℕ) (f : FieldTree) → AllTrue (map part fs) e → slice_get fs i ≡ Some f → truth (part f) m e ≡ true
  unfolding AllTrue
  true-each [] part e i f h at = absurd (cc)
  true-each (g ∷ fs) part e zero f h at = let same : g ≡ f = cc in ap (λ z. truth (part z) m e) (sym same) ∙ h.0
  true-each (g ∷ fs) part e (suc i) f h at = true-each fs part e i f h.1 at

  pub some-true : (fs : List FieldTree) (part : FieldTree → FormulaTree) (e : List ℕ) (i : ℕ) (f : FieldTree) → slice_get fs i ≡ Some f → truth (part f) m e ≡ true → truth (disjoined (map part fs)) m e ≡ true
  some-true [] part e i f at h = absurd (cc)
  some-true (g ∷ []) part e zero f at h = let same : g ≡ f = cc in ap (λ z. truth (part z) m e) same ∙ h
  some-true (g ∷ []) part e (suc i) f at h = absurd (cc)
  some-true (g ∷ k ∷ fs) part e zero f at h =
      let same : g ≡ f = cc in or_left (truth (part g) m e) (truth (disjoined (map part (k ∷ fs))) m e) (ap (λ z. truth (part z) m e) same ∙ h)
  some-true (g ∷ k ∷ fs) part e (suc i) f at h = or_right (truth (part g) m e) (truth (disjoined (map part (k ∷ fs))) m e) (some-true (k ∷ fs) part e i f at h)
