-- The negation normal form means what the formula means, and has its names.
use Rattle.std.proofs.Common.{◌≡◌, refl, sym, ap, ◌∙◌, ℕ, zero, suc, Bool, true, false, not, ◌&&◌, ◌||◌, List, ◌∷◌}
use Rattle.jh_form.specs.Tree.{FormulaTree}
use Rattle.jh_form.specs.Tree as t
use Rattle.jh_name.specs.declared.naming.Name.{Name}
use Rattle.jh_name.specs.declared.place.Sort as place
use Rattle.jh_form.specs.Passing.{formula_passes}
use Rattle.jh_form.proofs.ClosedLemmas.{both-left, both-right}
use Rattle.jh_form.specs.Meaning.{Interp, all_below, any_below, every, some, agree, truth}
use Rattle.jh_normal_forms.specs.negation_normal_form.Normal.{normal, signed}

not-not : (p : Bool) → not (not p) ≡ p
not-not true = refl
not-not false = refl

signed-not : (s p : Bool) → signed (not s) p ≡ signed s (not p)
signed-not true p = refl
signed-not false p = sym (not-not p)

not-and : (p q : Bool) → (not p || not q) ≡ not (p && q)
not-and true q = refl
not-and false q = refl

not-or : (p q : Bool) → (not p && not q) ≡ not (p || q)
not-or true q = refl
not-or false q = refl

not-implies : (p q : Bool) → (p && not q) ≡ not (not p || q)
not-implies true q = refl
not-implies false q = refl

open-agree : (p q : Bool) → ((not p || q) && (not q || p)) ≡ agree p q
open-agree true true = refl
open-agree true false = refl
open-agree false true = refl
open-agree false false = refl

not-agree : (p q : Bool) → ((p || q) && (not p || not q)) ≡ not (agree p q)
not-agree true true = refl
not-agree true false = refl
not-agree false true = refl
not-agree false false = refl

not-all : (n : ℕ) (f : ℕ → Bool) → any_below n (λ x. not (f x)) ≡ not (all_below n f)
not-all zero f = refl
not-all (suc n) f = ap (λ b. b || not (f n)) (not-all n f) ∙ not-and (all_below n f) (f n)

not-any : (n : ℕ) (f : ℕ → Bool) → all_below n (λ x. not (f x)) ≡ not (any_below n f)
not-any zero f = refl
not-any (suc n) f = ap (λ b. b && not (f n)) (not-any n f) ∙ not-or (any_below n f) (f n)

pub truth-normal : (a : FormulaTree) (s : Bool) (m : Interp) (e : List ℕ) → truth (normal a s) m e ≡ signed s (truth a m e)
unfolding normal
truth-normal (t.negation a) s m e = truth-normal a (not s) m e ∙ signed-not s (truth a m e)
truth-normal (t.and a b) true m e = λ i. truth-normal a true m e i && truth-normal b true m e i
truth-normal (t.and a b) false m e = (λ i. truth-normal a false m e i || truth-normal b false m e i) ∙ not-and (truth a m e) (truth b m e)
truth-normal (t.or a b) true m e = λ i. truth-normal a true m e i || truth-normal b true m e i
truth-normal (t.or a b) false m e = (λ i. truth-normal a false m e i && truth-normal b false m e i) ∙ not-or (truth a m e) (truth b m e)
truth-normal (t.implies a b) true m e = λ i. truth-normal a false m e i || truth-normal b true m e i
truth-normal (t.implies a b) false m e = (λ i. truth-normal a true m e i && truth-normal b false m e i) ∙ not-implies (truth a m e) (truth b m e)
truth-normal (t.iff a b) true m e =
    (λ i. (truth-normal a false m e i || truth-normal b true m e i) && (truth-normal b false m e i || truth-normal a true m e i)) ∙ open-agree (truth a m e) (truth b m e)
truth-normal (t.iff a b) false m e =
    (λ i. (truth-normal a true m e i || truth-normal b true m e i) && (truth-normal a false m e i || truth-normal b false m e i)) ∙ not-agree (truth a m e) (truth b m e)
truth-normal (t.all a) true m e = λ i. every m.last (λ x. truth-normal a true m (x ∷ e) i)
truth-normal (t.all a) false m e = (λ i. some m.last (λ x. truth-normal a false m (x ∷ e) i)) ∙ not-all (suc m.last) (λ x. truth a m (x ∷ e))
truth-normal (t.ex a) true m e = λ i. some m.last (λ x. truth-normal a true m (x ∷ e) i)
truth-normal (t.ex a) false m e = (λ i. every m.last (λ x. truth-normal a false m (x ∷ e) i)) ∙ not-any (suc m.last) (λ x. truth a m (x ∷ e))
truth-normal (t.mark k a) s m e = truth-normal a s m e
truth-normal _ true m e = refl
truth-normal _ false m e = refl

module _ (p : Name → place.Sort → Bool) where
  pub normal-passes : (a : FormulaTree) (s : Bool) → formula_passes a p ≡ true → formula_passes (normal a s) p ≡ true
  unfolding normal formula_passes
  normal-passes (t.negation a) s h = normal-passes a (not s) h
  normal-passes (t.and a b) true h = λ i. normal-passes a true (both-left (formula_passes a p) (formula_passes b p) h) i && normal-passes b true (both-right (formula_passes a p) (formula_passes b p) h) i
  normal-passes (t.and a b) false h = λ i. normal-passes a false (both-left (formula_passes a p) (formula_passes b p) h) i && normal-passes b false (both-right (formula_passes a p) (formula_passes b p) h) i
  normal-passes (t.or a b) true h = λ i. normal-passes a true (both-left (formula_passes a p) (formula_passes b p) h) i && normal-passes b true (both-right (formula_passes a p) (formula_passes b p) h) i
  normal-passes (t.or a b) false h = λ i. normal-passes a false (both-left (formula_passes a p) (formula_passes b p) h) i && normal-passes b false (both-right (formula_passes a p) (formula_passes b p) h) i
  normal-passes (t.implies a b) true h = λ i. normal-passes a false (both-left (formula_passes a p) (formula_passes b p) h) i && normal-passes b true (both-right (formula_passes a p) (formula_passes b p) h) i
  normal-passes (t.implies a b) false h = λ i. normal-passes a true (both-left (formula_passes a p) (formula_passes b p) h) i && normal-passes b false (both-right (formula_passes a p) (formula_passes b p) h) i
  normal-passes (t.iff a b) true h =
      let pa = both-left (formula_passes a p) (formula_passes b p) h in
      let pb = both-right (formula_passes a p) (formula_passes b p) h in
      λ i. (normal-passes a false pa i && normal-passes b true pb i) && (normal-passes b false pb i && normal-passes a true pa i)
  normal-passes (t.iff a b) false h =
      let pa = both-left (formula_passes a p) (formula_passes b p) h in
      let pb = both-right (formula_passes a p) (formula_passes b p) h in
      λ i. (normal-passes a true pa i && normal-passes b true pb i) && (normal-passes a false pa i && normal-passes b false pb i)
  normal-passes (t.all a) true h = normal-passes a true h
  normal-passes (t.all a) false h = normal-passes a false h
  normal-passes (t.ex a) true h = normal-passes a true h
  normal-passes (t.ex a) false h = normal-passes a false h
  normal-passes (t.mark k a) s h = normal-passes a s h
  normal-passes a true h = h
  normal-passes a false h = h
