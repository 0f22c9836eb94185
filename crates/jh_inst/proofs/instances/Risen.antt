-- A body under more binders means what it did without the objects of those.
use Rattle.std.proofs.Common.{◌≡◌, refl, ap, ◌∙◌, ℕ, zero, suc, ◌+◌, ◌<◌, ◌≤◌, nat_lt, arith, length, drop, Bool, true, false, if◌then◌else◌, List, [], ◌∷◌, slice_index, add-one}
use Rattle.std.proofs.lemmas.Bool.{ltb-true, ltb-false}
use Rattle.jh_name.specs.declared.naming.Name.{Name}
use Rattle.jh_name.specs.declared.place.Sort as place
use Rattle.jh_form.specs.Tree.{FormulaTree}
use Rattle.jh_form.specs.Tree as t
use Rattle.jh_form.specs.Passing.{term_passes, int_passes, set_passes, field_passes, formula_passes}
use Rattle.jh_form.specs.Meaning.{Interp, truth, term_value}
use Rattle.jh_boxed.specs.Kept.{Keeps}
use Rattle.jh_boxed.proofs.Meanings.{truth-mapped}
use Rattle.jh_normal_forms.specs.jh_substitution.simultaneous.Lifted.{lifting}
use Rattle.jh_inst.specs.instances.Prenex.{under_more}
use Rattle.jh_inst.proofs.instances.Passings.{Passing, formula-passing}

-- the objects e without so many behind the first d
abbrev pub without : ℕ → ℕ → List ℕ → List ℕ
without by zero e = drop by e
without by (suc d) [] = []
without by (suc d) (x ∷ e) = x ∷ without by d e

under : (by d : ℕ) (e : List ℕ) (x : ℕ) → without by (d + 1) (x ∷ e) ≡ x ∷ without by d e
under by d e x = ap (λ n. without by n (x ∷ e)) (add-one d)

drop-at : (by k : ℕ) (e : List ℕ) → slice_index e (k + by) ≡ slice_index (drop by e) k
drop-at zero k e = let same : k + zero ≡ k = omega arith in ap (slice_index e) same
drop-at (suc by) k [] = refl
drop-at (suc by) k (x ∷ e) = let same : k + suc by ≡ suc (k + by) = omega arith in ap (slice_index (x ∷ e)) same ∙ drop-at by k e

below : (by k d : ℕ) (e : List ℕ) → k < d → d ≤ length e → slice_index e k ≡ slice_index (without by d e) k
below by k zero e h f = absurd (omega arith)
below by k (suc d) [] h f = absurd (omega arith)
below by zero (suc d) (x ∷ e) h f = refl
below by (suc k) (suc d) (x ∷ e) h f = below by k d e (omega arith) (omega arith)

beyond : (by k d : ℕ) (e : List ℕ) → d ≤ k → d ≤ length e → slice_index e (k + by) ≡ slice_index (without by d e) k
beyond by k zero e le f = drop-at by k e
beyond by k (suc d) [] le f = absurd (omega arith)
beyond by zero (suc d) (x ∷ e) le f = absurd (omega arith)
beyond by (suc k) (suc d) (x ∷ e) le f = let same : suc k + by ≡ suc (k + by) = omega arith in ap (slice_index (x ∷ e)) same ∙ beyond by k d e (omega arith) (omega arith)

risen-at : (by k d : ℕ) (m : Interp) (e : List ℕ) (b : Bool) → nat_lt k d ≡ b → d ≤ length e → term_value (if b then t.bound k else t.bound (k + by)) m e ≡ slice_index (without by d e) k
risen-at by k d m e true p f = below by k d e (ltb-true k d p) f
risen-at by k d m e false p f = beyond by k d e (ltb-false k d p) f

lifting-keeps : (by : ℕ) (m : Interp) → Keeps (lifting by) m m (without by)
lifting-keeps by m = record {
  last = refl;
  under = under by;
  object = λ x d e f. refl;
  number = λ x d e f. refl;
  truth = λ x d e f. refl;
  set = λ x d e f. refl;
  field = λ x d e f. refl;
  bound = λ k d e f. risen-at by k d m e (nat_lt k d) refl f;
}

pub truth-under : (a : FormulaTree) (d by : ℕ) (m : Interp) (e : List ℕ) → d ≤ length e → truth (under_more a d by) m e ≡ truth a m (without by d e)
truth-under a d by m e h = truth-mapped (lifting by) m m (without by) (lifting-keeps by m) a d e h

-- it has no other names
risen-passes : (by k d : ℕ) (p : Name → place.Sort → Bool) (b : Bool) → term_passes (if b then t.bound k else t.bound (k + by)) p ≡ true
unfolding term_passes
risen-passes by k d p true = refl
risen-passes by k d p false = refl

lifting-passes : (by : ℕ) (p : Name → place.Sort → Bool) → Passing (lifting by) p p
unfolding term_passes int_passes set_passes field_passes formula_passes
lifting-passes by p = record {
  object = λ x d h. h;
  number = λ x d h. h;
  truth = λ x d h. h;
  set = λ x d h. h;
  field = λ x d h. h;
  bound = λ k d. risen-passes by k d p (nat_lt k d);
}

pub under-passes : (a : FormulaTree) (d by : ℕ) (p : Name → place.Sort → Bool) → formula_passes a p ≡ true → formula_passes (under_more a d by) p ≡ true
under-passes a d by p h = formula-passing (lifting by) p p (lifting-passes by p) a d h
