-- Loose bound variables that rise: what a value means whose variables did.
use Rattle.std.proofs.Common.{◌≡◌, refl, ap, ◌∙◌, ℕ, zero, suc, ◌+◌, ◌<◌, ◌≤◌, nat_lt, Bool, true, false, if◌then◌else◌, List, [], ◌∷◌, drop, length, slice_index, add-one, arith}
use Rattle.std.proofs.lemmas.Bool.{ltb-true, ltb-false}
use Rattle.jh_form.specs.Tree.{ValueTree, FormulaTree}
use Rattle.jh_form.specs.Tree as t
use Rattle.jh_form.specs.Meaning.{Interp, term_value, datum, truth}
use Rattle.jh_boxed.specs.Kept.{Keeps}
use Rattle.jh_boxed.specs.Mapped.{mapped_formula}
use Rattle.jh_boxed.proofs.Meanings.{datum-mapped, truth-mapped}
use Rattle.jh_substitution.specs.simultaneous.Lifted.{lifting}
use Rattle.jh_substitution.specs.exchange.Under.{raised}

-- the objects without those behind the first d
abbrev removed : ℕ → ℕ → List ℕ → List ℕ
removed by zero e = drop by e
removed by (suc d) [] = []
removed by (suc d) (x ∷ e) = x ∷ removed by d e

dropped : (by k : ℕ) (e : List ℕ) → slice_index e (k + by) ≡ slice_index (drop by e) k
dropped zero k e = let same : k + zero ≡ k = omega arith in ap (slice_index e) same
dropped (suc by) k [] = refl
dropped (suc by) k (x ∷ e) = let same : k + suc by ≡ suc (k + by) = omega arith in ap (slice_index (x ∷ e)) same ∙ dropped by k e

removed-below : (by k d : ℕ) (e : List ℕ) → k < d → d ≤ length e → slice_index e k ≡ slice_index (removed by d e) k
removed-below by k zero e h f = absurd (omega arith)
removed-below by k (suc d) [] h f = absurd (omega arith)
removed-below by zero (suc d) (x ∷ e) h f = refl
removed-below by (suc k) (suc d) (x ∷ e) h f = removed-below by k d e (omega arith) (omega arith)

removed-beyond : (by k d : ℕ) (e : List ℕ) → d ≤ k → d ≤ length e → slice_index e (k + by) ≡ slice_index (removed by d e) k
removed-beyond by k zero e le f = dropped by k e
removed-beyond by k (suc d) [] le f = absurd (omega arith)
removed-beyond by zero (suc d) (x ∷ e) le f = absurd (omega arith)
removed-beyond by (suc k) (suc d) (x ∷ e) le f = let same : suc k + by ≡ suc (k + by) = omega arith in ap (slice_index (x ∷ e)) same ∙ removed-beyond by k d e (omega arith) (omega arith)

bound-risen : (by k d : ℕ) (m : Interp) (e : List ℕ) (below : Bool) → nat_lt k d ≡ below → d ≤ length e → slice_index e (if below then k else k + by) ≡ slice_index (removed by d e) k
bound-risen by k d m e true p f = removed-below by k d e (ltb-true k d p) f
bound-risen by k d m e false p f = removed-beyond by k d e (ltb-false k d p) f

lifting-keeps : (by : ℕ) (m : Interp) → Keeps (lifting by) m m (removed by)
lifting-keeps by m = record {
  last = refl;
  under = λ d e x. ap (λ n. removed by n (x ∷ e)) (add-one d);
  object = λ x d e f. refl;
  number = λ x d e f. refl;
  truth = λ x d e f. refl;
  set = λ x d e f. refl;
  field = λ x d e f. refl;
  bound = λ k d e f. chosen k d e (nat_lt k d) refl f;
}
  where
    chosen : (k d : ℕ) (e : List ℕ) (below : Bool) → nat_lt k d ≡ below → d ≤ length e → term_value (if below then t.bound k else t.bound (k + by)) m e ≡ slice_index (removed by d e) k
    chosen k d e true p f = bound-risen by k d m e true p f
    chosen k d e false p f = bound-risen by k d m e false p f

pub raised-means : (by : ℕ) (v : ValueTree) (m : Interp) (e : List ℕ) → datum (raised by v) m e ≡ datum v m (drop by e)
raised-means by v m e = datum-mapped (lifting by) m m (removed by) (lifting-keeps by m) v 0 e (omega arith)

pub risen-means : (by : ℕ) (a : FormulaTree) (m : Interp) (e : List ℕ) → truth (mapped_formula a (lifting by) 0) m e ≡ truth a m (drop by e)
risen-means by a m e = truth-mapped (lifting by) m m (removed by) (lifting-keeps by m) a 0 e (omega arith)
