-- Formulas behind binders that have constants.
use Rattle.std.proofs.Common.{◌≡◌, refl, ap, ◌∙◌, ℕ, zero, suc, ◌+◌, ◌-◌, ◌<◌, ◌≤◌, nat_lt, arith, length, Bool, true, false, if◌then◌else◌, List, [], ◌∷◌, slice_index, add-one}
use Rattle.std.proofs.lemmas.Bool.{ltb-true, ltb-false}
use Rattle.jh_name.specs.declared.naming.Name.{Name}
use Rattle.jh_form.specs.Tree.{FormulaTree}
use Rattle.jh_form.specs.Tree as t
use Rattle.jh_form.specs.Meaning.{Interp, truth, term_value}
use Rattle.jh_boxed.specs.Kept.{Keeps}
use Rattle.jh_boxed.proofs.Meanings.{truth-mapped}
use Rattle.jh_seq.specs.splitting.Split.{constant_at, closing, closed_by}
use Rattle.jh_inst.proofs.instances.Agreements.{values}

abbrev pub behind : List ℕ → ℕ → List ℕ → List ℕ
behind vs zero e = vs
behind vs (suc d) [] = vs
behind vs (suc d) (x ∷ e) = x ∷ behind vs d e

pub behind-under : (vs : List ℕ) (d : ℕ) (e : List ℕ) (x : ℕ) → behind vs (d + 1) (x ∷ e) ≡ x ∷ behind vs d e
behind-under vs d e x = ap (λ n. behind vs n (x ∷ e)) (add-one d)

pub behind-below : (vs : List ℕ) (k d : ℕ) (e : List ℕ) → k < d → d ≤ length e → slice_index e k ≡ slice_index (behind vs d e) k
behind-below vs k zero e h f = absurd (omega arith)
behind-below vs k (suc d) [] h f = absurd (omega arith)
behind-below vs zero (suc d) (x ∷ e) h f = refl
behind-below vs (suc k) (suc d) (x ∷ e) h f = behind-below vs k d e (omega arith) (omega arith)

pub minus-zero : (k : ℕ) → k - 0 ≡ k
minus-zero k = omega arith

pub behind-beyond : (vs : List ℕ) (k d : ℕ) (e : List ℕ) → d ≤ k → d ≤ length e → slice_index vs (k - d) ≡ slice_index (behind vs d e) k
behind-beyond vs k zero e h f = ap (slice_index vs) (minus-zero k)
behind-beyond vs k (suc d) [] h f = absurd (omega arith)
behind-beyond vs zero (suc d) (x ∷ e) h f = absurd (omega arith)
behind-beyond vs (suc k) (suc d) (x ∷ e) h f = let same : suc k - suc d ≡ k - d = omega arith in ap (slice_index vs) same ∙ behind-beyond vs k d e (omega arith) (omega arith)

pub constant-value : (ws : List Name) (i : ℕ) (m : Interp) (e : List ℕ) → term_value (constant_at ws i) m e ≡ slice_index (values m ws) i
constant-value [] i m e = refl
constant-value (w ∷ ws) zero m e = refl
constant-value (w ∷ ws) (suc i) m e = constant-value ws i m e

module _ (ws : List Name) (m : Interp) where
  bound-closing : (k d : ℕ) (e : List ℕ) (below : Bool) → nat_lt k d ≡ below → d ≤ length e → term_value (if below then t.bound k else constant_at ws (k - d)) m e ≡ slice_index (behind (values m ws) d e) k
  bound-closing k d e true p f = behind-below (values m ws) k d e (ltb-true k d p) f
  bound-closing k d e false p f = constant-value ws (k - d) m e ∙ behind-beyond (values m ws) k d e (ltb-false k d p) f

  closing-keeps : Keeps (closing ws) m m (behind (values m ws))
  closing-keeps = record {
    last = refl;
    under = behind-under (values m ws);
    object = λ x d e f. refl;
    number = λ x d e f. refl;
    truth = λ x d e f. refl;
    set = λ x d e f. refl;
    field = λ x d e f. refl;
    bound = λ k d e f. bound-closing k d e (nat_lt k d) refl f;
  }

  pub truth-closed_by : (a : FormulaTree) → truth (closed_by a ws) m [] ≡ truth a m (values m ws)
  truth-closed_by a = truth-mapped (closing ws) m m (behind (values m ws)) closing-keeps a 0 [] (omega arith)
