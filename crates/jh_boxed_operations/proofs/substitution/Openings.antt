-- Opening a binder's body keeps its meaning.
use Rattle.std.proofs.Common.{◌≡◌, refl, sym, ap, ◌∙◌, ℕ, zero, suc, ◌+◌, ◌-◌, ◌<◌, ◌≤◌, ◌==◌, nat_lt, Bool, true, false, if◌then◌else◌, List, [], ◌∷◌, length, slice_index, add-one, arith}
use Rattle.std.proofs.lemmas.Bool.{ltb-true, ltb-false, eqb-true, eqb-false}
use Rattle.jh_form.specs.Tree.{TermTree, FormulaTree}
use Rattle.jh_form.specs.Tree as t
use Rattle.jh_form.specs.Closed.{is_closed_term}
use Rattle.jh_form.specs.Meaning.{Interp, truth, term_value}
use Rattle.jh_form.proofs.ClosedLemmas.{term_value-closed}
use Rattle.jh_boxed.specs.Kept.{Keeps}
use Rattle.jh_boxed.proofs.Meanings.{truth-mapped}
use Rattle.jh_boxed_operations.specs.substitution.Opened.{opened, opening}

-- e with v behind its first d objects
abbrev pub inserted : ℕ → ℕ → List ℕ → List ℕ
inserted v zero e = v ∷ e
inserted v (suc d) [] = v ∷ []
inserted v (suc d) (x ∷ e) = x ∷ inserted v d e

pub inserted-under : (v d : ℕ) (e : List ℕ) (x : ℕ) → inserted v (d + 1) (x ∷ e) ≡ x ∷ inserted v d e
inserted-under v d e x = ap (λ n. inserted v n (x ∷ e)) (add-one d)

pub inserted-below : (v k d : ℕ) (e : List ℕ) → k < d → d ≤ length e → slice_index e k ≡ slice_index (inserted v d e) k
inserted-below v k zero e h f = absurd (omega arith)
inserted-below v k (suc d) [] h f = absurd (omega arith)
inserted-below v zero (suc d) (x ∷ e) h f = refl
inserted-below v (suc k) (suc d) (x ∷ e) h f = inserted-below v k d e (omega arith) (omega arith)

pub inserted-at : (v d : ℕ) (e : List ℕ) → d ≤ length e → v ≡ slice_index (inserted v d e) d
inserted-at v zero e f = refl
inserted-at v (suc d) [] f = absurd (omega arith)
inserted-at v (suc d) (x ∷ e) f = inserted-at v d e (omega arith)

pub inserted-beyond : (v k d : ℕ) (e : List ℕ) → d ≤ k → d ≤ length e → slice_index e k ≡ slice_index (inserted v d e) (suc k)
inserted-beyond v k zero e h f = refl
inserted-beyond v k (suc d) [] h f = absurd (omega arith)
inserted-beyond v zero (suc d) (x ∷ e) h f = absurd (omega arith)
inserted-beyond v (suc k) (suc d) (x ∷ e) h f = inserted-beyond v k d e (omega arith) (omega arith)

module _ (w : TermTree) (closed : is_closed_term w 0 ≡ true) (m : Interp) where
  bound-opened : (k d : ℕ) (e : List ℕ) (below here : Bool) → nat_lt k d ≡ below → k == d ≡ here → d ≤ length e →
      term_value (if below then t.bound k else (if here then w else t.bound (k - 1))) m e ≡ slice_index (inserted (term_value w m []) d e) k
  bound-opened k d e true here p q f = inserted-below (term_value w m []) k d e (ltb-true k d p) f
  bound-opened k d e false true p q f =
      term_value-closed w m 0 e [] (λ j lt. absurd (omega arith)) closed
      ∙ inserted-at (term_value w m []) d e f
      ∙ ap (slice_index (inserted (term_value w m []) d e)) (sym (eqb-true k d q))
  bound-opened zero d e false false p q f = absurd (let le : d ≤ zero = ltb-false zero d p in let differs : zero ≡ d → ⊥ = eqb-false zero d q in differs (omega arith))
  bound-opened (suc k) d e false false p q f =
      let le : d ≤ suc k = ltb-false (suc k) d p in
      let differs : suc k ≡ d → ⊥ = eqb-false (suc k) d q in
      let less : suc k - 1 ≡ k = omega arith in
      ap (slice_index e) less ∙ inserted-beyond (term_value w m []) k d e (omega arith) f

  pub opening-keeps : Keeps (opening w) m m (inserted (term_value w m []))
  opening-keeps = record {
    last = refl;
    under = inserted-under (term_value w m []);
    object = λ x d e f. refl;
    number = λ x d e f. refl;
    truth = λ x d e f. refl;
    set = λ x d e f. refl;
    field = λ x d e f. refl;
    bound = λ k d e f. bound-opened k d e (nat_lt k d) (k == d) refl refl f;
  }

pub truth-opened : (a : FormulaTree) (w : TermTree) → is_closed_term w 0 ≡ true → (m : Interp) (env : List ℕ) →
    truth (opened a w) m env ≡ truth a m (term_value w m [] ∷ env)
truth-opened a w closed m env =
    truth-mapped (opening w) m m (inserted (term_value w m [])) (opening-keeps w closed m) a 0 env (omega arith)

pub ruleset open_steps = (truth-opened)
