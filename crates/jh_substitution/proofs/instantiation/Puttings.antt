-- A body with a term for its binder's variable means what the body means with the term's object.
use Rattle.std.proofs.Common.{◌≡◌, refl, sym, ap, ◌∙◌, ℕ, zero, suc, ◌-◌, ◌≤◌, ◌==◌, nat_lt, Bool, true, false, if◌then◌else◌, List, ◌∷◌, drop, length, slice_index, add-one, arith}
use Rattle.std.proofs.lemmas.Bool.{ltb-true, ltb-false, eqb-true, eqb-false}
use Rattle.jh_form.specs.Tree.{TermTree, SetTree, FormulaTree}
use Rattle.jh_form.specs.Tree as t
use Rattle.jh_form.specs.Meaning.{Datum, an_object, a_set, Interp, term_value, set_value, truth}
use Rattle.jh_boxed.specs.Kept.{Keeps}
use Rattle.jh_boxed.specs.Mapped.{mapped_term, mapped_set, mapped_value}
use Rattle.jh_boxed.proofs.Meanings.{truth-mapped}
use Rattle.jh_boxed_operations.proofs.substitution.Openings.{inserted, inserted-below, inserted-at, inserted-beyond}
use Rattle.jh_substitution.specs.simultaneous.Lifted.{lifting}
use Rattle.jh_substitution.proofs.exchange.Liftings.{raised-means}
use Rattle.jh_substitution.specs.instantiation.Putting.{putting, put}

object_in : Datum → ℕ
object_in (an_object v) = v
object_in d = 0

members_in : Datum → ℕ → Bool
members_in (a_set p) = p
members_in d = λ x. false

-- a term or a set under more binders means what it means under those around them
pub risen-term : (d : ℕ) (w : TermTree) (m : Interp) (e : List ℕ) → term_value (mapped_term w (lifting d) 0) m e ≡ term_value w m (drop d e)
unfolding mapped_value object_in
risen-term d w m e = ap object_in (raised-means d (t.of_object w) m e)

pub risen-set : (d : ℕ) (a : SetTree) (m : Interp) (e : List ℕ) → set_value (mapped_set a (lifting d) 0) m e ≡ set_value a m (drop d e)
unfolding mapped_value members_in
risen-set d a m e = ap members_in (raised-means d (t.of_set a) m e)

module _ (w : TermTree) (m : Interp) where
  -- the objects before the term was put: its own is behind those of the binders that were passed
  abbrev with_term : ℕ → List ℕ → List ℕ
  with_term d e = inserted (term_value w m (drop d e)) d e

  bound-put : (k d : ℕ) (e : List ℕ) (below here : Bool) → nat_lt k d ≡ below → k == d ≡ here → d ≤ length e →
      term_value (if below then t.bound k else (if here then mapped_term w (lifting d) 0 else t.bound (k - 1))) m e ≡ slice_index (with_term d e) k
  bound-put k d e true here p q f = inserted-below (term_value w m (drop d e)) k d e (ltb-true k d p) f
  bound-put k d e false true p q f =
      risen-term d w m e ∙ inserted-at (term_value w m (drop d e)) d e f ∙ ap (slice_index (with_term d e)) (sym (eqb-true k d q))
  bound-put zero d e false false p q f = absurd (let le : d ≤ zero = ltb-false zero d p in let differs : zero ≡ d → ⊥ = eqb-false zero d q in differs (omega arith))
  bound-put (suc k) d e false false p q f =
      let le : d ≤ suc k = ltb-false (suc k) d p in
      let differs : suc k ≡ d → ⊥ = eqb-false (suc k) d q in
      let less : suc k - 1 ≡ k = omega arith in
      ap (slice_index e) less ∙ inserted-beyond (term_value w m (drop d e)) k d e (omega arith) f

  putting-keeps : Keeps (putting w) m m with_term
  putting-keeps = record {
    last = refl;
    under = λ d e x. ap (λ n. with_term n (x ∷ e)) (add-one d);
    object = λ x d e f. refl;
    number = λ x d e f. refl;
    truth = λ x d e f. refl;
    set = λ x d e f. refl;
    field = λ x d e f. refl;
    bound = λ k d e f. bound-put k d e (nat_lt k d) (k == d) refl refl f;
  }

  pub put-means : (a : FormulaTree) (e : List ℕ) → truth (put a w) m e ≡ truth a m (term_value w m e ∷ e)
  put-means a e = truth-mapped (putting w) m m with_term putting-keeps a 0 e (omega arith)
