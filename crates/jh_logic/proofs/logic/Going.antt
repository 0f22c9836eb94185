-- How runs that stop by no fault are put together.
use Rattle.std.proofs.Common.{◌≡◌, refl, sym, subst, ℕ, zero, suc, Bool, true, false, if◌then◌else◌, List, [], ◌∷◌, Option}
use Rattle.jh_name.specs.declared.place.Place.{Place}
use Rattle.jh_form.specs.Meaning.{Datum, truth}
use Rattle.jh_semantics.specs.Code.{Claim}
use Rattle.jh_semantics.specs.State.{shown}
use Rattle.jh_semantics.specs.Values.{Value, value, null_at}
use Rattle.jh_semantics.specs.Objects.{is_free, pick}
use Rattle.jh_semantics.specs.Progress.{Configuration, Progress, goes_on, returns, stops, assert_failed, no_object, then_run, pay, pay_from, with_value, choose}
use Rattle.jh_semantics.specs.Execution.{asked}
use Rattle.jh_semantics.proofs.Keeping.{Ends}
use Rattle.jh_guard.proofs.Checking.{Has}
use Rattle.jh_logic.specs.logic.Sure.{Sure}

module _ (P : Configuration → Type 0) (R : Configuration → Option Datum → Type 0) where
  pub sure-pay : (r : Configuration) (next : Configuration → Progress) → ((k : ℕ) → suc k ≡ r.steps → Sure P R (next (record r { steps = k }))) → Sure P R (pay r next)
  sure-pay r next h = from r.steps refl
    where
      from : (k : ℕ) → k ≡ r.steps → Sure P R (pay_from k r next)
      from zero e = tt
      from (suc k) e = h k e

  pub sure-value : {X : Type 0} (v : Value X) (x : X) (next : X → Progress) → Has v x → Sure P R (next x) → Sure P R (with_value v next)
  sure-value (value y) x next h k = subst (λ z. Sure P R (next z)) (sym h) k
  sure-value (null_at q) x next h k = absurd h

  pub sure-then : (Q : Configuration → Type 0) (x : Progress) (next : Configuration → Progress) → Sure Q R x → ((r : Configuration) → Q r → Sure P R (next r)) → Sure P R (then_run x next)
  sure-then Q (goes_on r) next h k = k r h
  sure-then Q (returns r v) next h k = h
  sure-then Q (stops why) next h k = h

  pub sure-map : (Q : Configuration → Type 0) (S : Configuration → Option Datum → Type 0) (x : Progress) → ((r : Configuration) → Q r → P r) → ((r : Configuration) (v : Option Datum) → S r v → R r v) → Sure Q S x → Sure P R x
  sure-map Q S (goes_on r) f g h = f r h
  sure-map Q S (returns r v) f g h = g r v h
  sure-map Q S (stops why) f g h = h

  -- with what holds of a run that may stop by a fault
  pub sure-both : (Q : Configuration → Type 0) (S : Configuration → Option Datum → Type 0) (x : Progress) → Sure P R x → Ends Q S x → Sure (λ r. P r × Q r) (λ r v. R r v × S r v) x
  sure-both Q S (goes_on r) h k = (h, k)
  sure-both Q S (returns r v) h k = (h, k)
  sure-both Q S (stops why) h k = h

  pub sure-choose : (b : Bool) (f g : Configuration → Progress) (r : Configuration) → (b ≡ true → Sure P R (f r)) → (b ≡ false → Sure P R (g r)) → Sure P R (choose b f g r)
  sure-choose true f g r h k = h refl
  sure-choose false f g r h k = k refl

  pub sure-asked : (claim : Claim) (r : Configuration) → truth claim.formula (shown r.now r.entry) [] ≡ true → P r → Sure P R (asked claim r)
  sure-asked claim r h k = subst (λ (b : Bool). Sure P R (if b then goes_on r else stops (assert_failed claim.place))) (sym h) k

  pub sure-pick : (p : Place) (picks : List ℕ) (r : Configuration) (next : ℕ → Configuration → Progress) →
      ((a : ℕ) (rest : List ℕ) → is_free r.now a ≡ true → Sure P R (next a (record r { picks = rest }))) → Sure P R (pick p picks r next)
  sure-pick p [] r next h = tt
  sure-pick p (a ∷ rest) r next h = at (is_free r.now a) refl
    where
      at : (b : Bool) → is_free r.now a ≡ b → Sure P R (if b then next a (record r { picks = rest }) else stops (no_object p))
      at true e = h a rest e
      at false e = tt
