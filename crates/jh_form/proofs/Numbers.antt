-- A number divides another exactly where some whole number times it is the other.
use Rattle.std.proofs.Common.{◌≡◌, sym, ap, ◌∙◌, ℕ, zero, suc, ◌+◌, ◌*◌, ◌/◌, ◌%◌, true, ℤ, pos, negsuc, ◌*ℤ◌, neg_ℤ, unsigned_abs, arith}
use Rattle.std.proofs.Math.Nat.{div-add-mod, mul-mod_right}
use Rattle.std.proofs.Math.IntN.{pos-*ℤ-pos, pos-*ℤ-negsuc, negsuc-*ℤ-pos, negsuc-*ℤ-negsuc}
use Rattle.std.proofs.lemmas.Int.{unsigned_abs-mul}
use Rattle.std.proofs.lemmas.Bool.{eqb-true, eq-eqb}
use Rattle.jh_form.specs.Meaning.{divides_number}

no_rest : (p r z : ℕ) → p + r ≡ z → r ≡ 0 → p ≡ z
no_rest p r z e h = omega arith

exact : (k z : ℕ) → z % k ≡ 0 → k * (z / k) ≡ z
exact k z h = no_rest (k * (z / k)) (z % k) z (div-add-mod z k) h

below_nought : (a b q : ℕ) → a * q ≡ suc b → (w : ℤ) × (pos a *ℤ w ≡ negsuc b)
below_nought a b zero e = absurd (omega arith)
below_nought a b (suc n) e = (negsuc n, pos-*ℤ-negsuc a n ∙ ap (λ x. neg_ℤ (pos x)) e)

both_below : (a b q : ℕ) → suc a * q ≡ b → (w : ℤ) × (negsuc a *ℤ w ≡ pos b)
both_below a b zero e =
    let none : suc a * zero ≡ 0 = omega arith in
    (pos 0, negsuc-*ℤ-pos a 0 ∙ ap (λ x. neg_ℤ (pos x)) none ∙ ap pos (sym none ∙ e))
both_below a b (suc n) e = (negsuc n, negsuc-*ℤ-negsuc a n ∙ ap pos e)

pub some_factor : (k z : ℤ) → divides_number k z ≡ true → (w : ℤ) × (k *ℤ w ≡ z)
some_factor (pos a) (pos b) h = (pos (b / a), pos-*ℤ-pos a (b / a) ∙ ap pos (exact a b (eqb-true (b % a) 0 h)))
some_factor (pos a) (negsuc b) h = below_nought a b (suc b / a) (exact a (suc b) (eqb-true (suc b % a) 0 h))
some_factor (negsuc a) (pos b) h = both_below a b (b / suc a) (exact (suc a) b (eqb-true (b % suc a) 0 h))
some_factor (negsuc a) (negsuc b) h =
    (pos (suc b / suc a), negsuc-*ℤ-pos a (suc b / suc a) ∙ ap (λ x. neg_ℤ (pos x)) (exact (suc a) (suc b) (eqb-true (suc b % suc a) 0 h)))

pub factor_divides : (k z w : ℤ) → k *ℤ w ≡ z → divides_number k z ≡ true
factor_divides k z w e =
    eq-eqb (unsigned_abs z % unsigned_abs k) 0
    (ap (λ y. unsigned_abs y % unsigned_abs k) (sym e) ∙ ap (λ y. y % unsigned_abs k) (unsigned_abs-mul k w) ∙ mul-mod_right (unsigned_abs k) (unsigned_abs w))
