-- A number atom has the truth of its case where its equation is true, and some case where any sizes are given.
use Rattle.std.proofs.Common.{◌≡◌, ◌≢◌, refl, ℕ, zero, suc, ◌+◌, ◌*◌, ◌-◌, ◌/◌, ◌%◌, ◌<◌, ◌≤◌, ◌==◌, Bool, true, false, not, if◌then◌else◌, List, [], ◌∷◌, length, get_or, Option, Some, None, ℤ, pos, negsuc, ◌+ℤ◌, ◌-ℤ◌, ◌*ℤ◌, neg_ℤ, int_lt, ap, sym, ◌∙◌, arith, ◌⊎◌, inl, inr}
use Rattle.std.specs.Prelude.{unsigned_abs}
use Rattle.std.specs.Ordering.{int_eq}
use Rattle.std.proofs.lemmas.Bool.{eqb-true, eq-eqb, lt-ltb, le-ltb, true≢false, cases_eq, ltb-true}
use Rattle.std.proofs.lemmas.Bool.Decides.{Decides-int_eq}
use Rattle.std.proofs.lemmas.Int.{ints}
use Rattle.std.proofs.Math.IntN.{zero-*ℤ, pos-*ℤ-pos, negsuc-*ℤ-pos}
use Rattle.std.proofs.Math.Nat.{add-mul-mod_self_left, div-add-mod, mod-lt, mod-eq_of_lt}
use Rattle.jh_form.specs.Meaning.{divides_number}
use Rattle.jh_query.specs.queries.Named.{is_divisor}
use Rattle.jh_query.specs.queries.Tree.{NumTree, CondTree}
use Rattle.jh_query.specs.queries.Tree as t
use Rattle.jh_query.specs.queries.Sizing.{Sizing}
use Rattle.jh_query.specs.queries.Truth.{holds, number_value}
use Rattle.jh_query.proofs.queries.Products.{neg-times}
use Rattle.jh_query.specs.declared.partial_truth.casing.Case.{Case}
use Rattle.jh_query.specs.declared.partial_truth.casing.Case.TheVariants.{Open, True, False, Greater, Remainder}
use Rattle.jh_query.specs.partial_truth.Judged.{case_truth}
use Rattle.jh_bapa.specs.decision.Lists.{dot}
use Rattle.jh_bapa.specs.decision.Cases.{LineMet, LineTree, Met, case_at, case_count, is_case_of, line_of}
use Rattle.jh_bapa.specs.decision.Counted.{has_divisor}
use Rattle.jh_bapa.proofs.decision.Belows.{sure}

pub some-is : (x y : Bool) → Some x ≡ Some y → x ≡ y
some-is x y e = cc

pub one_times : (n : ℕ) → pos 1 *ℤ pos n ≡ pos n
one_times n = pos-*ℤ-pos 1 n ∙ ap pos (same n)
  where
    same : (n : ℕ) → 1 * n ≡ n
    same n = omega arith

pub less_times : (n : ℕ) → negsuc 0 *ℤ pos n ≡ neg_ℤ (pos n)
less_times n = negsuc-*ℤ-pos 0 n ∙ ap (λ m. neg_ℤ (pos m)) (same n)
  where
    same : (n : ℕ) → suc 0 * n ≡ n
    same n = omega arith

equal_false : (x y : ℤ) → (x ≡ y → ⊥) → int_eq x y ≡ false
equal_false x y h = elim (sure (int_eq x y)) [
  | inl e ↦ absurd (h ((Decides-int_eq x y).0 e))
  | inr e ↦ e
]

less_true : (x y : ℤ) (w : ℕ) → (x -ℤ y) +ℤ pos w ≡ negsuc 0 → int_lt x y ≡ true
less_true (pos a) (pos b) w h = lt-ltb a b (omega (arith, ints, h))
less_true (pos a) (negsuc b) w h = absurd (omega (arith, ints, h))
less_true (negsuc a) (pos b) w h = refl
less_true (negsuc a) (negsuc b) w h = lt-ltb b a (omega (arith, ints, h))

less_false : (x y : ℤ) (w : ℕ) → (x -ℤ y) -ℤ pos w ≡ pos 0 → int_lt x y ≡ false
less_false (pos a) (pos b) w h = le-ltb a b (omega (arith, ints, h))
less_false (pos a) (negsuc b) w h = refl
less_false (negsuc a) (pos b) w h = absurd (omega (arith, ints, h))
less_false (negsuc a) (negsuc b) w h = le-ltb b a (omega (arith, ints, h))

module _ (z : Sizing) (a b : NumTree) (x : ℕ → ℕ) (k : ℕ) where
  pub equal-truth : (c : Case) (truth : Bool) → is_case_of (t.equal_num a b) c ≡ true → LineMet z (line_of (t.equal_num a b) c) x k → case_truth c ≡ Some truth → holds z (t.equal_num a b) ≡ truth
  equal-truth Open truth s h e = cc
  equal-truth True truth s h e =
      let none : pos 0 *ℤ pos (x k) ≡ pos 0 = zero-*ℤ (pos (x k)) in
      let same : number_value z a ≡ number_value z b = omega (arith, ints, h, none) in
      (Decides-int_eq (number_value z a) (number_value z b)).1 same ∙ some-is true truth e
  equal-truth False truth s h e =
      equal_false (number_value z a) (number_value z b) (λ f. absurd (omega (arith, ints, h, one_times (x k), f))) ∙ some-is false truth e
  equal-truth Greater truth s h e =
      equal_false (number_value z a) (number_value z b) (λ f. absurd (omega (arith, ints, h, less_times (x k), f))) ∙ some-is false truth e
  equal-truth (Remainder j) truth s h e = cc

  pub less-truth : (c : Case) (truth : Bool) → is_case_of (t.less_num a b) c ≡ true → LineMet z (line_of (t.less_num a b) c) x k → case_truth c ≡ Some truth → holds z (t.less_num a b) ≡ truth
  less-truth Open truth s h e = cc
  less-truth True truth s h e = less_true (number_value z a) (number_value z b) (x k) (omega (arith, ints, h, one_times (x k))) ∙ some-is true truth e
  less-truth False truth s h e = less_false (number_value z a) (number_value z b) (x k) (omega (arith, ints, h, less_times (x k))) ∙ some-is false truth e
  less-truth Greater truth s h e = cc
  less-truth (Remainder j) truth s h e = cc

-- a number that leaves a remainder below what divides it
same_test : (p q : ℕ) → (p ≡ 0 → q ≡ 0) → (q ≡ 0 → p ≡ 0) → (p == 0) ≡ (q == 0)
same_test p q h k = elim (sure (q == 0)) [
  | inl e ↦ eq-eqb p 0 (k (eqb-true q 0 e)) ∙ sym e
  | inr e ↦ elim (sure (p == 0)) [
    | inl f ↦ f ∙ sym (eq-eqb q 0 (h (eqb-true p 0 f)))
    | inr f ↦ f ∙ sym e
  ]
]

upper : (a n j u w : ℕ) → j < n → a + n * w ≡ j + n * u → (a % n == 0) ≡ (j == 0)
upper a n j u w h e =
    let same : a % n ≡ j = sym (add-mul-mod_self_left a n w) ∙ ap (λ y. y % n) e ∙ add-mul-mod_self_left j n u ∙ mod-eq_of_lt h in
    ap (λ y. y == 0) same

lower : (a n j u w : ℕ) → j < n → n * w ≡ (j + a) + n * u → (a % n == 0) ≡ (j == 0)
lower a n j u w h e =
    let none : (j + a) % n ≡ 0 =
    sym (add-mul-mod_self_left (j + a) n u) ∙ ap (λ y. y % n) (sym e ∙ from_zero (n * w)) ∙ add-mul-mod_self_left 0 n w ∙ mod-eq_of_lt (omega (arith, h)) in
    let split : n * (a / n) + a % n ≡ a = div-add-mod a n in
    same_test (a % n) j
    (λ f. let turned : (j + n * (a / n)) % n ≡ (j + a) % n = ap (λ y. y % n) (omega (arith, split, f)) in sym (mod-eq_of_lt h) ∙ sym (add-mul-mod_self_left j n (a / n)) ∙ turned ∙ none)
    (λ f. let turned : a % n ≡ (j + a) % n = ap (λ y. y % n) (omega (arith, f)) in turned ∙ none)
  where
    from_zero : (y : ℕ) → y ≡ 0 + y
    from_zero y = omega arith

divided : (v : ℤ) (n u w j : ℕ) → j < n → v +ℤ ((neg_ℤ (pos n) *ℤ pos u) +ℤ ((pos n *ℤ pos w) +ℤ pos 0)) ≡ pos j → divides_number (pos n) v ≡ (j == 0)
divided (pos a) n u w j h e = upper a n j u w h (omega (arith, ints, e, neg-times (pos n) (pos u), pos-*ℤ-pos n u, pos-*ℤ-pos n w))
divided (negsuc a) n u w j h e = lower (suc a) n j u w h (omega (arith, ints, e, neg-times (pos n) (pos u), pos-*ℤ-pos n u, pos-*ℤ-pos n w))

divides_truth : (z : Sizing) (d : ℤ) (a : NumTree) (x : ℕ → ℕ) (k j : ℕ) → is_divisor d ≡ true → j < unsigned_abs d → LineMet z (line_of (t.divides d a) (Remainder j)) x k → holds z (t.divides d a) ≡ (j == 0)
divides_truth z (pos n) a x k j d s h = divided (number_value z a) n (x k) (x (suc k)) j s h
divides_truth z (negsuc n) a x k j d s h = cc

pub divides-truth : (z : Sizing) (d : ℤ) (a : NumTree) (x : ℕ → ℕ) (k : ℕ) (c : Case) (truth : Bool) → is_divisor d ≡ true → is_case_of (t.divides d a) c ≡ true → LineMet z (line_of (t.divides d a) c) x k → case_truth c ≡ Some truth → holds z (t.divides d a) ≡ truth
divides-truth z d a x k Open truth d' s h e = cc
divides-truth z d a x k True truth d' s h e = cc
divides-truth z d a x k False truth d' s h e = cc
divides-truth z d a x k Greater truth d' s h e = cc
divides-truth z d a x k (Remainder j) truth d' s h e = divides_truth z d a x k j d' (ltb-true j (unsigned_abs d) s) h ∙ some-is (j == 0) truth e
