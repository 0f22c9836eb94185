-- A formula that is true is true with its quantifiers in front.
use Rattle.std.proofs.Common.{◌≡◌, refl, sym, ap, ◌∙◌, subst, ℕ, zero, suc, ◌+◌, ◌<◌, ◌≤◌, arith, length, drop, Bool, true, ◌&&◌, List, ◌∷◌, inl, inr}
use Rattle.jh_name.specs.declared.naming.Name.{Name}
use Rattle.jh_name.specs.declared.place.Sort as place
use Rattle.jh_form.specs.Tree.{FormulaTree}
use Rattle.jh_form.specs.Tree as t
use Rattle.jh_form.specs.Meaning.{Interp, truth}
use Rattle.jh_form.specs.Passing.{formula_passes}
use Rattle.jh_form.proofs.ClosedLemmas.{both-left, both-right}
use Rattle.jh_inst.specs.instances.Prenex.{Matrix, under_more, pulled, behind, prenex}
use Rattle.jh_inst.proofs.instances.Connectives.{all-at, all-made, or_left, or_right, either}
use Rattle.jh_inst.proofs.instances.Risen.{without, truth-under, under-passes}

module _ (m : Interp) where
  -- P holds of e with any n objects before it
  abbrev pub AllAt : ℕ → (List ℕ → Type 0) → List ℕ → Type 0
  AllAt zero P e = P e
  AllAt (suc n) P e = (x : ℕ) → x < suc m.last → AllAt n P (x ∷ e)

  with-both : (n : ℕ) (P Q R : List ℕ → Type 0) → ((e : List ℕ) → P e → Q e → R e) → (e : List ℕ) → AllAt n P e → AllAt n Q e → AllAt n R e
  with-both zero P Q R f e h k = f e h k
  with-both (suc n) P Q R f e h k = λ x lt. with-both n P Q R f (x ∷ e) (h x lt) (k x lt)

  with-one : (n : ℕ) (P R : List ℕ → Type 0) → ((e : List ℕ) → P e → R e) → (e : List ℕ) → AllAt n P e → AllAt n R e
  with-one zero P R f e h = f e h
  with-one (suc n) P R f e h = λ x lt. with-one n P R f (x ∷ e) (h x lt)

  -- what is true of e is true with w more objects before it, which are dropped
  dropped : (P : List ℕ → Type 0) (w i n : ℕ) → n ≡ w + i → (g e : List ℕ) → drop i g ≡ e → P e → AllAt w (λ h. P (drop n h)) g
  dropped P zero i n s g e d h = let same : i ≡ n = omega (arith, s) in subst P (sym d ∙ ap (λ z. drop z g) same) h
  dropped P (suc w) i n s g e d h = λ x lt. dropped P w (suc i) n (omega (arith, s)) (x ∷ g) e d h

  -- of the objects of both, those of the first are the outer ones
  outer : (P : List ℕ → Type 0) (v w n : ℕ) → n ≡ v + w → (e : List ℕ) → AllAt v P e → AllAt n (λ h. P (drop w h)) e
  outer P zero w n s e h = let same : w ≡ n = omega (arith, s) in subst (λ z. AllAt z (λ h. P (drop w h)) e) same (dropped P w 0 w (omega arith) e e refl h)
  outer P (suc v) w zero s e h = absurd (omega (arith, s))
  outer P (suc v) w (suc n) s e h = λ x lt. outer P v w n (omega (arith, s)) (x ∷ e) (h x lt)

  -- those of the second are the inner ones
  inner-most : (P : List ℕ → Type 0) (by w i n : ℕ) → n ≡ w + i → (g small : List ℕ) → i ≤ length g → without by i g ≡ small → AllAt w P small → AllAt w (λ h. (n ≤ length h) × P (without by n h)) g
  inner-most P by zero i n s g small le d h = let same : i ≡ n = omega (arith, s) in (omega (arith, s, le), subst P (sym d ∙ ap (λ z. without by z g) same) h)
  inner-most P by (suc w) i n s g small le d h = λ x lt. inner-most P by w (suc i) n (omega (arith, s)) (x ∷ g) (x ∷ small) (omega (arith, le)) (ap (λ z. x ∷ z) d) (h x lt)

  inner : (P : List ℕ → Type 0) (by w v j n : ℕ) → n ≡ v + w → by ≡ v + j → (g e : List ℕ) → drop j g ≡ e → AllAt w P e → AllAt n (λ h. (w ≤ length h) × P (without by w h)) g
  inner P by w zero j n s b g e d h =
      let same : w ≡ n = omega (arith, s) in
      let all : j ≡ by = omega (arith, b) in
      subst (λ z. AllAt z (λ h. (w ≤ length h) × P (without by w h)) g) same
      (inner-most P by w 0 w (omega arith) g e (omega arith) (sym (ap (λ z. drop z g) all) ∙ d) h)
  inner P by w (suc v) j zero s b g e d h = absurd (omega (arith, s))
  inner P by w (suc v) j (suc n) s b g e d h = λ x lt. inner P by w v (suc j) n (omega (arith, s)) (omega (arith, b)) (x ∷ g) e d h

  abbrev Holds : FormulaTree → List ℕ → Type 0
  Holds a e = truth a m e ≡ true

  outer-holds : (p q : Matrix) (e : List ℕ) → AllAt p.variables (Holds p.body) e → AllAt (p.variables + q.variables) (Holds (under_more p.body 0 q.variables)) e
  outer-holds p q e h = with-one (p.variables + q.variables) (λ g. Holds p.body (drop q.variables g)) (Holds (under_more p.body 0 q.variables)) (λ g k. truth-under p.body 0 q.variables m g (omega arith) ∙ k) e (outer (Holds p.body) p.variables q.variables (p.variables + q.variables) refl e h)

  inner-holds : (p q : Matrix) (e : List ℕ) → AllAt q.variables (Holds q.body) e → AllAt (p.variables + q.variables) (Holds (under_more q.body q.variables p.variables)) e
  inner-holds p q e h = with-one (p.variables + q.variables) (λ g. (q.variables ≤ length g) × Holds q.body (without p.variables q.variables g)) (Holds (under_more q.body q.variables p.variables)) (λ g k. truth-under q.body q.variables p.variables m g k.0 ∙ k.1) e (inner (Holds q.body) p.variables q.variables p.variables 0 (p.variables + q.variables) refl (omega arith) e e refl h)

  pulled-holds : (a : FormulaTree) (e : List ℕ) → Holds a e → AllAt (pulled a).variables (Holds (pulled a).body) e
  pulled-holds (t.and a b) e h =
      with-both ((pulled a).variables + (pulled b).variables) (Holds (under_more (pulled a).body 0 (pulled b).variables)) (Holds (under_more (pulled b).body (pulled b).variables (pulled a).variables)) (Holds (pulled (t.and a b)).body)
      (λ g k l i. k i && l i) e
      (outer-holds (pulled a) (pulled b) e (pulled-holds a e (both-left (truth a m e) (truth b m e) h)))
      (inner-holds (pulled a) (pulled b) e (pulled-holds b e (both-right (truth a m e) (truth b m e) h)))
  pulled-holds (t.or a b) e h =
      elim (either (truth a m e) (truth b m e) h) [
        | inl k ↦ with-one ((pulled a).variables + (pulled b).variables) (Holds (under_more (pulled a).body 0 (pulled b).variables)) (Holds (pulled (t.or a b)).body)
            (λ g l. or_left (truth (under_more (pulled a).body 0 (pulled b).variables) m g) (truth (under_more (pulled b).body (pulled b).variables (pulled a).variables) m g) l) e
            (outer-holds (pulled a) (pulled b) e (pulled-holds a e k))
        | inr k ↦ with-one ((pulled a).variables + (pulled b).variables) (Holds (under_more (pulled b).body (pulled b).variables (pulled a).variables)) (Holds (pulled (t.or a b)).body)
            (λ g l. or_right (truth (under_more (pulled a).body 0 (pulled b).variables) m g) (truth (under_more (pulled b).body (pulled b).variables (pulled a).variables) m g) l) e
            (inner-holds (pulled a) (pulled b) e (pulled-holds b e k))
      ]
  pulled-holds (t.all a) e h = λ x lt. pulled-holds a (x ∷ e) (all-at (suc m.last) (λ y. truth a m (y ∷ e)) x h lt)
  pulled-holds a e h = h

  behind-holds : (n : ℕ) (a : FormulaTree) (e : List ℕ) → AllAt n (Holds a) e → Holds (behind n a) e
  behind-holds zero a e h = h
  behind-holds (suc n) a e h = all-made (suc m.last) (λ x. truth (behind n a) m (x ∷ e)) (λ x lt. behind-holds n a (x ∷ e) (h x lt))

  pub prenex-holds : (a : FormulaTree) (e : List ℕ) → truth a m e ≡ true → truth (prenex a) m e ≡ true
  prenex-holds a e h = behind-holds (pulled a).variables (pulled a).body e (pulled-holds a e h)

-- it has the names of the formula
module _ (p : Name → place.Sort → Bool) where
  pulled-passes : (a : FormulaTree) → formula_passes a p ≡ true → formula_passes (pulled a).body p ≡ true
  unfolding formula_passes
  pulled-passes (t.and a b) h = λ i.
      under-passes (pulled a).body 0 (pulled b).variables p (pulled-passes a (both-left (formula_passes a p) (formula_passes b p) h)) i
      && under-passes (pulled b).body (pulled b).variables (pulled a).variables p (pulled-passes b (both-right (formula_passes a p) (formula_passes b p) h)) i
  pulled-passes (t.or a b) h = λ i.
      under-passes (pulled a).body 0 (pulled b).variables p (pulled-passes a (both-left (formula_passes a p) (formula_passes b p) h)) i
      && under-passes (pulled b).body (pulled b).variables (pulled a).variables p (pulled-passes b (both-right (formula_passes a p) (formula_passes b p) h)) i
  pulled-passes (t.all a) h = pulled-passes a h
  pulled-passes a h = h

  behind-passes : (n : ℕ) (a : FormulaTree) → formula_passes a p ≡ true → formula_passes (behind n a) p ≡ true
  unfolding formula_passes
  behind-passes zero a h = h
  behind-passes (suc n) a h = behind-passes n a h

  pub prenex-passes : (a : FormulaTree) → formula_passes a p ≡ true → formula_passes (prenex a) p ≡ true
  prenex-passes a h = behind-passes (pulled a).variables (pulled a).body (pulled-passes a h)
