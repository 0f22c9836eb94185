-- What comes of a formula with its quantifiers in front came of the formula; and the closed terms of a formula come of it.
use Rattle.std.proofs.Common.{◌≡◌, refl, sym, ap, ◌∙◌, subst, ℕ, zero, suc, ◌+◌, ◌-◌, ◌<◌, ◌≤◌, nat_lt, arith, length, Bool, true, false, ◌&&◌, if◌then◌else◌, List, [], ◌∷◌, ◌++◌, ◌⊎◌, inl, inr, filter}
use Rattle.std.proofs.lemmas.Bool.{true≢false, ltb-true, ltb-false}
use Rattle.jh_form.specs.Tree.{TermTree, IntTree, SetTree, FormulaTree}
use Rattle.jh_form.specs.Tree as t
use Rattle.jh_form.specs.Closed.{is_closed_term, is_closed_field}
use Rattle.jh_form.proofs.ClosedLemmas.{both-left, both-right}
use Rattle.jh_seq.specs.splitting.Local.{is_field_name, are_field_names, is_local_term, is_local_number, is_local_set, has_local_shape}
use Rattle.jh_inst.specs.instances.Prenex.{under_more, pulled, behind, prenex}
use Rattle.jh_inst.specs.instances.Terms.{terms_in, number_terms, set_terms, object_terms}
use Rattle.jh_inst.proofs.instances.Gathering.{Fills, fill_at, read_each, itself, all_of, of_number, of_set, gather_under, IsClosed}
use Rattle.jh_inst.proofs.instances.Lengths.{In, in-left, in-right, in-both}
use Rattle.jh_inst.proofs.instances.Mapping.{under-comes}
use Rattle.jh_inst.proofs.instances.Shaped.{pulled-shaped}
use Rattle.jh_inst.proofs.instances.Stages.{fill-below, fill-beyond, moved, itself-same}

-- nothing is put for so many variables
abbrev nothing : ℕ → Fills
nothing zero = []
nothing (suc n) = [] ∷ nothing n

nothing-length : (n : ℕ) → length (nothing n) ≡ n
nothing-length zero = refl
nothing-length (suc n) = ap suc (nothing-length n)

nothing-shift : (n : ℕ) (fs : Fills) → [] ∷ (nothing n ++ fs) ≡ nothing n ++ ([] ∷ fs)
nothing-shift zero fs = refl
nothing-shift (suc n) fs = ap (λ z. [] ∷ z) (nothing-shift n fs)

nothing-sum : (v w n : ℕ) (fs : Fills) → n ≡ v + w → nothing n ++ fs ≡ nothing w ++ (nothing v ++ fs)
nothing-sum v zero n fs e = let same : n ≡ v = omega (arith, e) in ap (λ z. nothing z ++ fs) same
nothing-sum v (suc w) zero fs e = absurd (omega (arith, e))
nothing-sum v (suc w) (suc n) fs e = ap (λ z. [] ∷ z) (nothing-sum v w n fs (omega (arith, e)))

module _ (by : ℕ) (fs : Fills) where
  lift-self : (k d : ℕ) (gs : Fills) (below : Bool) → length gs ≡ d → nat_lt k d ≡ below → (x : TermTree) → In x (itself (gs ++ (nothing by ++ fs)) (if below then t.bound k else t.bound (k + by))) → In x (fill_at (gs ++ fs) k)
  lift-self k d gs true e p x h = let lt : k < d = ltb-true k d p in moved x (fill_at (gs ++ (nothing by ++ fs)) k) (fill_at (gs ++ fs) k) (fill-below k gs (nothing by ++ fs) fs (omega (arith, e, lt))) h
  lift-self k d gs false e p x h =
      let le : d ≤ k = ltb-false k d p in
      let long : length (nothing by) ≡ by = nothing-length by in
      moved x (fill_at (gs ++ (nothing by ++ fs)) (k + by)) (fill_at (gs ++ fs) k)
      (fill-beyond (k + by) (k - d + by) gs (nothing by ++ fs) (omega (arith, e, le)) ∙ fill-beyond (k - d + by) (k - d) (nothing by) fs (omega (arith, long)) ∙ sym (fill-beyond k (k - d) gs fs (omega (arith, e, le)))) h

  lift-inside : (k d : ℕ) (gs : Fills) (below : Bool) → length gs ≡ d → nat_lt k d ≡ below → (x : TermTree) → In x (all_of (gs ++ (nothing by ++ fs)) (if below then t.bound k else t.bound (k + by))) → ⊥ ⊎ In x (fill_at (gs ++ fs) k)
  lift-inside k d gs true e p x h = inr (lift-self k d gs true e p x h)
  lift-inside k d gs false e p x h = inr (lift-self k d gs false e p x h)

  lifted-comes : (a : FormulaTree) (d : ℕ) (gs : Fills) → length gs ≡ d → has_local_shape a ≡ true → (x : TermTree) → In x (gather_under all_of (under_more a d by) (gs ++ (nothing by ++ fs))) → In x (gather_under all_of a (gs ++ fs))
  lifted-comes a d gs e l x h =
      elim (under-comes (λ y. ⊥) (λ k c. if nat_lt k c then t.bound k else t.bound (k + by)) fs (nothing by ++ fs)
      (λ k c hs f y g. lift-self k c hs (nat_lt k c) f refl y g) (λ k c hs f y g. lift-inside k c hs (nat_lt k c) f refl y g) a d gs e l x h) [
        | inl never ↦ absurd never
        | inr g ↦ g
      ]

two-pulled : (x : TermTree) (a b : FormulaTree) (v w : ℕ) (fs : Fills) → has_local_shape a ≡ true → has_local_shape b ≡ true →
    In x (gather_under all_of (under_more a 0 w) (nothing (v + w) ++ fs) ++ gather_under all_of (under_more b w v) (nothing (v + w) ++ fs)) →
    In x (gather_under all_of a (nothing v ++ fs)) ⊎ In x (gather_under all_of b (nothing w ++ fs))
two-pulled x a b v w fs la lb h =
    let sum : nothing (v + w) ++ fs ≡ nothing w ++ (nothing v ++ fs) = nothing-sum v w (v + w) fs refl in
    elim (in-both x (gather_under all_of (under_more a 0 w) (nothing (v + w) ++ fs)) (gather_under all_of (under_more b w v) (nothing (v + w) ++ fs)) h) [
      | inl g ↦ inl (lifted-comes w (nothing v ++ fs) a 0 [] refl la x (subst (λ z. In x (gather_under all_of (under_more a 0 w) z)) sum g))
      | inr g ↦ inr (lifted-comes v fs b w (nothing w) (nothing-length w) lb x (subst (λ z. In x (gather_under all_of (under_more b w v) z)) sum g))
    ]

pulled-comes : (a : FormulaTree) (fs : Fills) → has_local_shape a ≡ true → (x : TermTree) → In x (gather_under all_of (pulled a).body (nothing (pulled a).variables ++ fs)) → In x (gather_under all_of a fs)
pulled-comes (t.and a b) fs l x h =
    let la = both-left (has_local_shape a) (has_local_shape b) l in
    let lb = both-right (has_local_shape a) (has_local_shape b) l in
    elim (two-pulled x (pulled a).body (pulled b).body (pulled a).variables (pulled b).variables fs (pulled-shaped a la) (pulled-shaped b lb) h) [
      | inl g ↦ in-left x (gather_under all_of a fs) (gather_under all_of b fs) (pulled-comes a fs la x g)
      | inr g ↦ in-right x (gather_under all_of a fs) (gather_under all_of b fs) (pulled-comes b fs lb x g)
    ]
pulled-comes (t.or a b) fs l x h =
    let la = both-left (has_local_shape a) (has_local_shape b) l in
    let lb = both-right (has_local_shape a) (has_local_shape b) l in
    elim (two-pulled x (pulled a).body (pulled b).body (pulled a).variables (pulled b).variables fs (pulled-shaped a la) (pulled-shaped b lb) h) [
      | inl g ↦ in-left x (gather_under all_of a fs) (gather_under all_of b fs) (pulled-comes a fs la x g)
      | inr g ↦ in-right x (gather_under all_of a fs) (gather_under all_of b fs) (pulled-comes b fs lb x g)
    ]
pulled-comes (t.all a) fs l x h = pulled-comes a ([] ∷ fs) l x (subst (λ z. In x (gather_under all_of (pulled a).body z)) (nothing-shift (pulled a).variables fs) h)
pulled-comes a fs l x h = h

behind-comes : (n : ℕ) (a : FormulaTree) (fs : Fills) (x : TermTree) → In x (gather_under all_of (behind n a) fs) → In x (gather_under all_of a (nothing n ++ fs))
behind-comes zero a fs x h = h
behind-comes (suc n) a fs x h = subst (λ z. In x (gather_under all_of a z)) (sym (nothing-shift n fs)) (behind-comes n a ([] ∷ fs) x h)

pub prenex-comes : (a : FormulaTree) → has_local_shape a ≡ true → (x : TermTree) → In x (gather_under all_of (prenex a) []) → In x (gather_under all_of a [])
prenex-comes a l x h = pulled-comes a [] l x (behind-comes (pulled a).variables (pulled a).body [] x h)

-- closed terms come of the formula in which they stand
module _ (x : TermTree) (closed : IsClosed x) where
  term-has : (fs : Fills) (a : TermTree) → is_local_term a ≡ true → In x (terms_in a) → In x (all_of fs a)
  unfolding is_closed_term
  term-has fs (t.bound k) l (inl e) = absurd (let lt : k < 0 = ltb-true k 0 ((λ i. is_closed_term (sym e i) 0) ∙ closed) in omega (arith, lt))
  term-has fs (t.bound k) l (inr h) = absurd h
  term-has fs (t.free_object y) l h = h
  term-has fs t.null l h = h
  term-has fs (t.read_object f a) l (inl e) =
      let whole : is_closed_field f 0 && is_closed_term a 0 ≡ true = (λ i. is_closed_term (sym e i) 0) ∙ closed in
      in-left x (read_each f (itself fs a)) (all_of fs a) (subst (λ z. In x (read_each f z)) (sym (itself-same fs a (both-right (is_field_name f) (is_local_term a) l) (both-right (is_closed_field f 0) (is_closed_term a 0) whole))) (inl e))
  term-has fs (t.read_object f a) l (inr h) = in-right x (read_each f (itself fs a)) (all_of fs a) (term-has fs a (both-right (is_field_name f) (is_local_term a) l) h)

  number-has : (fs : Fills) (a : IntTree) → is_local_number a ≡ true → In x (number_terms a) → In x (of_number all_of fs a)
  number-has fs (t.read_number f a) l h = term-has fs a (both-right (is_field_name f) (is_local_term a) l) h
  number-has fs _ l h = absurd h

  set-has : (fs : Fills) (a : SetTree) → is_local_set a ≡ true → In x (set_terms a) → In x (of_set all_of fs a)
  set-has fs (t.read_set f a) l h = term-has fs a (both-right (is_field_name f) (is_local_term a) l) h
  set-has fs _ l h = absurd h

  has-both : (vs ws gs hs : List TermTree) → (In x vs → In x gs) → (In x ws → In x hs) → In x (vs ++ ws) → In x (gs ++ hs)
  has-both vs ws gs hs p q h =
      elim (in-both x vs ws h) [
        | inl l ↦ in-left x gs hs (p l)
        | inr r ↦ in-right x gs hs (q r)
      ]

  pub under-has : (a : FormulaTree) (fs : Fills) → has_local_shape a ≡ true → In x (object_terms a) → In x (gather_under all_of a fs)
  under-has (t.negation a) fs l h = under-has a fs l h
  under-has (t.and a b) fs l h = has-both (object_terms a) (object_terms b) (gather_under all_of a fs) (gather_under all_of b fs) (under-has a fs (both-left (has_local_shape a) (has_local_shape b) l)) (under-has b fs (both-right (has_local_shape a) (has_local_shape b) l)) h
  under-has (t.or a b) fs l h = has-both (object_terms a) (object_terms b) (gather_under all_of a fs) (gather_under all_of b fs) (under-has a fs (both-left (has_local_shape a) (has_local_shape b) l)) (under-has b fs (both-right (has_local_shape a) (has_local_shape b) l)) h
  under-has (t.all a) fs l h = under-has a ([] ∷ fs) l h
  under-has (t.ex a) fs l h = under-has a ([] ∷ fs) l h
  under-has (t.read_truth f a) fs l h = term-has fs a (both-right (is_field_name f) (is_local_term a) l) h
  under-has (t.eq_object a b) fs l h = has-both (terms_in a) (terms_in b) (all_of fs a) (all_of fs b) (term-has fs a (both-left (is_local_term a) (is_local_term b) l)) (term-has fs b (both-right (is_local_term a) (is_local_term b) l)) h
  under-has (t.eq_number a b) fs l h = has-both (number_terms a) (number_terms b) (of_number all_of fs a) (of_number all_of fs b) (number-has fs a (both-left (is_local_number a) (is_local_number b) l)) (number-has fs b (both-right (is_local_number a) (is_local_number b) l)) h
  under-has (t.member a b) fs l h = has-both (terms_in a) (set_terms b) (all_of fs a) (of_set all_of fs b) (term-has fs a (both-left (is_local_term a) (is_local_set b) l)) (set-has fs b (both-right (is_local_term a) (is_local_set b) l)) h
  under-has (t.reach hs a b) fs l h =
      has-both (terms_in a) (terms_in b) (all_of fs a) (all_of fs b)
      (term-has fs a (both-right (are_field_names hs) (is_local_term a) (both-left (are_field_names hs && is_local_term a) (is_local_term b) l)))
      (term-has fs b (both-right (are_field_names hs && is_local_term a) (is_local_term b) l)) h
  under-has _ fs l h = absurd h

-- what a filter keeps
module _ {X : Type 0} (p : X → Bool) where
  one-kept : (b : Bool) (x y : X) (ys zs : List X) → p y ≡ b → (In x zs → In x ys × (p x ≡ true)) → In x (if b then y ∷ zs else zs) → In x (y ∷ ys) × (p x ≡ true)
  one-kept true x y ys zs e f (inl g) = (inl g, ap p g ∙ e)
  one-kept true x y ys zs e f (inr g) = let found = f g in (inr found.0, found.1)
  one-kept false x y ys zs e f g = let found = f g in (inr found.0, found.1)

  pub filter-in : (x : X) (ys : List X) → In x (filter p ys) → In x ys × (p x ≡ true)
  filter-in x [] h = absurd h
  filter-in x (y ∷ ys) h = one-kept (p y) x y ys (filter p ys) refl (filter-in x ys) h

  one-stays : (b : Bool) (x y : X) (ys zs : List X) → p y ≡ b → p x ≡ true → (In x ys → In x zs) → In x (y ∷ ys) → In x (if b then y ∷ zs else zs)
  one-stays true x y ys zs e q f (inl g) = inl g
  one-stays true x y ys zs e q f (inr g) = inr (f g)
  one-stays false x y ys zs e q f (inl g) = absurd (true≢false (sym q ∙ ap p g ∙ e))
  one-stays false x y ys zs e q f (inr g) = f g

  pub in-filter : (x : X) (ys : List X) → p x ≡ true → In x ys → In x (filter p ys)
  in-filter x [] q h = absurd h
  in-filter x (y ∷ ys) q h = one-stays (p y) x y ys (filter p ys) refl q (in-filter x ys q) h
