-- What an update's name says of each object is true where the name has the update's value.
use Rattle.std.proofs.Common.{◌≡◌, refl, ap, ◌∙◌, ℕ, zero, suc, ◌==◌, Bool, true, false, not, ◌&&◌, ◌||◌, if◌then◌else◌, [], ◌∷◌}
use Rattle.std.specs.Ordering.{int_eq}
use Rattle.std.proofs.lemmas.Bool.{eq-eqb}
use Rattle.std.proofs.lemmas.Bool.Decides.{Decides-int_eq}
use Rattle.jh_form.specs.Tree.{TermTree, FieldTree, ValueTree, FormulaTree}
use Rattle.jh_form.specs.Tree as t
use Rattle.jh_form.specs.Meaning.{Interp, all_below, every, agree, updated, term_value, int_value, set_value, field_value, datum, truth}
use Rattle.jh_approx.specs.jh_derivation_rules.Rules.{at_each, described}
use Rattle.jh_fca.specs.local_form.Named.{if_any}
use Rattle.jh_fca.proofs.local_form.Holding.{AllHold}

all-made : (n : ℕ) (p : ℕ → Bool) → ((x : ℕ) → p x ≡ true) → all_below n p ≡ true
all-made zero p h = refl
all-made (suc n) p h = λ i. all-made n p h i && h n i

agree-itself : (p : Bool) → agree p p ≡ true
agree-itself true = refl
agree-itself false = refl

-- one of two consequences, by whether the condition holds
by-cases : (c p q : Bool) → (c ≡ true → p ≡ true) → (c ≡ false → q ≡ true) → ((not c || p) && (not (not c) || q)) ≡ true
by-cases true p q h k = λ i. h refl i && true
by-cases false p q h k = k refl

each-true : (m : Interp) (a : TermTree) (this that : FormulaTree) →
    ((x : ℕ) → (x == term_value a m (x ∷ [])) ≡ true → truth this m (x ∷ []) ≡ true) →
    ((x : ℕ) → (x == term_value a m (x ∷ [])) ≡ false → truth that m (x ∷ []) ≡ true) → truth (at_each a this that) m [] ≡ true
each-true m a this that h k =
    all-made (suc m.last)
    (λ x. (not (x == term_value a m (x ∷ [])) || truth this m (x ∷ [])) && (not (not (x == term_value a m (x ∷ []))) || truth that m (x ∷ [])))
    (λ x. by-cases (x == term_value a m (x ∷ [])) (truth this m (x ∷ [])) (truth that m (x ∷ [])) (h x) (k x))

-- at each object the field g is the update of f at a with v
abbrev pub IsThatField : Interp → FieldTree → FieldTree → TermTree → ValueTree → Type 0
IsThatField m g f a v = (x : ℕ) → field_value g m (x ∷ []) ≡ updated (field_value f m (x ∷ [])) (term_value a m (x ∷ [])) (datum v m (x ∷ []))

pub described-hold : (m : Interp) (g f : FieldTree) (a : TermTree) (v : ValueTree) → IsThatField m g f a v → AllHold m (if_any (described g f a v))
unfolding described
described-hold m g f a (t.of_object v) is = (
  each-true m a (t.eq_object (t.read_object g (t.bound 0)) v) (t.eq_object (t.read_object g (t.bound 0)) (t.read_object f (t.bound 0)))
      (λ x e. ap (λ k. k.objects x == term_value v m (x ∷ [])) (is x) ∙ ap (λ c. (if c then term_value v m (x ∷ []) else (field_value f m (x ∷ [])).objects x) == term_value v m (x ∷ [])) e ∙ eq-eqb (term_value v m (x ∷ [])) (term_value v m (x ∷ [])) refl)
      (λ x e. ap (λ k. k.objects x == (field_value f m (x ∷ [])).objects x) (is x) ∙ ap (λ c. (if c then term_value v m (x ∷ []) else (field_value f m (x ∷ [])).objects x) == (field_value f m (x ∷ [])).objects x) e ∙ eq-eqb ((field_value f m (x ∷ [])).objects x) ((field_value f m (x ∷ [])).objects x) refl),
  tt,
)
described-hold m g f a (t.of_number v) is = (
  each-true m a (t.eq_number (t.read_number g (t.bound 0)) v) (t.eq_number (t.read_number g (t.bound 0)) (t.read_number f (t.bound 0)))
      (λ x e. ap (λ k. int_eq (k.numbers x) (int_value v m (x ∷ []))) (is x) ∙ ap (λ c. int_eq (if c then int_value v m (x ∷ []) else (field_value f m (x ∷ [])).numbers x) (int_value v m (x ∷ []))) e ∙ (Decides-int_eq (int_value v m (x ∷ [])) (int_value v m (x ∷ []))).1 refl)
      (λ x e. ap (λ k. int_eq (k.numbers x) ((field_value f m (x ∷ [])).numbers x)) (is x) ∙ ap (λ c. int_eq (if c then int_value v m (x ∷ []) else (field_value f m (x ∷ [])).numbers x) ((field_value f m (x ∷ [])).numbers x)) e ∙ (Decides-int_eq ((field_value f m (x ∷ [])).numbers x) ((field_value f m (x ∷ [])).numbers x)).1 refl),
  tt,
)
described-hold m g f a (t.of_truth v) is = (
  each-true m a (t.iff (t.read_truth g (t.bound 0)) v) (t.iff (t.read_truth g (t.bound 0)) (t.read_truth f (t.bound 0)))
      (λ x e. ap (λ k. agree (k.truths x) (truth v m (x ∷ []))) (is x) ∙ ap (λ c. agree (if c then truth v m (x ∷ []) else (field_value f m (x ∷ [])).truths x) (truth v m (x ∷ []))) e ∙ agree-itself (truth v m (x ∷ [])))
      (λ x e. ap (λ k. agree (k.truths x) ((field_value f m (x ∷ [])).truths x)) (is x) ∙ ap (λ c. agree (if c then truth v m (x ∷ []) else (field_value f m (x ∷ [])).truths x) ((field_value f m (x ∷ [])).truths x)) e ∙ agree-itself ((field_value f m (x ∷ [])).truths x)),
  tt,
)
described-hold m g f a (t.of_set v) is = (
  each-true m a (t.eq_set (t.read_set g (t.bound 0)) v) (t.eq_set (t.read_set g (t.bound 0)) (t.read_set f (t.bound 0)))
      (λ x e. ap (λ k. every m.last (λ y. agree (k.sets x y) (set_value v m (x ∷ []) y))) (is x) ∙ ap (λ c. every m.last (λ y. agree ((if c then set_value v m (x ∷ []) else (field_value f m (x ∷ [])).sets x) y) (set_value v m (x ∷ []) y))) e ∙ all-made (suc m.last) (λ y. agree (set_value v m (x ∷ []) y) (set_value v m (x ∷ []) y)) (λ y. agree-itself (set_value v m (x ∷ []) y)))
      (λ x e. ap (λ k. every m.last (λ y. agree (k.sets x y) ((field_value f m (x ∷ [])).sets x y))) (is x) ∙ ap (λ c. every m.last (λ y. agree ((if c then set_value v m (x ∷ []) else (field_value f m (x ∷ [])).sets x) y) ((field_value f m (x ∷ [])).sets x y))) e ∙ all-made (suc m.last) (λ y. agree ((field_value f m (x ∷ [])).sets x y) ((field_value f m (x ∷ [])).sets x y)) (λ y. agree-itself ((field_value f m (x ∷ [])).sets x y))),
  tt,
)
described-hold m g f a (t.of_field v) is = tt
