-- What equations mean: both values are the same in the universe.
use Rattle.std.proofs.Common.{◌≡◌, sym, ap, ◌∙◌, ℕ, ◌==◌, true, [], Option, Some, None, ℤ, slice_index, arith}
use Rattle.std.proofs.lemmas.Bool.{eqb-true, eq-eqb}
use Rattle.std.proofs.lemmas.Bool.Decides.{Decides-int_eq}
use Rattle.std.proofs.lemmas.List.{get_or_past}
use Rattle.std.specs.Ordering.{int_eq}
use Rattle.jh_form.specs.Tree.{TermTree, IntTree, SetTree, FieldTree, ValueTree, FormulaTree}
use Rattle.jh_form.specs.Tree as t
use Rattle.jh_form.specs.Meaning.{Interp, Datum, an_object, a_number, a_truth, a_set, a_field, agree, every, term_value, int_value, set_value, field_value, datum, truth}
use Rattle.jh_name.specs.declared.place.Kind.{Kind}
use Rattle.jh_name.specs.declared.place.Kind.TheVariants as kind
use Rattle.jh_seq.specs.jh_boxed_operations.comparison.Inside.{SameIn, AreInside}
use Rattle.jh_derivation_rules.specs.Rules.{equation, reads_equal, IsRefuted}
use Rattle.jh_derivation_rules.proofs.Truths.{not-true, agree-true, agree-same, every-made, every-at}

-- the formula is there and true; it is true where it is there
abbrev pub Holds : Interp → Option FormulaTree → Type 0
Holds m (Some a) = truth a m [] ≡ true
Holds m None = ⊥

abbrev pub HoldsIf : Interp → Option FormulaTree → Type 0
HoldsIf m (Some a) = truth a m [] ≡ true
HoldsIf m None = Unit {0}

pub inside-none : (n : ℕ) → AreInside n []
inside-none n k = let e : slice_index [] k ≡ 0 = get_or_past [] k 0 (omega arith) in omega (arith, e)

pub int-eq-true : (y z : ℤ) → int_eq y z ≡ true → y ≡ z
int-eq-true y z h = (Decides-int_eq y z).0 h

pub int-eq-same : (y z : ℤ) → y ≡ z → int_eq y z ≡ true
int-eq-same y z e = (Decides-int_eq y z).1 e

pub equation-same : (m : Interp) (v w : ValueTree) → Holds m (equation v w) → SameIn m.last (datum v m []) (datum w m [])
unfolding equation
equation-same m (t.of_object a) (t.of_object b) h = eqb-true (term_value a m []) (term_value b m []) h
equation-same m (t.of_number a) (t.of_number b) h = int-eq-true (int_value a m []) (int_value b m []) h
equation-same m (t.of_truth a) (t.of_truth b) h = agree-true (truth a m []) (truth b m []) h
equation-same m (t.of_set a) (t.of_set b) h = λ x lt. agree-true (set_value a m [] x) (set_value b m [] x) (every-at m.last (λ y. agree (set_value a m [] y) (set_value b m [] y)) h x lt)
equation-same m _ _ h = absurd h

pub same-equation : (m : Interp) (v w : ValueTree) → SameIn m.last (datum v m []) (datum w m []) → HoldsIf m (equation v w)
unfolding equation
same-equation m (t.of_object a) (t.of_object b) h = eq-eqb (term_value a m []) (term_value b m []) h
same-equation m (t.of_number a) (t.of_number b) h = int-eq-same (int_value a m []) (int_value b m []) h
same-equation m (t.of_truth a) (t.of_truth b) h = agree-same (truth a m []) (truth b m []) h
same-equation m (t.of_set a) (t.of_set b) h = every-made m.last (λ y. agree (set_value a m [] y) (set_value b m [] y)) (λ x lt. agree-same (set_value a m [] x) (set_value b m [] x) (h x lt))
same-equation m _ _ h = tt

pub same-sym : (n : ℕ) (v w : Datum) → SameIn n v w → SameIn n w v
same-sym n (an_object v) (an_object w) h = sym h
same-sym n (a_number v) (a_number w) h = sym h
same-sym n (a_truth v) (a_truth w) h = sym h
same-sym n (a_set v) (a_set w) h = λ x lt. sym (h x lt)
same-sym n (a_field v) (a_field w) h = record { objects = sym h.objects; numbers = sym h.numbers; truths = sym h.truths; sets = λ a x lt. sym (h.sets a x lt) }
same-sym n _ _ h = absurd h

pub same-trans : (n : ℕ) (v w x : Datum) → SameIn n v w → SameIn n w x → SameIn n v x
same-trans n (an_object v) (an_object w) (an_object x) h k = h ∙ k
same-trans n (a_number v) (a_number w) (a_number x) h k = h ∙ k
same-trans n (a_truth v) (a_truth w) (a_truth x) h k = h ∙ k
same-trans n (a_set v) (a_set w) (a_set x) h k = λ y lt. h y lt ∙ k y lt
same-trans n (a_field v) (a_field w) (a_field x) h k = record { objects = h.objects ∙ k.objects; numbers = h.numbers ∙ k.numbers; truths = h.truths ∙ k.truths; sets = λ a y lt. h.sets a y lt ∙ k.sets a y lt }
same-trans n (an_object v) (an_object w) _ h k = absurd k
same-trans n (a_number v) (a_number w) _ h k = absurd k
same-trans n (a_truth v) (a_truth w) _ h k = absurd k
same-trans n (a_set v) (a_set w) _ h k = absurd k
same-trans n (a_field v) (a_field w) _ h k = absurd k
same-trans n _ _ _ h k = absurd h

-- one field gives the same at objects that are equal
pub reads-true : (m : Interp) (k : Kind) (f : FieldTree) (a b : TermTree) → term_value a m [] ≡ term_value b m [] → truth (reads_equal k f a b) m [] ≡ true
unfolding reads_equal
reads-true m kind.Obj f a b e = eq-eqb ((field_value f m []).objects (term_value a m [])) ((field_value f m []).objects (term_value b m [])) (ap (field_value f m []).objects e)
reads-true m kind.Int f a b e = int-eq-same ((field_value f m []).numbers (term_value a m [])) ((field_value f m []).numbers (term_value b m [])) (ap (field_value f m []).numbers e)
reads-true m kind.Bool f a b e = agree-same ((field_value f m []).truths (term_value a m [])) ((field_value f m []).truths (term_value b m [])) (ap (field_value f m []).truths e)
reads-true m kind.Set f a b e = every-made m.last (λ y. agree ((field_value f m []).sets (term_value a m []) y) ((field_value f m []).sets (term_value b m []) y)) (λ y lt. agree-same ((field_value f m []).sets (term_value a m []) y) ((field_value f m []).sets (term_value b m []) y) (λ i. (field_value f m []).sets (e i) y))

-- what no structure meets isn't true
pub refuted-false : (m : Interp) (a : FormulaTree) → IsRefuted a → truth a m [] ≡ true → ⊥
refuted-false m (t.negation (t.eq_object a b)) e h = not-true (term_value a m [] == term_value b m []) h (eq-eqb (term_value a m []) (term_value b m []) (λ i. term_value (e i) m []))
refuted-false m (t.negation (t.eq_number a b)) e h = not-true (int_eq (int_value a m []) (int_value b m [])) h (int-eq-same (int_value a m []) (int_value b m []) (λ i. int_value (e i) m []))
refuted-false m (t.negation (t.iff a b)) e h = not-true (agree (truth a m []) (truth b m [])) h (agree-same (truth a m []) (truth b m []) (λ i. truth (e i) m []))
refuted-false m (t.negation (t.eq_set a b)) e h =
    not-true (every m.last (λ x. agree (set_value a m [] x) (set_value b m [] x))) h
    (every-made m.last (λ x. agree (set_value a m [] x) (set_value b m [] x)) (λ x lt. agree-same (set_value a m [] x) (set_value b m [] x) (λ i. set_value (e i) m [] x)))
refuted-false m (t.eq_number (t.const y) (t.const z)) e h = e (int-eq-true y z h)
refuted-false m (t.negation _) e h = absurd e
refuted-false m (t.eq_number _ _) e h = absurd e
refuted-false m _ e h = absurd e
