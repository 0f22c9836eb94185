-- What expressions, and formulas that speak of the state alone, are where a run stands.
use Rattle.std.proofs.Common.{◌≡◌, refl, sym, ◌∙◌, subst, ℕ, zero, suc, nat_lt, ◌==◌, ◌+ℤ◌, ◌-ℤ◌, ◌*ℤ◌, neg_ℤ, int_lt, int_le, Bool, true, false, not, if◌then◌else◌, [], arith}
use Rattle.std.specs.Ordering.{int_eq}
use Rattle.std.proofs.lemmas.Bool.{true≢false}
use Rattle.std.proofs.lemmas.Bool.Decides.{nat_tests}
use Rattle.jh_form.specs.Tree.{FormulaTree, ValueTree}
use Rattle.jh_form.specs.Tree as t
use Rattle.jh_form.specs.Meaning.{Interp, Datum, datum, truth, term_value, agree}
use Rattle.jh_form.specs.Meaning as d
use Rattle.jh_form.specs.Agreement.{AgreeOn}
use Rattle.jh_form.specs.Passing.{value_passes}
use Rattle.jh_form.proofs.Coincidences.{datum-agrees, truth-agrees}
use Rattle.jh_vars.specs.Resolved.{own}
use Rattle.jh_semantics.specs.Code.{ObjectCode, NumberCode, TruthCode, AnyCode, Claim}
use Rattle.jh_semantics.specs.Code as c
use Rattle.jh_semantics.specs.State.{named, by_turn, shown}
use Rattle.jh_semantics.specs.Values.{Value, value, then_value, read_at, both_values, object_of, number_of, truth_of, value_of}
use Rattle.jh_semantics.specs.Typed.{IsOfStates}
use Rattle.jh_guard.specs.Terms.{object_term, truth_formula, value_term, object_checks, truth_checks, value_checks}
use Rattle.jh_guard.specs.Laws.{AllPass}
use Rattle.jh_guard.proofs.Checking.{Has, object-has, truth-has, value-has}
use Rattle.jh_logic.specs.logic.Histories.{viewed, by_turns}

module _ (s o m : Interp) where
  -- an expression speaks of the state now
  pub object-viewed : (e : ObjectCode) → object_of e (viewed s o m) ≡ object_of e s
  object-viewed c.null = refl
  object-viewed c.this = refl
  object-viewed (c.object x) = refl
  object-viewed (c.read_object f r p) = λ i. read_at r p (object-viewed r i) (s.field (named f)).objects

  number-viewed : (e : NumberCode) → number_of e (viewed s o m) ≡ number_of e s
  number-viewed (c.const z) = refl
  number-viewed (c.number x) = refl
  number-viewed (c.read_number f r p) = λ i. read_at r p (object-viewed r i) (s.field (named f)).numbers
  number-viewed (c.add q a b) = λ i. both_values (number-viewed a i) (number-viewed b i) (λ x y. x +ℤ y)
  number-viewed (c.sub q a b) = λ i. both_values (number-viewed a i) (number-viewed b i) (λ x y. x -ℤ y)
  number-viewed (c.minus q a) = λ i. then_value (number-viewed a i) (λ x. value (neg_ℤ x))
  number-viewed (c.times q z a) = λ i. then_value (number-viewed a i) (λ x. value (z *ℤ x))

  pub truth-viewed : (e : TruthCode) → truth_of e (viewed s o m) ≡ truth_of e s
  truth-viewed (c.literal b) = refl
  truth-viewed (c.truth x) = refl
  truth-viewed (c.read_truth f r p) = λ i. read_at r p (object-viewed r i) (s.field (named f)).truths
  truth-viewed (c.negation a) = λ i. then_value (truth-viewed a i) (λ x. value (not x))
  truth-viewed (c.both a b) = λ i. then_value (truth-viewed a i) (λ x. if x then truth-viewed b i else value false)
  truth-viewed (c.either a b) = λ i. then_value (truth-viewed a i) (λ x. if x then value true else truth-viewed b i)
  truth-viewed (c.same_object a b) = λ i. both_values (object-viewed a i) (object-viewed b i) (λ x y. x == y)
  truth-viewed (c.same_number a b) = λ i. both_values (number-viewed a i) (number-viewed b i) (λ x y. int_eq x y)
  truth-viewed (c.same_truth a b) = λ i. both_values (truth-viewed a i) (truth-viewed b i) (λ x y. agree x y)
  truth-viewed (c.less a b) = λ i. both_values (number-viewed a i) (number-viewed b i) (λ x y. int_lt x y)
  truth-viewed (c.less_equal a b) = λ i. both_values (number-viewed a i) (number-viewed b i) (λ x y. int_le x y)
  truth-viewed (c.greater a b) = λ i. both_values (number-viewed a i) (number-viewed b i) (λ x y. int_lt y x)
  truth-viewed (c.greater_equal a b) = λ i. both_values (number-viewed a i) (number-viewed b i) (λ x y. int_le y x)

  pub value-viewed : (e : AnyCode) → value_of e (viewed s o m) ≡ value_of e s
  value-viewed (c.an_object a) = λ i. then_value (object-viewed a i) (λ x. value (d.an_object x))
  value-viewed (c.a_number a) = λ i. then_value (number-viewed a i) (λ x. value (d.a_number x))
  value-viewed (c.a_truth a) = λ i. then_value (truth-viewed a i) (λ x. value (d.a_truth x))

  -- where its checks pass, it has the value of its term
  pub object-there : (e : ObjectCode) → AllPass (object_checks e) (viewed s o m) → Has (object_of e s) (term_value (object_term e) (viewed s o m) [])
  object-there e h = subst (λ (v : Value ℕ). Has v (term_value (object_term e) (viewed s o m) [])) (object-viewed e) (object-has (viewed s o m) e h)

  pub truth-there : (e : TruthCode) → AllPass (truth_checks e) (viewed s o m) → Has (truth_of e s) (truth (truth_formula e) (viewed s o m) [])
  truth-there e h = subst (λ (v : Value Bool). Has v (truth (truth_formula e) (viewed s o m) [])) (truth-viewed e) (truth-has (viewed s o m) e h)

  pub value-there : (e : AnyCode) → AllPass (value_checks e) (viewed s o m) → Has (value_of e s) (datum (value_term e) (viewed s o m) [])
  value-there e h = subst (λ (v : Value Datum). Has v (datum (value_term e) (viewed s o m) [])) (value-viewed e) (value-has (viewed s o m) e h)

  -- a value that speaks of turns 0 and 1 alone is one of the two states
  turn-two : (n : ℕ) → nat_lt (suc (suc n)) 2 ≡ false
  turn-two n = grind (arith, nat_tests)

  early : {X : Type 0} (n : ℕ) (a b d : X) → nat_lt n 2 ≡ true → by_turns n a b d ≡ by_turn n a b
  early zero a b d h = refl
  early (suc zero) a b d h = refl
  early (suc (suc n)) a b d h = absurd (true≢false (sym h ∙ turn-two n))

  agree-early : AgreeOn (λ x sort. nat_lt x.turn 2) (viewed s o m) (shown s o)
  agree-early = record {
    last = refl;
    object = λ x h. early x.turn (s.object x) (o.object (own x.text 0)) (m.object x) h;
    number = λ x h. early x.turn (s.number x) (o.number (own x.text 0)) (m.number x) h;
    truth = λ x h. early x.turn (s.truth x) (o.truth (own x.text 0)) (m.truth x) h;
    set = λ x h. early x.turn (s.set x) (o.set (own x.text 0)) (m.set x) h;
    field = λ x h. early x.turn (s.field x) (o.field (own x.text 0)) (m.field x) h;
  }

  pub datum-stated : (v : ValueTree) → IsOfStates v → datum v (viewed s o m) [] ≡ datum v (shown s o) []
  datum-stated v h = datum-agrees (λ x sort. nat_lt x.turn 2) (viewed s o m) (shown s o) agree-early v [] h.turns

  pub truth-stated : (f : FormulaTree) → IsOfStates (t.of_truth f) → truth f (viewed s o m) [] ≡ truth f (shown s o) []
  unfolding value_passes
  truth-stated f h = truth-agrees (λ x sort. nat_lt x.turn 2) (viewed s o m) (shown s o) agree-early f [] h.turns
