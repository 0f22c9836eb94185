-- Trivial sequents are valid.
use Rattle.std.proofs.Common.{◌≡◌, refl, sym, ap, ◌∙◌, ℕ, zero, suc, Bool, true, false, ◌&&◌, List, [], ◌∷◌, inl, inr}
use Rattle.std.specs.Prelude.{map}
use Rattle.std.proofs.lemmas.Bool.{eq-eqb}
use Rattle.std.proofs.lemmas.Bool.Decides.{Decides-int_eq}
use Rattle.jh_form.specs.Tree.{FormulaTree, TermTree, IntTree, SetTree}
use Rattle.jh_form.specs.Tree as t
use Rattle.jh_form.specs.Meaning.{Interp, truth, term_value, int_value, set_value, all_below, agree}
use Rattle.jh_boxed_operations.specs.comparison.Unmarked.{unmarked_formula}
use Rattle.jh_seq.specs.sequent.Sequents.{HypTree, AllTrue}
use Rattle.jh_derivation_rules.proofs.Unmarkings.{truth-unmarked}
use Rattle.jh_prove.specs.trivial.Trivial.{IsEvident, Gives, SomeGives}
use Rattle.jh_prove.specs.trivial.Laws.{TrivialIsValid}

agree-itself : (b : Bool) → agree b b ≡ true
agree-itself true = refl
agree-itself false = refl

all-passed : (n : ℕ) (p : ℕ → Bool) → ((x : ℕ) → p x ≡ true) → all_below n p ≡ true
all-passed zero p h = refl
all-passed (suc n) p h = λ i. all-passed n p h i && h n i

-- an evident formula is true
evident-true : (a : FormulaTree) (m : Interp) → IsEvident a → truth a m [] ≡ true
evident-true t.true_formula m h = refl
evident-true (t.eq_object a b) m h = eq-eqb (term_value a m []) (term_value b m []) (ap (λ x. term_value x m []) h)
evident-true (t.eq_number a b) m h = (Decides-int_eq (int_value a m []) (int_value b m [])).1 (ap (λ x. int_value x m []) h)
evident-true (t.eq_set a b) m h =
    ap (λ x. truth (t.eq_set a x) m []) (sym h) ∙ all-passed (suc m.last) (λ x. agree (set_value a m [] x) (set_value a m [] x)) (λ x. agree-itself (set_value a m [] x))
evident-true t.false_formula m h = absurd h
evident-true (t.free_truth x) m h = absurd h
evident-true (t.read_truth f a) m h = absurd h
evident-true (t.negation a) m h = absurd h
evident-true (t.and a b) m h = absurd h
evident-true (t.or a b) m h = absurd h
evident-true (t.implies a b) m h = absurd h
evident-true (t.iff a b) m h = absurd h
evident-true (t.all a) m h = absurd h
evident-true (t.ex a) m h = absurd h
evident-true (t.less a b) m h = absurd h
evident-true (t.less_equal a b) m h = absurd h
evident-true (t.divides z a) m h = absurd h
evident-true (t.member a b) m h = absurd h
evident-true (t.subset a b) m h = absurd h
evident-true (t.reach fs a b) m h = absurd h
evident-true (t.tree fs) m h = absurd h
evident-true (t.mark k a) m h = absurd h

-- a fact that is true makes a goal true that it gives
given-true : (goal fact : FormulaTree) (m : Interp) → Gives goal fact → truth fact m [] ≡ true → truth goal m [] ≡ true
given-true goal fact m (inl same) h = ap (λ a. truth a m []) (sym same) ∙ h
given-true goal fact m (inr is_false) h = absurd (cc (sym h ∙ ap (λ a. truth a m []) is_false))

some-true : (goal : FormulaTree) (hs : List HypTree) (m : Interp) → SomeGives goal (map (λ h. unmarked_formula h.fact) hs) → AllTrue hs m → truth goal m [] ≡ true
some-true goal [] m gives hold = absurd gives
some-true goal (h ∷ hs) m (inl gives) hold = given-true goal (unmarked_formula h.fact) m gives (truth-unmarked h.fact m [] ∙ hold.0)
some-true goal (h ∷ hs) m (inr more) hold = some-true goal hs m more hold.1

pub trivial-valid : TrivialIsValid
trivial-valid s (inl evident) m u hold = sym (truth-unmarked s.goal m []) ∙ evident-true (unmarked_formula s.goal) m evident
trivial-valid s (inr gives) m u hold = sym (truth-unmarked s.goal m []) ∙ some-true (unmarked_formula s.goal) s.hyps m gives hold
