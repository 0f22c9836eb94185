-- Where what is cut of the goal is true, so is the goal; where a hypothesis is true, so is what is cut of it.
use Rattle.std.proofs.Common.{◌≡◌, refl, sym, ◌∙◌, ℕ, zero, suc, Bool, true, false, not, ◌&&◌, ◌||◌, if◌then◌else◌, List, ◌∷◌}
use Rattle.std.proofs.lemmas.Bool.{true≢false}
use Rattle.jh_form.specs.declared.mark.Mark.{Mark}
use Rattle.jh_form.specs.Tree.{FormulaTree}
use Rattle.jh_form.specs.Tree as t
use Rattle.jh_form.specs.Meaning.{Interp, all_below, any_below, every, some, agree, truth}
use Rattle.jh_normal_forms.specs.declared.rebuilding.polarity.Polarity.{Polarity}
use Rattle.jh_normal_forms.specs.declared.rebuilding.polarity.Polarity.TheVariants as pol
use Rattle.jh_normal_forms.specs.rebuilding.Sound.{StandsIn, Sound}
use Rattle.jh_normal_forms.proofs.rebuilding.Stands.{truth-built}
use Rattle.jh_approx.specs.definition.Shown.{negation_of, and_before, and_of, or_before, or_of, implies_before, implies_of, iff_before, iff_of}
use Rattle.jh_fca.specs.cutting.Cut.{holds_foreign, two_ways, opening_iffs, iffs_opened, instead_of, all_of, ex_of, mark_of, cut_once, cutting, cut}
use Rattle.jh_normal_forms.proofs.set_opening.Standing.{stands-same}

-- ---- an equivalence is two implications

agree_is : (p q : Bool) → ((not p || q) && (not q || p)) ≡ agree p q
agree_is true true = refl
agree_is true false = refl
agree_is false true = refl
agree_is false false = refl

same-either : (c : Bool) (a b : FormulaTree) (m : Interp) (e : List ℕ) → truth a m e ≡ truth b m e → truth (if c then a else b) m e ≡ truth b m e
same-either true a b m e same = same
same-either false a b m e same = refl

two-ways-means : (a : FormulaTree) (m : Interp) (e : List ℕ) → truth (two_ways a) m e ≡ truth a m e
unfolding two_ways
two-ways-means (t.iff a b) m e = same-either (holds_foreign a || holds_foreign b) (t.and (t.implies a b) (t.implies b a)) (t.iff a b) m e (agree_is (truth a m e) (truth b m e))
two-ways-means a m e = refl

iffs-sound : Sound opening_iffs
iffs-sound = record {
  object = λ a m e. refl;
  number = λ a m e. refl;
  set = λ a m e. refl;
  field = λ a m e. refl;
  truth = λ a s m e. stands-same s (truth (two_ways a) m e) (truth a m e) (two-ways-means a m e);
}

iffs-mean : (a : FormulaTree) (m : Interp) (e : List ℕ) → truth (iffs_opened a) m e ≡ truth a m e
unfolding iffs_opened
iffs-mean a m e = truth-built opening_iffs iffs-sound a pol.Both m e

-- ---- connectives of which True and False are folded away say what the connectives do

and_true : (p : Bool) → p ≡ (p && true)
and_true true = refl
and_true false = refl

and_false : (p : Bool) → false ≡ (p && false)
and_false true = refl
and_false false = refl

or_true : (p : Bool) → true ≡ (p || true)
or_true true = refl
or_true false = refl

or_false : (p : Bool) → p ≡ (p || false)
or_false true = refl
or_false false = refl

agree_true : (p : Bool) → p ≡ agree p true
agree_true true = refl
agree_true false = refl

agree_false : (p : Bool) → not p ≡ agree p false
agree_false true = refl
agree_false false = refl

all-true : (n : ℕ) → true ≡ all_below n (λ x. true)
all-true zero = refl
all-true (suc n) = all-true n ∙ and_true (all_below n (λ x. true))

any-false : (n : ℕ) → false ≡ any_below n (λ x. false)
any-false zero = refl
any-false (suc n) = any-false n ∙ or_false (any_below n (λ x. false))

module _ (m : Interp) (e : List ℕ) where
  negation-says : (a : FormulaTree) → truth (negation_of a) m e ≡ not (truth a m e)
  unfolding negation_of
  negation-says t.true_formula = refl
  negation-says t.false_formula = refl
  negation-says a = refl

  and-before-says : (a b : FormulaTree) → truth (and_before a b) m e ≡ (truth a m e && truth b m e)
  unfolding and_before
  and-before-says a t.true_formula = and_true (truth a m e)
  and-before-says a t.false_formula = and_false (truth a m e)
  and-before-says a b = refl

  and-says : (a b : FormulaTree) → truth (and_of a b) m e ≡ (truth a m e && truth b m e)
  unfolding and_of
  and-says t.true_formula b = refl
  and-says t.false_formula b = refl
  and-says a b = and-before-says a b

  or-before-says : (a b : FormulaTree) → truth (or_before a b) m e ≡ (truth a m e || truth b m e)
  unfolding or_before
  or-before-says a t.true_formula = or_true (truth a m e)
  or-before-says a t.false_formula = or_false (truth a m e)
  or-before-says a b = refl

  or-says : (a b : FormulaTree) → truth (or_of a b) m e ≡ (truth a m e || truth b m e)
  unfolding or_of
  or-says t.true_formula b = refl
  or-says t.false_formula b = refl
  or-says a b = or-before-says a b

  implies-before-says : (a b : FormulaTree) → truth (implies_before a b) m e ≡ (not (truth a m e) || truth b m e)
  unfolding implies_before
  implies-before-says a t.true_formula = or_true (not (truth a m e))
  implies-before-says a t.false_formula = negation-says a ∙ or_false (not (truth a m e))
  implies-before-says a b = refl

  implies-says : (a b : FormulaTree) → truth (implies_of a b) m e ≡ (not (truth a m e) || truth b m e)
  unfolding implies_of
  implies-says t.true_formula b = refl
  implies-says t.false_formula b = refl
  implies-says a b = implies-before-says a b

  iff-before-says : (a b : FormulaTree) → truth (iff_before a b) m e ≡ agree (truth a m e) (truth b m e)
  unfolding iff_before
  iff-before-says a t.true_formula = agree_true (truth a m e)
  iff-before-says a t.false_formula = negation-says a ∙ agree_false (truth a m e)
  iff-before-says a b = refl

  iff-says : (a b : FormulaTree) → truth (iff_of a b) m e ≡ agree (truth a m e) (truth b m e)
  unfolding iff_of
  iff-says t.true_formula b = refl
  iff-says t.false_formula b = negation-says b
  iff-says a b = iff-before-says a b

  no_objects : (n : ℕ) → false ≡ all_below (suc n) (λ x. false)
  no_objects n = and_false (all_below n (λ x. false))

  an_object : (n : ℕ) → true ≡ any_below (suc n) (λ x. true)
  an_object n = or_true (any_below n (λ x. true))

  all-says : (a : FormulaTree) → truth (all_of a) m e ≡ every m.last (λ x. truth a m (x ∷ e))
  unfolding all_of
  all-says t.true_formula = all-true (suc m.last)
  all-says t.false_formula = no_objects m.last
  all-says a = refl

  ex-says : (a : FormulaTree) → truth (ex_of a) m e ≡ some m.last (λ x. truth a m (x ∷ e))
  unfolding ex_of
  ex-says t.true_formula = an_object m.last
  ex-says t.false_formula = any-false (suc m.last)
  ex-says a = refl

  mark-says : (k : Mark) (a : FormulaTree) → truth (mark_of k a) m e ≡ truth a m e
  unfolding mark_of
  mark-says k t.true_formula = refl
  mark-says k t.false_formula = refl
  mark-says k a = refl

  -- ---- atoms

  instead-stands : (a : FormulaTree) (s : Polarity) → StandsIn s (truth (instead_of a s) m e) (truth a m e)
  unfolding instead_of
  instead-stands a pol.Positive = λ h. absurd (true≢false (sym h))
  instead-stands a pol.Negative = λ h. refl
  instead-stands a pol.Both = refl

  either-stands : (c : Bool) (a : FormulaTree) (s : Polarity) → StandsIn s (truth (if c then instead_of a s else a) m e) (truth a m e)
  either-stands true a s = instead-stands a s
  either-stands false a s = stands-same s (truth a m e) (truth a m e) refl

  cut-once-stands : (a : FormulaTree) (s : Polarity) → StandsIn s (truth (cut_once a s) m e) (truth a m e)
  unfolding cut_once
  cut-once-stands (t.negation a) s = stands-same s (truth (negation_of a) m e) (not (truth a m e)) (negation-says a)
  cut-once-stands (t.and a b) s = stands-same s (truth (and_of a b) m e) (truth a m e && truth b m e) (and-says a b)
  cut-once-stands (t.or a b) s = stands-same s (truth (or_of a b) m e) (truth a m e || truth b m e) (or-says a b)
  cut-once-stands (t.implies a b) s = stands-same s (truth (implies_of a b) m e) (not (truth a m e) || truth b m e) (implies-says a b)
  cut-once-stands (t.iff a b) s = stands-same s (truth (iff_of a b) m e) (agree (truth a m e) (truth b m e)) (iff-says a b)
  cut-once-stands (t.all a) s = stands-same s (truth (all_of a) m e) (every m.last (λ x. truth a m (x ∷ e))) (all-says a)
  cut-once-stands (t.ex a) s = stands-same s (truth (ex_of a) m e) (some m.last (λ x. truth a m (x ∷ e))) (ex-says a)
  cut-once-stands (t.mark k a) s = stands-same s (truth (mark_of k a) m e) (truth a m e) (mark-says k a)
  cut-once-stands a s = either-stands (holds_foreign a) a s

cutting-sound : Sound cutting
cutting-sound = record {
  object = λ a m e. refl;
  number = λ a m e. refl;
  set = λ a m e. refl;
  field = λ a m e. refl;
  truth = λ a s m e. cut-once-stands m e a s;
}

to-same : (s : Polarity) (p q w : Bool) → StandsIn s p q → q ≡ w → StandsIn s p w
to-same pol.Positive p q w h e = λ k. sym e ∙ h k
to-same pol.Negative p q w h e = λ k. h (e ∙ k)
to-same pol.Both p q w h e = h ∙ e

-- what is left of a formula may stand for it
pub cut-stands : (a : FormulaTree) (s : Polarity) (m : Interp) (e : List ℕ) → StandsIn s (truth (cut a s) m e) (truth a m e)
unfolding cut
cut-stands a s m e = to-same s (truth (cut a s) m e) (truth (iffs_opened a) m e) (truth a m e) (truth-built cutting cutting-sound (iffs_opened a) s m e) (iffs-mean a m e)

pub goal-cut : (a : FormulaTree) (m : Interp) (e : List ℕ) → truth (cut a pol.Positive) m e ≡ true → truth a m e ≡ true
goal-cut a m e h = cut-stands a pol.Positive m e h

pub fact-cut : (a : FormulaTree) (m : Interp) (e : List ℕ) → truth a m e ≡ true → truth (cut a pol.Negative) m e ≡ true
fact-cut a m e h = cut-stands a pol.Negative m e h
