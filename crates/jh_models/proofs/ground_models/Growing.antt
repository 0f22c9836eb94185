-- More literals decide more: what a list makes false or true, what clashes and what propagation adds stays so.
use Rattle.std.proofs.Common.{subst, true, false, List, [], ◌∷◌, inl, inr}
use Rattle.jh_form.specs.Tree.{FormulaTree}
use Rattle.jh_form.specs.Tree as t
use Rattle.jh_closure.specs.structures.Literals.{LiteralTree, IsListed, AreListed}
use Rattle.jh_closure.proofs.structures.Listed.{more-not-met}
use Rattle.jh_models.specs.ground_models.Atoms.{literal}
use Rattle.jh_models.specs.ground_models.Truths.{IsTrueBy, IsFalse, IsDenied, IsTrue, SomeFalse, AllTrue}
use Rattle.jh_models.specs.ground_models.Clashes.{Clash, Propagated, AllPropagated, given, forced, equal, other, none, more}

-- the literals of the first list stand in the second
module _ (ls ks : List LiteralTree) (there : AreListed ks ls) where
  pub listed-more : (l : LiteralTree) → IsListed ls l → IsListed ks l
  listed-more l h = among ls there l h
    where
      among : (ls : List LiteralTree) → AreListed ks ls → (l : LiteralTree) → IsListed ls l → IsListed ks l
      among [] there l h = absurd h
      among (m ∷ ms) there l (inl e) = subst (λ z. IsListed ks z) e there.0
      among (m ∷ ms) there l (inr h) = among ms there.1 l h

  refuted-more : (a : FormulaTree) → IsTrueBy ls a → IsTrueBy ks a
  refuted-more t.true_formula h = h
  refuted-more t.false_formula h = h
  refuted-more a h = listed-more (literal a true) h

  pub false-more : (i : FormulaTree) → IsFalse ls i → IsFalse ks i
  false-more t.true_formula h = h
  false-more t.false_formula h = h
  false-more (t.and a b) (inl h) = inl (false-more a h)
  false-more (t.and a b) (inr h) = inr (false-more b h)
  false-more (t.or a b) h = (false-more a h.0, false-more b h.1)
  false-more (t.negation a) h = refuted-more a h
  false-more a h = listed-more (literal a false) h

  denied-more : (a : FormulaTree) → IsDenied ls a → IsDenied ks a
  denied-more t.true_formula h = h
  denied-more t.false_formula h = h
  denied-more a h = listed-more (literal a false) h

  pub true-more : (i : FormulaTree) → IsTrue ls i → IsTrue ks i
  true-more t.true_formula h = h
  true-more t.false_formula h = h
  true-more (t.and a b) h = (true-more a h.0, true-more b h.1)
  true-more (t.or a b) (inl h) = inl (true-more a h)
  true-more (t.or a b) (inr h) = inr (true-more b h)
  true-more (t.negation a) h = denied-more a h
  true-more a h = listed-more (literal a true) h

  pub some-false-more : (is : List FormulaTree) → SomeFalse is ls → SomeFalse is ks
  some-false-more [] h = h
  some-false-more (i ∷ is) (inl h) = inl (false-more i h)
  some-false-more (i ∷ is) (inr h) = inr (some-false-more is h)

  pub all-true-more : (is : List FormulaTree) → AllTrue is ls → AllTrue is ks
  all-true-more [] h = h
  all-true-more (i ∷ is) h = (true-more i h.0, all-true-more is h.1)

  pub clash-more : (is : List FormulaTree) → Clash is ls → Clash is ks
  clash-more is (inl h) = inl (more-not-met ls ks there h)
  clash-more is (inr h) = inr (some-false-more is h)

-- Where the literals of a list are there after propagation of another one, so is all that propagation adds to the list.
module _ (is : List FormulaTree) (ls ks : List LiteralTree) (there : (l : LiteralTree) → IsListed ls l → Propagated is ks l) where
  mutual
    pub propagated-through : (l : LiteralTree) → Propagated is ls l → Propagated is ks l
    propagated-through _ (given l h) = there l h
    propagated-through _ (forced had l hs at h) = forced had l (all-through had hs) at h
    propagated-through _ (equal had a hs at e f) = equal had a (all-through had hs) at e f
    propagated-through _ (other had l hs at e f) = other had l (all-through had hs) at e f

    pub all-through : (had : List LiteralTree) → AllPropagated is ls had → AllPropagated is ks had
    all-through _ none = none
    all-through _ (more l rest h hs) = more l rest (propagated-through l h) (all-through rest hs)

-- more literals propagate more
pub propagated-more : (is : List FormulaTree) (ls ks : List LiteralTree) → AreListed ks ls → (l : LiteralTree) → Propagated is ls l → Propagated is ks l
propagated-more is ls ks there l h = propagated-through is ls ks (λ k g. given k (listed-more ls ks there k g)) l h

-- what was added adds nothing more
listed-propagated : (is : List FormulaTree) (ls had : List LiteralTree) → AllPropagated is ls had → (l : LiteralTree) → IsListed had l → Propagated is ls l
listed-propagated is ls _ none l h = absurd h
listed-propagated is ls _ (more k rest g gs) l (inl e) = subst (λ z. Propagated is ls z) e g
listed-propagated is ls _ (more k rest g gs) l (inr h) = listed-propagated is ls rest gs l h

pub propagated-twice : (is : List FormulaTree) (ls had : List LiteralTree) → AllPropagated is ls had → (l : LiteralTree) → Propagated is had l → Propagated is ls l
propagated-twice is ls had hs l h = propagated-through is had ls (listed-propagated is ls had hs) l h
