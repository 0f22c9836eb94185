-- Propagation adds what is listed at a fixpoint, and nothing else.
use Rattle.std.proofs.Common.{refl, true, List, [], ◌∷◌, ◌++◌, ◌⊎◌, inl, inr}
use Rattle.jh_form.specs.Tree.{FormulaTree}
use Rattle.jh_form.specs.Tree as t
use Rattle.jh_closure.specs.structures.Literals.{LiteralTree, IsListed, AreListed}
use Rattle.jh_closure.proofs.structures.Listed.{meets-listed, meets-all}
use Rattle.jh_models.specs.ground_models.Atoms.{literal, opposite, atom_of, atoms_of, ground_atoms, StandsIn, IsGroundAtom}
use Rattle.jh_models.specs.ground_models.Truths.{IsDenied, IsFalse, IsTrue, IsTrueBy, SomeFalse, AllTrue}
use Rattle.jh_models.specs.ground_models.GroundModel.{IsGroundModel, IsDecided}
use Rattle.jh_models.specs.ground_models.Clashes.{Propagated, AllPropagated, given, forced, equal, other, none, more, IsOpen, Follows}
use Rattle.jh_models.specs.ground_models.Fixpoints.{IsFixed}
use Rattle.jh_models.proofs.ground_models.Growing.{listed-more, some-false-more}

-- what stays listed with one more literal in front of both lists
front-listed : (ks ls : List LiteralTree) (l : LiteralTree) → AreListed ks ls → AreListed (l ∷ ks) ls
front-listed ks [] l h = tt
front-listed ks (m ∷ ms) l h = (inr h.0, front-listed ks ms l h.1)

both-listed : (ks ls : List LiteralTree) (l : LiteralTree) → AreListed ks ls → AreListed (l ∷ ks) (l ∷ ls)
both-listed ks ls l h = (inl refl, front-listed ks ls l h)

module _ (is : List FormulaTree) (ls had : List LiteralTree) (begins : AreListed had ls) (fixed : IsFixed is had) where
  follows-more : (some : List LiteralTree) (l : LiteralTree) → AreListed had some → Follows some l → Follows had l
  follows-more some l h f = λ s met. f s (meets-all s had some h met)

  mutual
    pub fixed-listed : (l : LiteralTree) → Propagated is ls l → IsListed had l
    fixed-listed _ (given l h) = listed-more ls had begins l h
    fixed-listed _ (forced some l hs at h) = fixed.forced l at (some-false-more (opposite l ∷ some) (opposite l ∷ had) (both-listed had some (opposite l) (all-fixed some hs)) is h)
    fixed-listed _ (equal some a hs at e f) = fixed.equal a at e (follows-more some (literal a true) (all-fixed some hs) f)
    fixed-listed _ (other some l hs at e f) = fixed.other l at e (follows-more some l (all-fixed some hs) f)

    all-fixed : (some : List LiteralTree) → AllPropagated is ls some → AreListed had some
    all-fixed _ none = tt
    all-fixed _ (more l rest h hs) = (fixed-listed l h, all-fixed rest hs)

  pub fixed-open : IsOpen is ls
  fixed-open = record {
    none_false = λ some hs h. fixed.none_false (some-false-more some had (all-fixed some hs) is h);
    met = λ none. fixed.met (λ s met. none s (λ l h. meets-listed s had l (fixed-listed l h) met));
  }

-- one of several that stand in a list
stands-left : (xs ys : List FormulaTree) (a : FormulaTree) → StandsIn xs a → StandsIn (xs ++ ys) a
stands-left [] ys a h = absurd h
stands-left (x ∷ xs) ys a (inl e) = inl e
stands-left (x ∷ xs) ys a (inr h) = inr (stands-left xs ys a h)

stands-right : (xs ys : List FormulaTree) (a : FormulaTree) → StandsIn ys a → StandsIn (xs ++ ys) a
stands-right [] ys a h = h
stands-right (x ∷ xs) ys a h = inr (stands-right xs ys a h)

-- literals that decide each atom of an instance make it false or true
module _ (had : List LiteralTree) where
  abbrev DecidesAll : List FormulaTree → Type 0
  DecidesAll atoms = (a : FormulaTree) → StandsIn atoms a → IsDecided had a

  negated-value : (a : FormulaTree) → DecidesAll (atom_of a) → IsTrueBy had a ⊎ IsDenied had a
  negated-value t.true_formula h = inl tt
  negated-value t.false_formula h = inr tt
  negated-value a h = h a (inl refl)

  and-value : {A B C D : Type 0} → A ⊎ C → B ⊎ D → (A ⊎ B) ⊎ (C × D)
  and-value (inl a) _ = inl (inl a)
  and-value (inr c) (inl b) = inl (inr b)
  and-value (inr c) (inr d) = inr (c, d)

  or-value : {A B C D : Type 0} → A ⊎ C → B ⊎ D → (A × B) ⊎ (C ⊎ D)
  or-value (inl a) (inl b) = inl (a, b)
  or-value (inl a) (inr d) = inr (inr d)
  or-value (inr c) _ = inr (inl c)

  swapped : {A B : Type 0} → A ⊎ B → B ⊎ A
  swapped (inl a) = inr a
  swapped (inr b) = inl b

  whole-value : (i : FormulaTree) → DecidesAll (atoms_of i) → IsFalse had i ⊎ IsTrue had i
  whole-value t.true_formula h = inr tt
  whole-value t.false_formula h = inl tt
  whole-value (t.and a b) h = and-value (whole-value a (λ c g. h c (stands-left (atoms_of a) (atoms_of b) c g))) (whole-value b (λ c g. h c (stands-right (atoms_of a) (atoms_of b) c g)))
  whole-value (t.or a b) h = or-value (whole-value a (λ c g. h c (stands-left (atoms_of a) (atoms_of b) c g))) (whole-value b (λ c g. h c (stands-right (atoms_of a) (atoms_of b) c g)))
  whole-value (t.negation a) h = negated-value a h
  whole-value a h = swapped (h a (inl refl))

  all-values : (is : List FormulaTree) → DecidesAll (ground_atoms is) → SomeFalse is had ⊎ AllTrue is had
  all-values [] h = inr tt
  all-values (i ∷ is) h = or-first (whole-value i (λ c g. h c (stands-left (atoms_of i) (ground_atoms is) c g))) (all-values is (λ c g. h c (stands-right (atoms_of i) (ground_atoms is) c g)))
    where
      or-first : {A B C D : Type 0} → A ⊎ C → B ⊎ D → (A ⊎ B) ⊎ (C × D)
      or-first (inl a) _ = inl (inl a)
      or-first (inr c) (inl b) = inl (inr b)
      or-first (inr c) (inr d) = inr (c, d)

-- A fixpoint that decides each ground atom is a ground model.
pub whole-model : (is : List FormulaTree) (had : List LiteralTree) → IsFixed is had → ((l : LiteralTree) → IsListed had l → IsGroundAtom is l.atom) → ((a : FormulaTree) → IsGroundAtom is a → IsDecided had a) → IsGroundModel is had
whole-model is had fixed over decides = record {
  over_atoms = over;
  decides = decides;
  true_in = all-true (all-values had is decides);
  met = fixed.met;
}
  where
    all-true : SomeFalse is had ⊎ AllTrue is had → AllTrue is had
    all-true (inl h) = absurd (fixed.none_false h)
    all-true (inr h) = h
