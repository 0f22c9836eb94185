-- A ground model of instances is one of some of them, once it is cut down to their atoms.
use Rattle.std.proofs.Common.{◌≡◌, refl, sym, ap, ◌∙◌, subst, Bool, true, false, inl, inr, List, [], ◌∷◌, ◌++◌}
use Rattle.jh_form.specs.Tree.{FormulaTree}
use Rattle.jh_form.specs.Tree as t
use Rattle.jh_closure.specs.structures.Literals.{LiteralTree, IsListed, AreListed}
use Rattle.jh_closure.proofs.structures.Listed.{meets-listed, more-not-met}
use Rattle.jh_models.specs.ground_models.Atoms.{literal, StandsIn, IsGroundAtom, atom_of, atoms_of, ground_atoms}
use Rattle.jh_models.specs.ground_models.Truths.{IsDenied, IsTrue, AllTrue}
use Rattle.jh_models.specs.ground_models.GroundModel.{IsGroundModel, IsDecided, IsMet}
use Rattle.jh_models.proofs.ground_models.Opposites.{not-opposites}
use Rattle.jh_models.proofs.ground_models.Growing.{listed-more}
use Rattle.jh_local.specs.Answers.{HasNoModel}
use Rattle.jh_local.proofs.Among.{AreAmong}
use Rattle.jh_local.proofs.Grounds.{in-both}

-- the literals that decide some atoms
abbrev picked : (m : List LiteralTree) (a : FormulaTree) → IsDecided m a → LiteralTree
picked m a (inl h) = literal a true
picked m a (inr h) = literal a false

abbrev chosen : (m : List LiteralTree) (xs : List FormulaTree) → ((a : FormulaTree) → StandsIn xs a → IsDecided m a) → List LiteralTree
chosen m [] d = []
chosen m (a ∷ xs) d = picked m a (d a (inl refl)) ∷ chosen m xs (λ b h. d b (inr h))

module _ (m : List LiteralTree) where
  picked-over : (a : FormulaTree) (d : IsDecided m a) → a ≡ (picked m a d).atom
  picked-over a (inl h) = refl
  picked-over a (inr h) = refl

  chosen-over : (xs : List FormulaTree) (d : (a : FormulaTree) → StandsIn xs a → IsDecided m a) (l : LiteralTree) → IsListed (chosen m xs d) l → StandsIn xs l.atom
  chosen-over [] d l h = absurd h
  chosen-over (a ∷ xs) d l (inl e) = inl (picked-over a (d a (inl refl)) ∙ ap (λ (z : LiteralTree). z.atom) e)
  chosen-over (a ∷ xs) d l (inr h) = inr (chosen-over xs (λ b k. d b (inr k)) l h)

  picked-listed : (a : FormulaTree) (d : IsDecided m a) → IsListed m (picked m a d)
  picked-listed a (inl h) = h
  picked-listed a (inr h) = h

  chosen-listed : (xs : List FormulaTree) (d : (a : FormulaTree) → StandsIn xs a → IsDecided m a) → AreListed m (chosen m xs d)
  chosen-listed [] d = tt
  chosen-listed (a ∷ xs) d = (picked-listed a (d a (inl refl)), chosen-listed xs (λ b k. d b (inr k)))

  picked-decides : (a : FormulaTree) (d : IsDecided m a) (ls : List LiteralTree) → IsDecided (picked m a d ∷ ls) a
  picked-decides a (inl h) ls = inl (inl refl)
  picked-decides a (inr h) ls = inr (inl refl)

  decided-later : (l : LiteralTree) (ls : List LiteralTree) (a : FormulaTree) → IsDecided ls a → IsDecided (l ∷ ls) a
  decided-later l ls a (inl h) = inl (inr h)
  decided-later l ls a (inr h) = inr (inr h)

  chosen-decides : (xs : List FormulaTree) (d : (a : FormulaTree) → StandsIn xs a → IsDecided m a) (a : FormulaTree) → StandsIn xs a → IsDecided (chosen m xs d) a
  chosen-decides [] d a h = absurd h
  chosen-decides (b ∷ bs) d a (inl e) =
      subst (λ (z : FormulaTree). IsDecided (chosen m (b ∷ bs) d) z) e (picked-decides b (d b (inl refl)) (chosen m bs (λ c k. d c (inr k))))
  chosen-decides (b ∷ bs) d a (inr h) =
      decided-later (picked m b (d b (inl refl))) (chosen m bs (λ c k. d c (inr k))) a (chosen-decides bs (λ c k. d c (inr k)) a h)

  module _ (met : IsMet m) where
    not-both : (a : FormulaTree) → IsListed m (literal a true) → IsListed m (literal a false) → ⊥
    not-both a held denied = met (λ s meets. not-opposites s a true (meets-listed s m (literal a true) held meets) (meets-listed s m (literal a false) denied meets))

    -- what decides an atom, among the literals of a model, says of it what the model says
    kept : (ls : List LiteralTree) → AreListed m ls → (a : FormulaTree) (p : Bool) → IsDecided ls a → IsListed m (literal a p) → IsListed ls (literal a p)
    kept ls there a true (inl h) k = h
    kept ls there a true (inr h) k = absurd (not-both a k (listed-more ls m there (literal a false) h))
    kept ls there a false (inl h) k = absurd (not-both a (listed-more ls m there (literal a true) h) k)
    kept ls there a false (inr h) k = h

-- what literals make true others do that say the same of its atoms
module _ (m ls : List LiteralTree) where
  abbrev SaysSame : List FormulaTree → Type 0
  SaysSame xs = (a : FormulaTree) (p : Bool) → StandsIn xs a → IsListed m (literal a p) → IsListed ls (literal a p)

  denied-same : (a : FormulaTree) → SaysSame (atom_of a) → IsDenied m a → IsDenied ls a
  denied-same t.true_formula k h = h
  denied-same t.false_formula k h = h
  denied-same a k h = k a false (inl refl) h

stands-left : (a : FormulaTree) (xs ys : List FormulaTree) → StandsIn xs a → StandsIn (xs ++ ys) a
stands-left a [] ys h = absurd h
stands-left a (x ∷ xs) ys (inl e) = inl e
stands-left a (x ∷ xs) ys (inr h) = inr (stands-left a xs ys h)

stands-right : (a : FormulaTree) (xs ys : List FormulaTree) → StandsIn ys a → StandsIn (xs ++ ys) a
stands-right a [] ys h = h
stands-right a (x ∷ xs) ys h = inr (stands-right a xs ys h)

module _ (m ls : List LiteralTree) where
  same-left : (xs ys : List FormulaTree) → SaysSame m ls (xs ++ ys) → SaysSame m ls xs
  same-left xs ys k = λ a p s h. k a p (stands-left a xs ys s) h

  same-right : (xs ys : List FormulaTree) → SaysSame m ls (xs ++ ys) → SaysSame m ls ys
  same-right xs ys k = λ a p s h. k a p (stands-right a xs ys s) h

  true-same : (i : FormulaTree) → SaysSame m ls (atoms_of i) → IsTrue m i → IsTrue ls i
  true-same t.true_formula k h = h
  true-same t.false_formula k h = h
  true-same (t.and a b) k h =
      (true-same a (same-left (atoms_of a) (atoms_of b) k) h.0, true-same b (same-right (atoms_of a) (atoms_of b) k) h.1)
  true-same (t.or a b) k (inl h) = inl (true-same a (same-left (atoms_of a) (atoms_of b) k) h)
  true-same (t.or a b) k (inr h) = inr (true-same b (same-right (atoms_of a) (atoms_of b) k) h)
  true-same (t.negation a) k h = denied-same m ls a k h
  true-same a k h = k a true (inl refl) h

  true-of : (is : List FormulaTree) → AllTrue is m → (i : FormulaTree) → StandsIn is i → IsTrue m i
  true-of [] h i s = absurd s
  true-of (j ∷ is) h i (inl e) = subst (λ (z : FormulaTree). IsTrue m z) e h.0
  true-of (j ∷ is) h i (inr s) = true-of is h.1 i s

  all-same : (is some : List FormulaTree) → AreAmong is some → AllTrue is m → SaysSame m ls (ground_atoms some) → AllTrue some ls
  all-same is [] among h k = tt
  all-same is (i ∷ some) among h k =
      (true-same i (same-left (atoms_of i) (ground_atoms some) k) (true-of is h i among.0), all-same is some among.1 h (same-right (atoms_of i) (ground_atoms some) k))

-- the atoms of some instances are atoms of all
of-one : (is : List FormulaTree) (i a : FormulaTree) → StandsIn is i → StandsIn (atoms_of i) a → IsGroundAtom is a
of-one [] i a s h = absurd s
of-one (j ∷ is) i a (inl e) h = stands-left a (atoms_of j) (ground_atoms is) (subst (λ (z : FormulaTree). StandsIn (atoms_of z) a) (sym e) h)
of-one (j ∷ is) i a (inr s) h = stands-right a (atoms_of j) (ground_atoms is) (of-one is i a s h)

atom-among : (is some : List FormulaTree) → AreAmong is some → (a : FormulaTree) → IsGroundAtom some a → IsGroundAtom is a
atom-among is [] among a h = absurd h
atom-among is (i ∷ some) among a h =
    elim (in-both a (atoms_of i) (ground_atoms some) h) [
      | inl l ↦ of-one is i a among.0 l
      | inr r ↦ atom-among is some among.1 a r
    ]

-- instances have no ground model where some of them have none
pub no-model : (is some : List FormulaTree) → AreAmong is some → HasNoModel some → HasNoModel is
no-model is some among none m model =
    let xs : List FormulaTree = ground_atoms some in
    let d : (a : FormulaTree) → StandsIn xs a → IsDecided m a = λ a h. model.decides a (atom-among is some among a h) in
    let ls : List LiteralTree = chosen m xs d in
    let there : AreListed m ls = chosen-listed m xs d in
    none ls (record {
      over_atoms = chosen-over m xs d;
      decides = chosen-decides m xs d;
      true_in = all-same m ls is some among model.true_in (λ a p s h. kept m model.met ls there a p (chosen-decides m xs d a s) h);
      met = λ unmet. model.met (more-not-met ls m there unmet);
    })
