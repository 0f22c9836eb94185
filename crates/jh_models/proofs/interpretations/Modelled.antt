-- What an interpretation says of the atoms of instances is a ground model of them where it makes them true.
use Rattle.std.proofs.Common.{◌≡◌, refl, sym, ap, subst, Bool, true, false, not, ◌||◌, List, [], ◌∷◌, ◌++◌, map, ◌⊎◌, inl, inr}
use Rattle.std.specs.List.{list_all}
use Rattle.std.proofs.lemmas.Bool.{true≢false}
use Rattle.jh_form.specs.Tree.{FormulaTree}
use Rattle.jh_form.specs.Tree as t
use Rattle.jh_form.specs.Meaning.{Interp, truth}
use Rattle.jh_form.proofs.ClosedLemmas.{both-left, both-right}
use Rattle.jh_closure.specs.structures.Literals.{LiteralTree, IsListed, MeetsOne, Meets}
use Rattle.jh_derivation_rules.specs.Closes.{AllHold, AreUnsatisfiable}
use Rattle.jh_models.specs.ground_models.Atoms.{literal, atom_of, atoms_of, ground_atoms, StandsIn}
use Rattle.jh_models.specs.ground_models.Truths.{IsDenied, IsTrue, AllTrue}
use Rattle.jh_models.specs.ground_models.GroundModel.{IsGroundModel, IsDecided}
use Rattle.jh_models.specs.interpretations.Instances.{is_local_atom, is_local_instance}
use Rattle.jh_models.proofs.interpretations.Interpreted.{interpreted, says, denies}

stands-or : (xs ys : List FormulaTree) (a : FormulaTree) → StandsIn (xs ++ ys) a → StandsIn xs a ⊎ StandsIn ys a
stands-or [] ys a h = inr h
stands-or (x ∷ xs) ys a (inl e) = inl (inl e)
stands-or (x ∷ xs) ys a (inr h) = later (stands-or xs ys a h)
  where
    later : StandsIn xs a ⊎ StandsIn ys a → StandsIn (x ∷ xs) a ⊎ StandsIn ys a
    later (inl g) = inl (inr g)
    later (inr g) = inr g

stands-left : (xs ys : List FormulaTree) (a : FormulaTree) → StandsIn xs a → StandsIn (xs ++ ys) a
stands-left [] ys a h = absurd h
stands-left (x ∷ xs) ys a (inl e) = inl e
stands-left (x ∷ xs) ys a (inr h) = inr (stands-left xs ys a h)

stands-right : (xs ys : List FormulaTree) (a : FormulaTree) → StandsIn ys a → StandsIn (xs ++ ys) a
stands-right [] ys a h = h
stands-right (x ∷ xs) ys a h = inr (stands-right xs ys a h)

-- each atom of an instance has local shape
abbrev AllAtoms : List FormulaTree → Type 0
AllAtoms xs = (a : FormulaTree) → StandsIn xs a → is_local_atom a ≡ true

one-local : (a : FormulaTree) → is_local_atom a ≡ true → AllAtoms (a ∷ [])
one-local a h b (inl e) = subst (λ z. is_local_atom z ≡ true) e h
one-local a h b (inr g) = absurd g

both-local : (xs ys : List FormulaTree) → AllAtoms xs → AllAtoms ys → AllAtoms (xs ++ ys)
both-local xs ys h k a g = chosen (stands-or xs ys a g)
  where
    chosen : StandsIn xs a ⊎ StandsIn ys a → is_local_atom a ≡ true
    chosen (inl f) = h a f
    chosen (inr f) = k a f

atom-local : (a : FormulaTree) → is_local_atom a ≡ true → AllAtoms (atom_of a)
atom-local t.true_formula h = λ b g. absurd g
atom-local t.false_formula h = λ b g. absurd g
atom-local a h = one-local a h

instance-local : (i : FormulaTree) → is_local_instance i ≡ true → AllAtoms (atoms_of i)
instance-local (t.and a b) h = both-local (atoms_of a) (atoms_of b) (instance-local a (both-left (is_local_instance a) (is_local_instance b) h)) (instance-local b (both-right (is_local_instance a) (is_local_instance b) h))
instance-local (t.or a b) h = both-local (atoms_of a) (atoms_of b) (instance-local a (both-left (is_local_instance a) (is_local_instance b) h)) (instance-local b (both-right (is_local_instance a) (is_local_instance b) h))
instance-local (t.negation a) h = atom-local a h
instance-local t.true_formula h = λ b g. absurd g
instance-local t.false_formula h = λ b g. absurd g
instance-local a h = one-local a h

all-local : (is : List FormulaTree) → list_all is_local_instance is ≡ true → AllAtoms (ground_atoms is)
all-local [] h = λ b g. absurd g
all-local (i ∷ is) h = both-local (atoms_of i) (ground_atoms is) (instance-local i (both-left (is_local_instance i) (list_all is_local_instance is) h)) (all-local is (both-right (is_local_instance i) (list_all is_local_instance is) h))

module _ (m : Interp) where
  abbrev said : FormulaTree → LiteralTree
  said a = literal a (truth a m [])

  abbrev said_of : List FormulaTree → List LiteralTree
  said_of atoms = map said atoms

  one-met : (a : FormulaTree) (p : Bool) → is_local_atom a ≡ true → truth a m [] ≡ p → MeetsOne (interpreted m) p a
  one-met a true h e = says m a h e
  one-met a false h e = denies m a h e

  all-met : (atoms : List FormulaTree) → AllAtoms atoms → Meets (interpreted m) (said_of atoms)
  all-met [] h = tt
  all-met (a ∷ atoms) h = (one-met a (truth a m []) (h a (inl refl)) refl, all-met atoms (λ b g. h b (inr g)))

  listed-atom : (atoms : List FormulaTree) (l : LiteralTree) → IsListed (said_of atoms) l → StandsIn atoms l.atom
  listed-atom [] l h = absurd h
  listed-atom (a ∷ atoms) l (inl e) = inl (ap (λ (z : LiteralTree). z.atom) e)
  listed-atom (a ∷ atoms) l (inr h) = inr (listed-atom atoms l h)

  said-listed : (atoms : List FormulaTree) (a : FormulaTree) → StandsIn atoms a → IsListed (said_of atoms) (said a)
  said-listed [] a h = absurd h
  said-listed (b ∷ atoms) a (inl e) = inl (ap said e)
  said-listed (b ∷ atoms) a (inr h) = inr (said-listed atoms a h)

  listed-so : (atoms : List FormulaTree) (a : FormulaTree) (p : Bool) → StandsIn atoms a → truth a m [] ≡ p → IsListed (said_of atoms) (literal a p)
  listed-so atoms a p h e = subst (λ q. IsListed (said_of atoms) (literal a q)) e (said-listed atoms a h)

  decided : (atoms : List FormulaTree) (a : FormulaTree) (p : Bool) → StandsIn atoms a → truth a m [] ≡ p → IsDecided (said_of atoms) a
  decided atoms a true h e = inl (listed-so atoms a true h e)
  decided atoms a false h e = inr (listed-so atoms a false h e)

  module _ (atoms : List FormulaTree) where
    abbrev Has : List FormulaTree → Type 0
    Has xs = (a : FormulaTree) → StandsIn xs a → StandsIn atoms a

    not-true : (p : Bool) → not p ≡ true → p ≡ false
    not-true true h = absurd (true≢false (sym h))
    not-true false h = refl

    either : (p q : Bool) → (p || q) ≡ true → (p ≡ true) ⊎ (q ≡ true)
    either true q h = inl refl
    either false q h = inr h

    denied-so : (a : FormulaTree) → Has (atom_of a) → truth a m [] ≡ false → IsDenied (said_of atoms) a
    denied-so t.true_formula h e = absurd (true≢false e)
    denied-so t.false_formula h e = tt
    denied-so a h e = listed-so atoms a false (h a (inl refl)) e

    pub true-so : (i : FormulaTree) → is_local_instance i ≡ true → Has (atoms_of i) → truth i m [] ≡ true → IsTrue (said_of atoms) i
    true-so t.true_formula k h e = tt
    true-so t.false_formula k h e = absurd (true≢false (sym e))
    true-so (t.and a b) k h e = (
      true-so a (both-left (is_local_instance a) (is_local_instance b) k) (λ c g. h c (stands-left (atoms_of a) (atoms_of b) c g)) (both-left (truth a m []) (truth b m []) e),
      true-so b (both-right (is_local_instance a) (is_local_instance b) k) (λ c g. h c (stands-right (atoms_of a) (atoms_of b) c g)) (both-right (truth a m []) (truth b m []) e),
    )
    true-so (t.or a b) k h e = elim (either (truth a m []) (truth b m []) e) [
      | inl g ↦ inl (true-so a (both-left (is_local_instance a) (is_local_instance b) k) (λ c f. h c (stands-left (atoms_of a) (atoms_of b) c f)) g)
      | inr g ↦ inr (true-so b (both-right (is_local_instance a) (is_local_instance b) k) (λ c f. h c (stands-right (atoms_of a) (atoms_of b) c f)) g)
    ]
    true-so (t.negation a) k h e = denied-so a h (not-true (truth a m []) e)
    true-so a k h e = listed-so atoms a true (h a (inl refl)) e

    all-so : (is : List FormulaTree) → list_all is_local_instance is ≡ true → Has (ground_atoms is) → AllHold m is → AllTrue is (said_of atoms)
    all-so [] k h e = tt
    all-so (i ∷ is) k h e = (
      true-so i (both-left (is_local_instance i) (list_all is_local_instance is) k) (λ c g. h c (stands-left (atoms_of i) (ground_atoms is) c g)) e.0,
      all-so is (both-right (is_local_instance i) (list_all is_local_instance is) k) (λ c g. h c (stands-right (atoms_of i) (ground_atoms is) c g)) e.1,
    )

  pub truth-model : (is : List FormulaTree) → list_all is_local_instance is ≡ true → AllHold m is → (ls : List LiteralTree) × IsGroundModel is ls
  truth-model is k e = (
    said_of (ground_atoms is),
    record {
      over_atoms = λ l h. listed-atom (ground_atoms is) l h;
      decides = λ a h. decided (ground_atoms is) a (truth a m []) h refl;
      true_in = all-so (ground_atoms is) is k (λ a h. h) e;
      met = λ none. none (interpreted m) (all-met (ground_atoms is) (all-local is k));
    },
  )

pub no-model-clash : (is : List FormulaTree) → list_all is_local_instance is ≡ true → ((ls : List LiteralTree) → IsGroundModel is ls → ⊥) → AreUnsatisfiable is
no-model-clash is k never m inside h = let found = truth-model m is k h in never found.0 found.1
