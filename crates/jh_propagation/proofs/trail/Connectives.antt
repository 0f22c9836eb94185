-- What literals say of instances by the connectives alone: only those over atoms of an instance count.
use Rattle.std.proofs.Common.{◌≡◌, refl, sym, ap, ◌∙◌, subst, true, false, List, [], ◌∷◌, ◌++◌, ◌⊎◌, inl, inr}
use Rattle.jh_form.specs.Tree.{FormulaTree}
use Rattle.jh_form.specs.Tree as t
use Rattle.jh_closure.specs.structures.Literals.{LiteralTree, IsListed}
use Rattle.jh_models.specs.ground_models.Atoms.{literal, opposite, atom_of, atoms_of, StandsIn}
use Rattle.jh_models.specs.ground_models.GroundModel.{IsDecided}
use Rattle.jh_models.specs.ground_models.Truths.{IsTrueBy, IsFalse, IsDenied, IsTrue}

pub stands-left : (xs ys : List FormulaTree) (a : FormulaTree) → StandsIn xs a → StandsIn (xs ++ ys) a
stands-left [] ys a h = absurd h
stands-left (b ∷ xs) ys a (inl e) = inl e
stands-left (b ∷ xs) ys a (inr h) = inr (stands-left xs ys a h)

pub stands-right : (xs ys : List FormulaTree) (a : FormulaTree) → StandsIn ys a → StandsIn (xs ++ ys) a
stands-right [] ys a h = h
stands-right (b ∷ xs) ys a h = inr (stands-right xs ys a h)

pub stands-either : (xs ys : List FormulaTree) (a : FormulaTree) → StandsIn (xs ++ ys) a → StandsIn xs a ⊎ StandsIn ys a
stands-either [] ys a h = inr h
stands-either (b ∷ xs) ys a (inl e) = inl (inl e)
stands-either (b ∷ xs) ys a (inr h) = elim (stands-either xs ys a h) [ inl l ↦ inl (inr l) | inr r ↦ inr r ]

-- where the literals over these atoms stand in the second list
module _ (ls ks : List LiteralTree) where
  abbrev pub Keeps : List FormulaTree → Type 0
  Keeps xs = (l : LiteralTree) → StandsIn xs l.atom → IsListed ls l → IsListed ks l

  kept-refuted : (a : FormulaTree) → Keeps (atom_of a) → IsTrueBy ls a → IsTrueBy ks a
  kept-refuted t.true_formula h r = r
  kept-refuted t.false_formula h r = r
  kept-refuted a h r = h (literal a true) (inl refl) r

  -- it makes false what the first makes false
  pub kept-false : (i : FormulaTree) → Keeps (atoms_of i) → IsFalse ls i → IsFalse ks i
  kept-false t.true_formula h r = r
  kept-false t.false_formula h r = r
  kept-false (t.and a b) h (inl r) = inl (kept-false a (λ l s. h l (stands-left (atoms_of a) (atoms_of b) l.atom s)) r)
  kept-false (t.and a b) h (inr r) = inr (kept-false b (λ l s. h l (stands-right (atoms_of a) (atoms_of b) l.atom s)) r)
  kept-false (t.or a b) h r = (
    kept-false a (λ l s. h l (stands-left (atoms_of a) (atoms_of b) l.atom s)) r.0,
    kept-false b (λ l s. h l (stands-right (atoms_of a) (atoms_of b) l.atom s)) r.1,
  )
  kept-false (t.negation a) h r = kept-refuted a h r
  kept-false a h r = h (literal a false) (inl refl) r

-- a literal on another atom says nothing
module _ (ls : List LiteralTree) (k : LiteralTree) (i : FormulaTree) (none : StandsIn (atoms_of i) k.atom → ⊥) where
  not-it : (l : LiteralTree) → StandsIn (atoms_of i) l.atom → k ≡ l → ⊥
  not-it l s e = none (subst (λ (z : LiteralTree). StandsIn (atoms_of i) z.atom) (sym e) s)

  pub other-alone : IsFalse (k ∷ ls) i → IsFalse ls i
  other-alone r = kept-false (k ∷ ls) ls i (λ l s h. elim h [ inl e ↦ absurd (not-it l s e) | inr later ↦ later ]) r

  pub other-beside : (l : LiteralTree) → IsFalse (opposite l ∷ k ∷ ls) i → IsFalse (opposite l ∷ ls) i
  other-beside l r = kept-false (opposite l ∷ k ∷ ls) (opposite l ∷ ls) i (λ m s h. elim h [ inl e ↦ inl e | inr later ↦ elim later [ inl e ↦ absurd (not-it m s e) | inr last ↦ inr last ] ]) r

-- where one more literal makes an instance false, its atom stands there or the instance was false
module _ (ls : List LiteralTree) (l : LiteralTree) where
  listed-or : (a : FormulaTree) (k : LiteralTree) → k.atom ≡ a → IsListed (opposite l ∷ ls) k → IsListed ls k ⊎ StandsIn (a ∷ []) l.atom
  listed-or a k at (inl e) = inr (inl (sym (ap (λ (z : LiteralTree). z.atom) e ∙ at)))
  listed-or a k at (inr h) = inl h

  refuted-or : (a : FormulaTree) → IsTrueBy (opposite l ∷ ls) a → IsTrueBy ls a ⊎ StandsIn (atom_of a) l.atom
  refuted-or t.true_formula r = inl r
  refuted-or t.false_formula r = inl r
  refuted-or a r = listed-or a (literal a true) refl r

  pub false-or : (i : FormulaTree) → IsFalse (opposite l ∷ ls) i → IsFalse ls i ⊎ StandsIn (atoms_of i) l.atom
  false-or t.true_formula r = inl r
  false-or t.false_formula r = inl r
  false-or (t.and a b) (inl r) = elim (false-or a r) [ inl h ↦ inl (inl h) | inr s ↦ inr (stands-left (atoms_of a) (atoms_of b) l.atom s) ]
  false-or (t.and a b) (inr r) = elim (false-or b r) [ inl h ↦ inl (inr h) | inr s ↦ inr (stands-right (atoms_of a) (atoms_of b) l.atom s) ]
  false-or (t.or a b) r = elim (false-or a r.0) [
    | inl h ↦ elim (false-or b r.1) [ inl k ↦ inl (h, k) | inr s ↦ inr (stands-right (atoms_of a) (atoms_of b) l.atom s) ]
    | inr s ↦ inr (stands-left (atoms_of a) (atoms_of b) l.atom s)
  ]
  false-or (t.negation a) r = refuted-or a r
  false-or a r = listed-or a (literal a false) refl r

-- where each atom is decided, the instance is false or true
module _ (ls : List LiteralTree) where
  settled-denied : (a : FormulaTree) → ((b : FormulaTree) → StandsIn (atom_of a) b → IsDecided ls b) → IsTrueBy ls a ⊎ IsDenied ls a
  settled-denied t.true_formula h = inl tt
  settled-denied t.false_formula h = inr tt
  settled-denied a h = h a (inl refl)

  turned : (a : FormulaTree) → IsDecided ls a → IsListed ls (literal a false) ⊎ IsListed ls (literal a true)
  turned a (inl held) = inr held
  turned a (inr denied) = inl denied

  pub settled : (i : FormulaTree) → ((a : FormulaTree) → StandsIn (atoms_of i) a → IsDecided ls a) → IsFalse ls i ⊎ IsTrue ls i
  settled t.true_formula h = inr tt
  settled t.false_formula h = inl tt
  settled (t.and a b) h = elim (settled a (λ c s. h c (stands-left (atoms_of a) (atoms_of b) c s))) [
    | inl denied ↦ inl (inl denied)
    | inr held ↦ elim (settled b (λ c s. h c (stands-right (atoms_of a) (atoms_of b) c s))) [ inl denied ↦ inl (inr denied) | inr both ↦ inr (held, both) ]
  ]
  settled (t.or a b) h = elim (settled a (λ c s. h c (stands-left (atoms_of a) (atoms_of b) c s))) [
    | inl denied ↦ elim (settled b (λ c s. h c (stands-right (atoms_of a) (atoms_of b) c s))) [ inl other ↦ inl (denied, other) | inr held ↦ inr (inr held) ]
    | inr held ↦ inr (inl held)
  ]
  settled (t.negation a) h = settled-denied a h
  settled a h = turned a (h a (inl refl))
