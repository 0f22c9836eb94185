-- Propagation is sound: what it adds is met by each structure that meets what there was and makes the instances true.
use Rattle.std.proofs.Common.{ℕ, true, false, List, [], ◌∷◌, inl, inr}
use Rattle.jh_form.specs.Tree.{FormulaTree}
use Rattle.jh_form.specs.Tree as t
use Rattle.jh_closure.specs.structures.Structures.{Structure}
use Rattle.jh_closure.specs.structures.Literals.{LiteralTree, MeetsOne, Meets}
use Rattle.jh_closure.proofs.structures.Listed.{meets-listed}
use Rattle.jh_models.specs.ground_models.Atoms.{opposite}
use Rattle.jh_models.specs.ground_models.Truths.{IsTrueBy, IsFalse, SomeFalse}
use Rattle.jh_models.specs.ground_models.Making.{Unmakes, Makes, MakesAll}
use Rattle.jh_models.specs.ground_models.Clashes.{Propagated, AllPropagated, given, forced, equal, other, none, more}
use Rattle.jh_models.proofs.ground_models.Opposites.{met-instead}

module _ {O N T S F : Type 0} (s : Structure O N T S F) (l : LiteralTree) (had : List LiteralTree) (met : Meets s had) where
  refuted-forces : (a : FormulaTree) → IsTrueBy (opposite l ∷ had) a → Unmakes s a → MeetsOne s l.holds l.atom
  refuted-forces t.true_formula h d = absurd d
  refuted-forces t.false_formula h d = absurd h
  refuted-forces a h d = met-instead s l had a true h d met

  -- where the opposite makes an instance false that is true, the literal is met
  pub false-forces : (i : FormulaTree) → IsFalse (opposite l ∷ had) i → Makes s i → MeetsOne s l.holds l.atom
  false-forces t.true_formula h d = absurd h
  false-forces t.false_formula h d = absurd d
  false-forces (t.and a b) (inl h) d = false-forces a h d.0
  false-forces (t.and a b) (inr h) d = false-forces b h d.1
  false-forces (t.or a b) h (inl d) = false-forces a h.0 d
  false-forces (t.or a b) h (inr d) = false-forces b h.1 d
  false-forces (t.negation a) h d = refuted-forces a h d
  false-forces a h d = met-instead s l had a false h d met

  pub some-forces : (is : List FormulaTree) → SomeFalse is (opposite l ∷ had) → MakesAll s is → MeetsOne s l.holds l.atom
  some-forces [] h d = absurd h
  some-forces (i ∷ is) (inl h) d = false-forces i h d.0
  some-forces (i ∷ is) (inr h) d = some-forces is h d.1

module _ (is : List FormulaTree) (ls : List LiteralTree) (s : Structure ℕ ℕ ℕ ℕ ℕ) (made : MakesAll s is) (met : Meets s ls) where
  mutual
    pub propagated-met : (l : LiteralTree) → Propagated is ls l → MeetsOne s l.holds l.atom
    propagated-met _ (given l h) = meets-listed s ls l h met
    propagated-met _ (forced had l hs at h) = some-forces s l had (all-met had hs) is h made
    propagated-met _ (equal had a hs at e f) = f s (all-met had hs)
    propagated-met _ (other had l hs at e f) = f s (all-met had hs)

    pub all-met : (had : List LiteralTree) → AllPropagated is ls had → Meets s had
    all-met _ none = tt
    all-met _ (more l rest h hs) = (propagated-met l h, all-met rest hs)
