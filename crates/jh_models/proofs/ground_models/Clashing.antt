-- Where literals clash, no structure meets them and makes the instances true.
use Rattle.std.proofs.Common.{ℕ, true, false, List, [], ◌∷◌, inl, inr}
use Rattle.jh_form.specs.Tree.{FormulaTree}
use Rattle.jh_form.specs.Tree as t
use Rattle.jh_closure.specs.structures.Structures.{Structure}
use Rattle.jh_closure.specs.structures.Literals.{LiteralTree, Meets}
use Rattle.jh_closure.proofs.structures.Listed.{meets-listed}
use Rattle.jh_models.specs.ground_models.Atoms.{literal}
use Rattle.jh_models.specs.ground_models.Truths.{IsTrueBy, IsFalse, SomeFalse}
use Rattle.jh_models.specs.ground_models.Making.{Unmakes, Makes, MakesAll}
use Rattle.jh_models.specs.ground_models.Clashes.{Clash}
use Rattle.jh_models.proofs.ground_models.Opposites.{never-both}

module _ {O N T S F : Type 0} (s : Structure O N T S F) (ls : List LiteralTree) (met : Meets s ls) where
  refuted-unmade : (a : FormulaTree) → IsTrueBy ls a → Unmakes s a → ⊥
  refuted-unmade t.true_formula h d = absurd d
  refuted-unmade t.false_formula h d = absurd h
  refuted-unmade a h d = never-both s a (meets-listed s ls (literal a true) h met) d

  pub false-made : (i : FormulaTree) → IsFalse ls i → Makes s i → ⊥
  false-made t.true_formula h d = absurd h
  false-made t.false_formula h d = absurd d
  false-made (t.and a b) (inl h) d = false-made a h d.0
  false-made (t.and a b) (inr h) d = false-made b h d.1
  false-made (t.or a b) h (inl d) = false-made a h.0 d
  false-made (t.or a b) h (inr d) = false-made b h.1 d
  false-made (t.negation a) h d = refuted-unmade a h d
  false-made a h d = never-both s a d (meets-listed s ls (literal a false) h met)

  pub some-made : (is : List FormulaTree) → SomeFalse is ls → MakesAll s is → ⊥
  some-made [] h d = absurd h
  some-made (i ∷ is) (inl h) d = false-made i h d.0
  some-made (i ∷ is) (inr h) d = some-made is h d.1

pub clash-unmade : (is : List FormulaTree) (ls : List LiteralTree) → Clash is ls → (s : Structure ℕ ℕ ℕ ℕ ℕ) → MakesAll s is → Meets s ls → ⊥
clash-unmade is ls (inl h) s made met = h s met
clash-unmade is ls (inr h) s made met = some-made s ls met is h made
