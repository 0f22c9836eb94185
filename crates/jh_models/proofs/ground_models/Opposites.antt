-- A literal and its opposite, and that no structure meets both.
use Rattle.std.proofs.Common.{◌≡◌, refl, sym, ap, ◌∙◌, subst, Bool, true, false, not, List, ◌∷◌, inl, inr}
use Rattle.jh_form.specs.Tree.{FormulaTree}
use Rattle.jh_form.specs.Tree as t
use Rattle.jh_closure.specs.structures.Structures.{Structure}
use Rattle.jh_closure.specs.structures.Literals.{LiteralTree, Says, Denies, MeetsOne, Meets, IsListed}
use Rattle.jh_closure.proofs.structures.Listed.{meets-listed}
use Rattle.jh_models.specs.ground_models.Atoms.{literal, opposite}

pub not-not : (p : Bool) → not (not p) ≡ p
not-not true = refl
not-not false = refl

-- where the opposite of a literal is one, the literal is the opposite of that
pub turned : (l : LiteralTree) (a : FormulaTree) (p : Bool) → opposite l ≡ literal a p → l ≡ literal a (not p)
turned l a p e = λ i. record { atom = (ap (λ z. z.atom) e) i; holds = (sym (not-not l.holds) ∙ ap (λ z. not z.holds) e) i }

module _ {O N T S F : Type 0} (s : Structure O N T S F) where
  pub never-both : (a : FormulaTree) → Says s a → Denies s a → ⊥
  never-both (t.eq_object a b) h d = d h
  never-both (t.eq_number a b) h d = d h
  never-both (t.eq_set a b) h d = d h
  never-both (t.iff a b) h d = d h
  never-both (t.mark k a) h d = never-both a h d
  never-both _ h d = s.truths_differ (sym h ∙ d)

  pub not-opposites : (a : FormulaTree) (p : Bool) → MeetsOne s p a → MeetsOne s (not p) a → ⊥
  not-opposites a true h d = never-both a h d
  not-opposites a false d h = never-both a h d

  -- a literal is met where the opposite of a listed one is, and that one is its own opposite or one that is met
  pub met-instead : (l : LiteralTree) (had : List LiteralTree) (a : FormulaTree) (p : Bool) → IsListed (opposite l ∷ had) (literal a p) → MeetsOne s (not p) a → Meets s had → MeetsOne s l.holds l.atom
  met-instead l had a p (inl e) d met = subst (λ (z : LiteralTree). MeetsOne s z.holds z.atom) (sym (turned l a p e)) d
  met-instead l had a p (inr later) d met = absurd (not-opposites a p (meets-listed s had (literal a p) later met) d)
