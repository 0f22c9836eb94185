-- What cutting keeps.
use Rattle.std.specs.Prelude.{◌≡◌, ℕ, true, List}
use Rattle.jh_form.specs.Tree.{FormulaTree}
use Rattle.jh_form.specs.Meaning.{Interp, truth}
use Rattle.jh_normal_forms.specs.declared.rebuilding.polarity.Polarity.TheVariants as pol
use Rattle.jh_fca.specs.cutting.Cut.{cut}

-- Where what is left of a goal is true, so is the goal; where a hypothesis is true, so is what is left of it.
pub record CutStands (a : FormulaTree) (m : Interp) (e : List ℕ) : Type 0 where
  pub goal : truth (cut a pol.Positive) m e ≡ true → truth a m e ≡ true
  pub fact : truth a m e ≡ true → truth (cut a pol.Negative) m e ≡ true

abbrev pub CutMayStand : Type 0
CutMayStand = (a : FormulaTree) (m : Interp) (e : List ℕ) → CutStands a m e
