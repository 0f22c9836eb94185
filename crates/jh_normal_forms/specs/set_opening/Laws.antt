-- What opening sets keeps.
use Rattle.std.specs.Prelude.{◌≡◌, ℕ, List}
use Rattle.jh_form.specs.Tree.{FormulaTree}
use Rattle.jh_form.specs.Meaning.{Interp, truth}
use Rattle.jh_normal_forms.specs.set_opening.SetsOpened.{sets_opened}

-- A formula with its sets opened means what it means.
abbrev pub OpeningKeepsMeaning : Type 0
OpeningKeepsMeaning = (a : FormulaTree) (m : Interp) (e : List ℕ) → truth (sets_opened a) m e ≡ truth a m e
