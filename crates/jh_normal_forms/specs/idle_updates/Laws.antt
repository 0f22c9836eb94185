-- What dropping keeps.
use Rattle.std.specs.Prelude.{◌≡◌, ℕ, List}
use Rattle.jh_form.specs.Tree.{FormulaTree}
use Rattle.jh_form.specs.Meaning.{Interp, truth}
use Rattle.jh_normal_forms.specs.idle_updates.Dropped.{dropped}

-- A formula without the updates that change nothing means what it means.
abbrev pub DroppingKeepsMeaning : Type 0
DroppingKeepsMeaning = (a : FormulaTree) (m : Interp) (e : List ℕ) → truth (dropped a) m e ≡ truth a m e
