-- What splitting keeps.
use Rattle.std.specs.Prelude.{◌≡◌, ◌↔◌, ℕ, true, List, [], ◌∷◌}
use Rattle.jh_name.specs.declared.place.MethodId.{MethodId}
use Rattle.jh_form.specs.Tree.{FormulaTree}
use Rattle.jh_form.specs.Meaning.{Interp, InUniverse, truth}
use Rattle.jh_form.specs.Passing.{formula_passes}
use Rattle.jh_seq.specs.sequent.Sequents.{SequentTree, IsValid}
use Rattle.jh_seq.specs.splitting.Split.{split_of, before}

-- A formula is valid where it is true in every interpretation.
abbrev pub IsTautology : FormulaTree → Type 0
IsTautology a = (m : Interp) → InUniverse m → truth a m [] ≡ true

abbrev pub AllValid : List SequentTree → Type 0
AllValid [] = Unit {0}
AllValid (s ∷ ss) = IsValid s × AllValid ss

-- All sequents of a formula are valid exactly where the formula is, whichever free constants are taken.
abbrev pub SplitIsExact : Type 0
SplitIsExact = (method : MethodId) (a : FormulaTree) (k : ℕ) → formula_passes a (before k) ≡ true → AllValid (split_of method a k) ↔ IsTautology a
