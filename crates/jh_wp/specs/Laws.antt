-- What weakest preconditions are.
use Rattle.std.specs.Prelude.{◌≡◌, true, []}
use Rattle.std.specs.List.{list_all}
use Rattle.jh_form.specs.Tree.{FormulaTree}
use Rattle.jh_form.specs.Meaning.{Interp, truth}
use Rattle.jh_wp.specs.Command.{CommandTree, is_closed_command}
use Rattle.jh_wp.specs.Runs.{ends}
use Rattle.jh_wp.specs.Wp.{wp, ends_well}

-- The weakest precondition is true in an interpretation exactly where no guarded run from it fails, each that ends after the command
-- makes q true, and each that ends where the method returns makes r true.
abbrev pub IsWeakest : Type 0
IsWeakest = (c : CommandTree) → is_closed_command c ≡ true → (q r : FormulaTree) (m : Interp) → truth (wp c q r) m [] ≡ list_all (ends_well q r) (ends c m)
