-- A command and two formulas that stand in a table.
use Rattle.std.specs.Prelude.{◌≡◌, true}
use Rattle.jh_form.specs.Tree.{FormulaTree}
use Rattle.jh_arena.specs.table.Entries.{Listing}
use Rattle.jh_wp.specs.Command.{CommandTree}
use Rattle.jh_command_terms.specs.command.Code.{command_fits, is_truth_at, IsTruth}
use Rattle.jh_boxed_commands.specs.commands.Standing.{IsCommand}
use Rattle.jh_boxed_commands.specs.declared.conditions.entered.Entered.{Entered}

-- they stand there
pub record Entering (t : Listing) (e : Entered) : Type 0 where
  pub command : command_fits t e.command ≡ true
  pub normal : is_truth_at t e.normal ≡ true
  pub returned : is_truth_at t e.returned ≡ true

-- and are these
pub record IsEntered (t : Listing) (c : CommandTree) (q r : FormulaTree) (e : Entered) : Type 0 where
  pub command : IsCommand t e.command c
  pub normal : IsTruth t e.normal q
  pub returned : IsTruth t e.returned r
