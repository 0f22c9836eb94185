-- Which command one over the nodes of a table is.
use Rattle.std.specs.Prelude.{◌≡◌, true, List, map}
use Rattle.jh_arena.specs.table.Entries.{Listing}
use Rattle.jh_wp.specs.Command.{CommandTree}
use Rattle.jh_command_terms.specs.declared.command.command.Command.{Command}
use Rattle.jh_command_terms.specs.command.Code.{command_in, command_fits, list_fits}

-- a command is this one, and its nodes stand in the table
pub record IsCommand (t : Listing) (c : Command) (a : CommandTree) : Type 0 where
  pub is : command_in t c ≡ a
  pub fits : command_fits t c ≡ true

-- the same of a list of commands
pub record AreCommands (t : Listing) (cs : List Command) (fs : List CommandTree) : Type 0 where
  pub are : map (command_in t) cs ≡ fs
  pub fits : list_fits t cs ≡ true
