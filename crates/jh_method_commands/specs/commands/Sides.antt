-- One command over the nodes of a table, and lists that got longer.
use Rattle.std.specs.Prelude.{◌≡◌, true, List, ◌++◌}
use Rattle.jh_arena.specs.table.Entries.{Listing}
use Rattle.jh_wp.specs.Command.{CommandTree}
use Rattle.jh_call_commands.specs.jh_command_terms.declared.command.command.Command.{Command}
use Rattle.jh_call_commands.specs.jh_command_terms.command.Code.{command_in, command_fits}

-- a command is this one, and its nodes stand in the table
pub record IsCommand (t : Listing) (c : Command) (a : CommandTree) : Type 0 where
  pub is : command_in t c ≡ a
  pub fits : command_fits t c ≡ true

-- the second list begins with the first
abbrev pub IsLonger : {X : Type 0} → List X → List X → Type 0
IsLonger {X} old new = (more : List X) × (new ≡ old ++ more)
