use Rattle.std.proofs.Common.{◌+◌, ◌*◌, map, take}
use Rattle.jh_arena.specs.table.Growth.{Extends}
use Rattle.jh_boxed_commands.specs.commands.Standing.{AreCommands}
use Rattle.jh_boxed_commands.specs.commands.Trees.{command_tree}
use Rattle.jh_boxed_commands.proofs.commands.entering.+entered.Given as goal

abbrev pub invariant-entered_all-loop-step : goal.invariant-entered_all-loop-step
invariant-entered_all-loop-step l = record {
  grows : Extends l.initial.table l.table;
  commands : AreCommands l.table l.made.items (map command_tree (take l.step-index l.steps));
}

-- a command, and the parts of one a level below it
abbrev pub decreases-entered : goal.decreases-entered
decreases-entered l = 2 * l.levels

abbrev pub decreases-entered_all : goal.decreases-entered_all
decreases-entered_all l = 2 * l.levels + 1

abbrev pub decreases-entered_both : goal.decreases-entered_both
decreases-entered_both l = 2 * l.levels + 1
