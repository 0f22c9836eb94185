use Rattle.std.proofs.Common.{◌≡◌, ◌+◌, ◌*◌, map, take}
use Rattle.jh_command_terms.specs.command.Code.{command_in}
use Rattle.jh_boxed_commands.specs.commands.Trees.{command_tree}
use Rattle.jh_boxed_commands.proofs.commands.boxing.+boxed.Given as goal

abbrev pub invariant-boxed_all-loop-step : goal.invariant-boxed_all-loop-step
invariant-boxed_all-loop-step l = map command_tree l.made.items ≡ map (command_in l.table) (take l.step-index l.steps)

-- a command, and the parts of one a level below it
abbrev pub decreases-boxed : goal.decreases-boxed
decreases-boxed l = 2 * l.levels

abbrev pub decreases-boxed_all : goal.decreases-boxed_all
decreases-boxed_all l = 2 * l.levels + 1

abbrev pub decreases-boxed_both : goal.decreases-boxed_both
decreases-boxed_both l = 2 * l.levels + 1
