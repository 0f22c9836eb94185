-- A command and two formulas that were entered.
use Rattle.std.proofs.Common.{◌≡◌, ℕ}
use Rattle.jh_form.specs.Tree.{FormulaTree, of_truth}
use Rattle.jh_arena.specs.table.Entries.{Listing}
use Rattle.jh_arena.specs.table.Growth.{Extends}
use Rattle.jh_wp.specs.Command.{CommandTree}
use Rattle.jh_wp.specs.Wp.{wp}
use Rattle.jh_command_terms.specs.command.Code.{truth_at, IsTruth, command_in}
use Rattle.jh_command_terms.proofs.command.CodeSteps.{listed-truth, listed-is_truth}
use Rattle.jh_boxed_commands.specs.declared.conditions.entered.Entered.{Entered}
use Rattle.jh_boxed_commands.specs.conditions.Entered.{IsEntered, Entering}

pub truth-kept : (t u : Listing) (n : ℕ) (a : FormulaTree) → IsTruth t n a → Extends t u → IsTruth u n a
truth-kept t u n a h g = g.nodes.keeps n (of_truth a) h

-- they stand in the table
pub entered-there : (t : Listing) (c : CommandTree) (q r : FormulaTree) (e : Entered) → IsEntered t c q r e → Entering t e
entered-there t c q r e h = record {
  command = h.command.fits;
  normal = listed-is_truth t e.normal q h.normal;
  returned = listed-is_truth t e.returned r h.returned;
}

-- and have their weakest precondition
pub wp-entered : (t : Listing) (c : CommandTree) (q r : FormulaTree) (e : Entered) → IsEntered t c q r e → wp (command_in t e.command) (truth_at t e.normal) (truth_at t e.returned) ≡ wp c q r
wp-entered t c q r e h = λ i. wp (h.command.is i) (listed-truth t e.normal q h.normal i) (listed-truth t e.returned r h.returned i)

pub ruleset entered_steps = (truth-kept, entered-there)
