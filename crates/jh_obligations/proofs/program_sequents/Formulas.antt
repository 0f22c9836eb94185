-- What is owed for the command of a method is its formula.
use Rattle.std.proofs.Common.{◌≡◌, Some, ℕ, slice_get}
use Rattle.jh_form.specs.Tree.{FormulaTree, of_truth}
use Rattle.jh_arena.specs.table.Entries.{Listing, the_truth}
use Rattle.jh_arena.specs.table.Nodes.{nodes}
use Rattle.jh_wp.specs.Command.{CommandTree}
use Rattle.jh_wp.specs.Wp.{wp}
use Rattle.jh_weakest.specs.jh_command_terms.declared.command.command.Command.{Command}
use Rattle.jh_weakest.specs.jh_command_terms.command.Code.{command_in}
use Rattle.jh_obligations.specs.command_sequents.Owed.{owed}

pub owed-is : (t : Listing) (c : Command) (r : ℕ) (body : CommandTree) (returned : FormulaTree) → command_in t c ≡ body → slice_get (nodes t) r ≡ Some (of_truth returned) → owed t c r ≡ wp body returned returned
unfolding the_truth
owed-is t c r body returned b e = λ i. wp (b i) (the_truth (e i)) (the_truth (e i))
