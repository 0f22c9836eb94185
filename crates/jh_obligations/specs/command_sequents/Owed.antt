-- What is owed for a command, and why it has no list of sequents.
use Rattle.std.specs.Prelude.{◌≡◌, ◌<◌, ℕ, length}
use Rattle.jh_name.specs.declared.place.MethodId.{MethodId}
use Rattle.jh_form.specs.Tree.{FormulaTree}
use Rattle.jh_arena.specs.table.Entries.{Listing}
use Rattle.jh_wp.specs.Wp.{wp}
use Rattle.jh_weakest.specs.jh_command_terms.declared.command.command.Command.{Command}
use Rattle.jh_weakest.specs.jh_command_terms.command.Code.{command_in, truth_at}
use Rattle.jh_seq.specs.splitting.Split.{split_of}
use Rattle.jh_seq.specs.counting.Goals.{capped}
use Rattle.jh_obligations.specs.declared.command_sequents.fault.GoalsFault.{GoalsFault}
use Rattle.jh_obligations.specs.declared.command_sequents.fault.GoalsFault.TheVariants as fault

-- the weakest precondition of a command, for a formula to be true after it and where the method returns
abbrev pub owed : Listing → Command → ℕ → FormulaTree
owed t c r = wp (command_in t c) (truth_at t r) (truth_at t r)

-- there are too many sequents, and so many, as far as a number tells; or memory was wanting
abbrev pub IsFault : FormulaTree → GoalsFault → Type 0
IsFault a (fault.TooMany n) = (2000 < n) × ((method : MethodId) (k : ℕ) → n ≡ capped (length (split_of method a k)))
IsFault a fault.Memory = Unit {0}
