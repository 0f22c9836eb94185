-- What is owed for a command while the table grows.
use Rattle.std.proofs.Common.{◌≡◌, ℕ, true}
use Rattle.std.specs.Prelude.{Result, Ok, Err, IfOk}
use Rattle.jh_arena.specs.table.Entries.{Listing}
use Rattle.jh_arena.specs.table.Growth.{Extends}
use Rattle.jh_wp.specs.Wp.{wp}
use Rattle.jh_weakest.specs.jh_command_terms.declared.command.command.Command.{Command}
use Rattle.jh_weakest.specs.jh_command_terms.command.Code.{command_fits, is_truth_at}
use Rattle.jh_weakest.proofs.of_jh_command_terms.command.CodeSteps.{truth-grows, command-grows}
use Rattle.jh_obligations.specs.command_sequents.Owed.{owed}

pub always : {T E : Type 0} {P : T → Type 0} (r : Result T E) → ((x : T) → P x) → IfOk r P
always (Ok x) h = h x
always (Err e) h = tt

-- what is owed stays
pub owed-grows : (t u : Listing) → Extends t u → (c : Command) (r : ℕ) → command_fits t c ≡ true → is_truth_at t r ≡ true → owed u c r ≡ owed t c r
owed-grows t u g c r fits there = λ i. wp (command-grows t u g c fits i) (truth-grows t u g r there i) (truth-grows t u g r there i)
