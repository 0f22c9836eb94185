-- That no run goes on, added to a list of commands; and formulas that stay as the table grows.
use Rattle.std.proofs.Common.{◌≡◌, refl, ◌∙◌, ap, ℕ, Bool, true, false, if◌then◌else◌, List, [], ◌∷◌, ◌++◌, map, sym, slice_get}
use Rattle.jh_ast.specs.Programs.{ProgramTree}
use Rattle.jh_arena.specs.table.Entries.{Listing, is_truth}
use Rattle.jh_arena.specs.table.Growth.{Extends}
use Rattle.jh_arena.specs.table.Nodes.{nodes}
use Rattle.jh_wp.specs.Command as w
use Rattle.jh_command_statements.specs.jh_command_terms.declared.command.command.Command.{Command}
use Rattle.jh_command_statements.specs.jh_command_terms.declared.command.command.Command.TheVariants as c
use Rattle.jh_command_statements.specs.jh_command_terms.command.Code.{command_in, command_fits}
use Rattle.jh_command_statements.proofs.of_jh_command_terms.command.CodeSteps.{is_truth-grows}
use Rattle.jh_semantics.specs.Program.{Program}
use Rattle.jh_semantics.specs.Entry as entry
use Rattle.jh_semantics.specs.declared.typed_code.stmts.Claim.{Claim}
use Rattle.jh_semantics.specs.declared.typed_code.stmts.MethodCode.{MethodCode}
use Rattle.jh_semantics.specs.typed_code.Statements.{claim_in, method_in}
use Rattle.jh_state_facts.specs.changes.Added.{AddsCommands}

pub adds-stop : (t : Listing) (old new : List Command) → new ≡ old ++ c.Stop ∷ [] → AddsCommands t old new (w.stop ∷ [])
unfolding command_in command_fits
adds-stop t old new e = record { added = c.Stop ∷ []; list = e; are = refl; fits = refl }

pub truth-stays : (t u : Listing) (n : ℕ) → is_truth (slice_get (nodes t) n) ≡ true → Extends t u → is_truth (slice_get (nodes u) n) ≡ true
truth-stays t u n h g = is_truth-grows t u g n h

-- the invariants that a method is owed
pub owed-are : (p : ProgramTree) (g : Program) (m : MethodCode) (all claims : List Claim) → g.invariants ≡ map (claim_in p) all → claims ≡ (if m.is_public then all else []) → map (claim_in p) claims ≡ entry.owed g (method_in p m)
owed-are p g m all claims h e = ap (map (claim_in p)) e ∙ by_case m.is_public where
  by_case : (b : Bool) → map (claim_in p) (if b then all else []) ≡ (if b then g.invariants else [])
  by_case true = sym h
  by_case false = refl

pub ruleset stop_steps = (adds-stop)
