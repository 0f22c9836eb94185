-- The formulas of a contract at a call.
use Rattle.std.proofs.Common.{◌≡◌, sym, ap, ◌∙◌, subst, ℕ, Bool, List, map, option_map, length, true, slice_get}
use Rattle.std.proofs.lemmas.List.{length-map}
use Rattle.jh_ast.specs.Programs.{ProgramTree}
use Rattle.jh_form.specs.Tree.{FormulaTree}
use Rattle.jh_arena.specs.table.Entries.{Listing, is_truth}
use Rattle.jh_arena.specs.table.Growth.{Extends}
use Rattle.jh_arena.specs.table.Nodes.{nodes}
use Rattle.jh_vars.specs.Written.{Callee}
use Rattle.jh_command_terms.proofs.command.CodeSteps.{is_truth-grows}
use Rattle.jh_semantics.specs.Code.{Text}
use Rattle.jh_semantics.specs.Program.{Program}
use Rattle.jh_guard.specs.Writes.{Writes}
use Rattle.jh_guard.specs.Calls.{CallTurns, call_turns, at_call, renamed_by}
use Rattle.jh_semantics.specs.declared.typed_code.stmts.CallCode.{CallCode}
use Rattle.jh_semantics.specs.declared.typed_code.stmts.Local.{Local}
use Rattle.jh_semantics.specs.typed_code.Codes.{object_code}
use Rattle.jh_semantics.specs.typed_code.Statements.{local_in, target_in}
use Rattle.jh_state_facts.specs.declared.changes.names.SortedName.{SortedName}
use Rattle.jh_state_facts.specs.changes.Added.{sorted_in}
use Rattle.jh_call_commands.specs.declared.contract_instances.calling.Calling.{Calling}
use Rattle.jh_call_commands.specs.contract_instances.Calling.{AreTexts, HasTurns, name_at}
use Rattle.jh_havoc.proofs.of_jh_command_statements.checks.ToldSteps.{formulas-grow}
use Rattle.jh_call_commands.proofs.contract_instances.AtCalls.{renamed-is}
use Rattle.jh_call_commands.specs.declared.calls.called.Surroundings.{Surroundings}
use Rattle.jh_call_commands.specs.declared.calls.called.Called.{Called}
use Rattle.jh_call_commands.specs.calls.Called.{IsCalled, callee_of, turns_for}

pub calling-is : (turns : CallTurns) (c : Calling) (test : Text → Bool) (params : List Local) (written : List SortedName) → c.params.now ≡ params → c.written.now ≡ written → HasTurns turns c → AreTexts test written → (a : FormulaTree) →
    renamed_by (name_at c) a ≡ renamed_by (at_call turns (map local_in params) test) a
calling-is turns c test params written e f has are a =
    sym (renamed-is turns c test has (subst (λ (xs : List SortedName). AreTexts test xs) (sym f) are) a) ∙ ap (λ ps. renamed_by (at_call turns (map local_in ps) test) a) e

-- the turns that the code holds are those of the call
pub turns-are : (p : ProgramTree) (g : Program) (ws : Writes) (t : Listing) (a : Surroundings) (call : CallCode) (x : Called) (k : ℕ) (made : CallTurns) → IsCalled p g ws (callee_of call) t a x →
    made ≡ call_turns (target_in call.target) (option_map object_code call.receiver) (length x.method.now.params) (sorted_in x.written.now) x.method.now.result k → made ≡ turns_for p g ws call x k
turns-are p g ws t a call x k made is e =
    e ∙ (λ i. call_turns (target_in call.target) (option_map object_code call.receiver) (sym (length-map x.method.now.params local_in) i) (is.written i) x.method.now.result k)

-- what a call takes stays so while the table grows
pub called-grows : (p : ProgramTree) (g : Program) (ws : Writes) (m : Callee) (t u : Listing) (a : Surroundings) (x : Called) → Extends t u → IsCalled p g ws m t a x → IsCalled p g ws m u a x
called-grows p g ws m t u a x grows is = record {
  formulas = formulas-grow t u grows p a.formulas.now is.formulas;
  classes = is.classes;
  invariants = is.invariants;
  texts = is.texts;
  written = is.written;
  sets = is.sets;
  framed = is.framed;
}

-- a formula stays one
pub truth-stays : (t u : Listing) (n : ℕ) → Extends t u → is_truth (slice_get (nodes t) n) ≡ true → is_truth (slice_get (nodes u) n) ≡ true
truth-stays t u n g h = is_truth-grows t u g n h
