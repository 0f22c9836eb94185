-- A call and the method that is called, as the code holds them.
use Rattle.std.specs.Prelude.{◌≡◌, ℕ, List, [], ◌∷◌, map, filter, Option, Some, None, option_map, slice_get}
use Rattle.jh_ast.specs.Programs.{ProgramTree}
use Rattle.jh_form.specs.Tree.{ValueTree, FormulaTree, of_object}
use Rattle.jh_form.specs.Tree as t
use Rattle.jh_arena.specs.table.Entries.{Listing}
use Rattle.jh_arena.specs.table.Nodes.{nodes}
use Rattle.jh_vars.specs.Written.{Callee}
use Rattle.jh_wp.specs.Command.{CommandTree}
use Rattle.jh_semantics.specs.Code as c
use Rattle.jh_semantics.specs.Program.{Program}
use Rattle.jh_guard.specs.Terms.{object_term}
use Rattle.jh_guard.specs.Items.{sorted_item, is_of_objects, items_where}
use Rattle.jh_guard.specs.Writes.{Writes}
use Rattle.jh_guard.specs.Frames.{framed}
use Rattle.jh_guard.specs.Calls.{CallTurns, turns_of, call_commands}
use Rattle.jh_semantics.specs.declared.typed_code.stmts.CallCode.{CallCode}
use Rattle.jh_semantics.specs.typed_code.Codes.{object_code, any_code}
use Rattle.jh_semantics.specs.typed_code.Statements.{target_in, claim_in, method_in}
use Rattle.jh_state_facts.specs.changes.Added.{sorted_in, chosen}
use Rattle.jh_havoc.specs.jh_command_statements.checks.Told.{AreFormulas}
use Rattle.jh_call_commands.specs.contract_instances.Calling.{AreTexts}
use Rattle.jh_call_commands.specs.declared.calls.called.Surroundings.{Surroundings}
use Rattle.jh_call_commands.specs.declared.calls.called.Called.{Called}

-- the method that a call names
abbrev pub callee_of : CallCode → Callee
callee_of x = record { class = x.class; name = x.method }

-- What the code has round a call is that of a program g, which the source p is, and what it has of the called method is that of method m.
pub record IsCalled (p : ProgramTree) (g : Program) (ws : Writes) (m : Callee) (t : Listing) (a : Surroundings) (x : Called) : Type 0 where
  pub formulas : AreFormulas p t a.formulas.now
  pub classes : g.classes ≡ a.classes.now
  pub invariants : g.invariants ≡ map (claim_in p) a.invariants.now
  pub texts : AreTexts (ws.written m) x.written.now
  pub written : sorted_in x.written.now ≡ map sorted_item (items_where g (ws.written m))
  pub sets : sorted_in x.sets.now ≡ map sorted_item (filter is_of_objects (items_where g (ws.written m)))
  pub framed : chosen a.classes.now a.members.now x.framed.now ≡ framed g ws m

-- the turns of a call, and its commands
abbrev pub turns_for : ProgramTree → Program → Writes → CallCode → Called → ℕ → CallTurns
turns_for p g ws call x k =
    turns_of g ws t.true_formula (target_in call.target) (option_map object_code call.receiver) (callee_of call) (method_in p x.method.now) (map any_code call.args) k

abbrev pub commands_for : ProgramTree → Program → Writes → FormulaTree → CallCode → Called → ℕ → List CommandTree
commands_for p g ws wf call x k =
    call_commands g ws wf call.place (target_in call.target) (option_map object_code call.receiver) call.receiver_place (callee_of call) (method_in p x.method.now) (map any_code call.args)
    (turns_for p g ws call x k)

-- A receiver has the node of its term, and where there is none there is no node.
unfoldable pub IsKept : Listing → Option ℕ → Option c.ObjectCode → Type 0
IsKept t None None = Unit {0}
IsKept t (Some n) (Some r) = slice_get (nodes t) n ≡ Some (of_object (object_term r))
IsKept t None (Some r) = ⊥
IsKept t (Some n) None = ⊥

-- one by one these nodes are those values
unfoldable pub AreValues : Listing → List ℕ → List ValueTree → Type 0
AreValues t [] [] = Unit {0}
AreValues t [] (v ∷ vs) = ⊥
AreValues t (n ∷ ns) [] = ⊥
AreValues t (n ∷ ns) (v ∷ vs) = (slice_get (nodes t) n ≡ Some v) × AreValues t ns vs
