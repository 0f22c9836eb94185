-- Calls of the methods of an outline.
use Rattle.std.proofs.Common.{◌≡◌, refl, sym, ap, ◌∙◌, subst, ℕ, List, [], ◌∷◌, map, filter, Option, Some, None, option_map}
use Rattle.std.specs.Option.{option_map_or}
use Rattle.std.specs.List.{list_any}
use Rattle.jh_arena.specs.table.Entries.{Listing}
use Rattle.jh_form.specs.Tree as t
use Rattle.jh_rules.specs.Words.{same_text}
use Rattle.jh_vars.specs.Written.{Callee}
use Rattle.jh_wp.specs.Command.{CommandTree}
use Rattle.jh_semantics.specs.Program.{Method}
use Rattle.jh_guard.specs.Items.{sorted_item, items_where, is_of_objects}
use Rattle.jh_guard.specs.Calls.{turns_of, call_commands}
use Rattle.jh_semantics.specs.declared.typed_code.stmts.CallCode.{CallCode}
use Rattle.jh_semantics.specs.declared.typed_code.stmts.MethodCode.{MethodCode}
use Rattle.jh_semantics.specs.typed_code.Codes.{object_code, any_code}
use Rattle.jh_semantics.specs.typed_code.Statements.{target_in, claim_in, method_in, call_in}
use Rattle.jh_state_facts.specs.declared.well_formedness.state.Known.{Known}
use Rattle.jh_state_facts.specs.declared.changes.names.SortedName.{SortedName}
use Rattle.jh_state_facts.specs.changes.Added.{sorted_in, chosen}
use Rattle.jh_method_commands.specs.declared.environment.outline.Outline.{Outline}
use Rattle.jh_method_commands.specs.declared.environment.outline.Callable.{Callable}
use Rattle.jh_method_commands.specs.environment.Outlines.{IsOutline, IsCallable, program_in, writes_in, source_of, method_of, standing, written_by, framed_by}
use Rattle.jh_method_commands.specs.environment.Outlines as known
use Rattle.jh_method_commands.proofs.environment.OutlineSteps.{program-classes, program-invariants, program-method, writes-written}
use Rattle.jh_call_commands.specs.contract_instances.Calling.{AreTexts, is_among}
use Rattle.jh_call_commands.specs.jh_command_statements.checks.Told.{AreFormulas}
use Rattle.jh_call_commands.specs.declared.calls.called.Called.{Called}
use Rattle.jh_call_commands.specs.declared.calls.called.Surroundings.{Surroundings}
use Rattle.jh_call_commands.specs.calls.Called.{IsCalled, callee_of, turns_for, commands_for}
use Rattle.jh_method_commands.specs.commands.Made.{formed_in, commands_of, turn_behind}

-- the method of a callable
pub method-there : (o : Outline) (x : Callable) (m : Callee) → IsCallable o x → known.callee_of x ≡ m → (program_in o).method m ≡ Some (method_in (source_of o) x.code.now)
method-there o x m h e = program-method o m ∙ ap (option_map (method_in (source_of o))) (ap (method_of o) (sym e) ∙ h.code)

pub method-absent : (o : Outline) (m : Callee) → method_of o m ≡ None → (program_in o).method m ≡ None
method-absent o m e = program-method o m ∙ ap (option_map (method_in (source_of o))) e

-- the texts of what a callable may write
pub texts-are : (o : Outline) (x : Callable) (m : Callee) (made names : List SortedName) → IsCallable o x → known.callee_of x ≡ m → made ≡ standing o.state.now x.written.now → names ≡ made → AreTexts ((writes_in o).written m) names
texts-are o x m made names h e f g = λ y.
    writes-written o m y
    ∙ ap (λ (xs : List SortedName). is_among xs y) (ap (standing o.state.now) (ap (written_by o) (sym e) ∙ sym h.written) ∙ sym f ∙ sym g)

-- what a call is told of its method and of the program round it
pub is-called : (o : Outline) (t : Listing) (x : Callable) (call : CallCode) (a : Surroundings) (k : Called) (written sets : List SortedName) → IsOutline t o → IsCallable o x → known.callee_of x ≡ callee_of call →
    a.classes.now ≡ o.classes.now → a.members.now ≡ o.members.now → a.invariants.now ≡ o.invariants.now → a.formulas.now ≡ o.formulas.now → k.framed.now ≡ x.framed.now → k.method.now ≡ x.code.now →
    k.written.now ≡ written → written ≡ standing o.state.now x.written.now → sorted_in written ≡ map sorted_item (items_where (program_in o) ((writes_in o).written (known.callee_of x))) →
    k.sets.now ≡ sets → sorted_in sets ≡ map sorted_item (filter is_of_objects (items_where (program_in o) ((writes_in o).written (known.callee_of x)))) →
    IsCalled (source_of o) (program_in o) (writes_in o) (callee_of call) t a k
is-called o t x call a k written sets h there same classes members invariants formulas frames method names places told setted tolds = record {
  formulas = subst (λ (ns : List (Option ℕ)). AreFormulas (source_of o) t ns) (sym formulas) h.formulas;
  classes = program-classes o ∙ sym classes;
  invariants = program-invariants o ∙ ap (map (claim_in (source_of o))) (sym invariants);
  texts = texts-are o x (callee_of call) written k.written.now there same places names;
  written = ap sorted_in names ∙ told ∙ ap (λ m. map sorted_item (items_where (program_in o) ((writes_in o).written m))) same;
  sets = ap sorted_in setted ∙ tolds ∙ ap (λ m. map sorted_item (filter is_of_objects (items_where (program_in o) ((writes_in o).written m)))) same;
  framed =
      (λ i. chosen (classes i) (members i) (frames i)) ∙ ap (chosen o.classes.now o.members.now) (there.framed ∙ ap (framed_by o) same)
      ∙ sym (h.frames (callee_of call));
}

module _ (o : Outline) (this : Option ℕ) (scope : List Known) (call : CallCode) (k : ℕ) where
  -- the commands of a call, and the turn behind it
  pub known-commands : (x : Called) → (program_in o).method (callee_of call) ≡ Some (method_in (source_of o) x.method.now) →
      commands_for (source_of o) (program_in o) (writes_in o) (formed_in o this scope) call x k ≡ commands_of o this scope (call_in (source_of o) call) k
  known-commands x e =
      sym
      (ap (λ y. option_map_or (λ (z : Method). call_commands (program_in o) (writes_in o) (formed_in o this scope) call.place (target_in call.target) (option_map object_code call.receiver) call.receiver_place (callee_of call) z (map any_code call.args) (turns_of (program_in o) (writes_in o) (formed_in o this scope) (target_in call.target) (option_map object_code call.receiver) (callee_of call) z (map any_code call.args) k)) y []) e)

  pub known-turn : (x : Called) → (program_in o).method (callee_of call) ≡ Some (method_in (source_of o) x.method.now) →
      (turns_for (source_of o) (program_in o) (writes_in o) call x k).next ≡ turn_behind o this scope (call_in (source_of o) call) k
  known-turn x e =
      sym (ap (λ y. option_map_or (λ (z : Method). (turns_of (program_in o) (writes_in o) t.true_formula (target_in call.target) (option_map object_code call.receiver) (callee_of call) z (map any_code call.args) k).next) y k) e)

  -- of a method that the program hasn't there are none
  pub no-commands : (program_in o).method (callee_of call) ≡ None → [] ≡ commands_of o this scope (call_in (source_of o) call) k
  no-commands e =
      sym
      (ap (λ y. option_map_or (λ (z : Method). call_commands (program_in o) (writes_in o) (formed_in o this scope) call.place (target_in call.target) (option_map object_code call.receiver) call.receiver_place (callee_of call) z (map any_code call.args) (turns_of (program_in o) (writes_in o) (formed_in o this scope) (target_in call.target) (option_map object_code call.receiver) (callee_of call) z (map any_code call.args) k)) y []) e)

  pub no-turn : (program_in o).method (callee_of call) ≡ None → k ≡ turn_behind o this scope (call_in (source_of o) call) k
  no-turn e =
      sym (ap (λ y. option_map_or (λ (z : Method). (turns_of (program_in o) (writes_in o) t.true_formula (target_in call.target) (option_map object_code call.receiver) (callee_of call) z (map any_code call.args) k).next) y k) e)
