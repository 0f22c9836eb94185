use Rattle.std.proofs.Common.{◌∷◌, ◌++◌, ◌∙◌, List, ap, subst, codes}
use Rattle.jh_guard.specs.Items.{Sorted}
use Rattle.jh_guard.specs.Steps.{assume_named, growth, changed, after_changed}
use Rattle.jh_semantics.specs.typed_code.Statements.{code_in}
use Rattle.jh_state_facts.specs.changes.Added.{AddsCommands, sorted_in}
use Rattle.jh_state_facts.proofs.changes.AddedSteps.{on-ok}
use Rattle.jh_method_commands.specs.environment.Outlines.{source_of}
use Rattle.jh_method_commands.proofs.commands.SideSteps.{if-ok, truth-there}
use Rattle.jh_method_commands.specs.commands.Made.{formed_in, written_in}
use Rattle.jh_method_commands.proofs.commands.loops.push_any.Goals as goal

pub push_state-requires : goal.push_state-requires
push_state-requires c = truth-there c.formed_node.new.table c.in_ok-formed.formed _ c.in_ok-formed.ensures.node

pub returns-clause-commands : goal.returns-clause-commands
returns-clause-commands c =
    let o = c.args.outline.now in
    let body = code_in (source_of o) c.args.body.now in
    let wf = formed_in o c.args.this c.args.scope.now in
    let names = ap sorted_in c.as_slice.ensures.value ∙ c.in_ok-changed.ensures.names in
    let sets = ap sorted_in c.as_slice-2.ensures.value ∙ c.in_ok-changed.ensures.sets in
    on-ok c.push_state.result
    (λ h. subst (λ (xs : List Sorted). AddsCommands c.push_state.new.table c.args.commands.now.items c.push_state.new.commands.items (changed xs c.args.turn ++ (assume_named (codes "wf") c.args.place wf ∷ growth c.args.turn (written_in o body)))) names
    (h wf (written_in o body) c.in_ok-formed.ensures.node sets))
    c.push_state.ensures.commands

pub returns-clause-next : goal.returns-clause-next
returns-clause-next c =
    if-ok c.push_state.result
    (λ next is. is ∙ ap (λ xs. after_changed xs c.args.turn) (ap sorted_in c.as_slice.ensures.value ∙ c.in_ok-changed.ensures.names))
    c.push_state.ensures.next
