use Rattle.std.proofs.Common.{◌∙◌, List, ap, sym, subst, map, refl, OnOk}
use Rattle.jh_wp.specs.Command.{CommandTree}
use Rattle.jh_guard.specs.Items.{sorted_item}
use Rattle.jh_semantics.specs.typed_code.Statements.{call_in}
use Rattle.jh_state_facts.specs.changes.Added.{AddsCommands, sorted_in, chosen}
use Rattle.jh_state_facts.proofs.changes.AddedSteps.{on-ok}
use Rattle.jh_method_commands.specs.environment.Outlines.{source_of, program_in, writes_in}
use Rattle.jh_method_commands.proofs.environment.OutlineSteps.{outline_grows}
use Rattle.jh_call_commands.specs.declared.calls.called.Called.{Called}
use Rattle.jh_method_commands.specs.commands.Made.{formed_in}
use Rattle.jh_method_commands.proofs.commands.OutlinedSteps.{the-outline}
use Rattle.jh_method_commands.proofs.commands.SideSteps.{if-ok, truth-there}
use Rattle.jh_method_commands.proofs.commands.CallSteps.{is-called, method-there, known-commands, known-turn}
use Rattle.jh_method_commands.proofs.commands.calling.push_known.Goals as goal

pub push_call-requires : goal.push_call-requires
push_call-requires c = truth-there c.formed_node.new.table c.in_ok-formed.formed _ c.in_ok-formed.ensures.node

pub returns-clause-commands : goal.returns-clause-commands
returns-clause-commands c =
    let o = c.args.outline.now in
    let u = c.formed_node.new.table in
    let x = c.args.method.now in
    let there = outline_grows c.args.table.now u o (the-outline c.args.table.now o c.requires.outline) c.formed_node.ensures.grows in
    let k : Called = record { method = c.args.method.now.code; written = c.as_slice.result; sets = c.as_slice-2.result; framed = c.args.method.now.framed } in
    on-ok c.push_call.result
    (λ h.
    subst (λ (fs : List CommandTree). AddsCommands c.push_call.new.table c.args.commands.now.items c.push_call.new.commands.items fs) (known-commands o c.args.this c.args.scope.now c.args.call.now c.args.turn k (method-there o x _ c.requires.method c.requires.called))
    (h (source_of o) (program_in o) (writes_in o) (formed_in o c.args.this c.args.scope.now)
    (is-called o u x c.args.call.now _ k c.in_ok-written.written.items c.in_ok-sets.sets.items there c.requires.method c.requires.called refl refl refl refl refl refl c.as_slice.ensures.value c.in_ok-written.ensures.places (c.in_ok-written.ensures.names u there c.requires.method) c.as_slice-2.ensures.value (c.in_ok-sets.ensures u there c.requires.method))
    c.in_ok-formed.ensures.node))
    c.push_call.ensures.commands

pub returns-clause-next : goal.returns-clause-next
returns-clause-next c =
    let o = c.args.outline.now in
    let u = c.formed_node.new.table in
    let x = c.args.method.now in
    let there = outline_grows c.args.table.now u o (the-outline c.args.table.now o c.requires.outline) c.formed_node.ensures.grows in
    let k : Called = record { method = c.args.method.now.code; written = c.as_slice.result; sets = c.as_slice-2.result; framed = c.args.method.now.framed } in
    if-ok c.push_call.result
    (λ next h.
    h (source_of o) (program_in o) (writes_in o)
    (is-called o u x c.args.call.now _ k c.in_ok-written.written.items c.in_ok-sets.sets.items there c.requires.method c.requires.called refl refl refl refl refl refl c.as_slice.ensures.value c.in_ok-written.ensures.places (c.in_ok-written.ensures.names u there c.requires.method) c.as_slice-2.ensures.value (c.in_ok-sets.ensures u there c.requires.method))
    ∙ known-turn o c.args.this c.args.scope.now c.args.call.now c.args.turn k (method-there o x _ c.requires.method c.requires.called))
    c.push_call.ensures.next
