use Rattle.std.proofs.Common.{[], ◌++◌, ◌∙◌, List, ap, map, subst}
use Rattle.jh_call_commands.specs.jh_command_terms.declared.command.command.Command.{Command}
use Rattle.jh_semantics.specs.Code.{Local}
use Rattle.jh_arena.proofs.table.Listed.{extends-refl, extends-trans}
use Rattle.jh_guard.specs.Methods.{entry_commands}
use Rattle.jh_guard.specs.Statements.{stmts_commands}
use Rattle.jh_semantics.specs.declared.typed_code.stmts.Code.{Code}
use Rattle.jh_semantics.specs.typed_code.Statements.{codes_in, local_in, method_in}
use Rattle.jh_state_facts.specs.declared.well_formedness.state.Known.{Known}
use Rattle.jh_state_facts.specs.well_formedness.States.{local_of}
use Rattle.jh_state_facts.specs.changes.Added.{AddsCommands}
use Rattle.jh_state_facts.proofs.changes.AddedSteps.{adds-two}
use Rattle.jh_method_commands.specs.environment.Outlines.{source_of, program_in, writes_in}
use Rattle.jh_method_commands.specs.commands.Made.{end_of}
use Rattle.jh_method_commands.proofs.commands.OutlinedSteps.{outlined_grows}
use Rattle.jh_method_commands.proofs.commands.methods.body_of.Goals as goal

pub push_entry-requires-clause-scope : goal.push_entry-requires-clause-scope
push_entry-requires-clause-scope c = ap (map local_of) c.as_slice.ensures.value ∙ c.in_ok-scope.ensures ∙ ap (map local_in) c.items.ensures

pub push_all-requires : goal.push_all-requires
push_all-requires c = outlined_grows c.args.table.now c.push_entry.new.table c.args.outline.now c.requires c.push_entry.ensures.grows

pub returns-clause-command : goal.returns-clause-command
returns-clause-command c = λ m.
    let o = c.args.outline.now in
    let x = c.args.method.now in
    let src = source_of o in
    let p = program_in o in
    let ws = writes_in o in
    let t1 = c.push_entry.new.table in
    let t2 = c.push_all.new.table in
    let entry = entry_commands p ws m (method_in src x) in
    let body = stmts_commands p ws x.this (map local_in x.params) (codes_in src x.body) 2 in
    let m1 = c.push_entry.new.commands.items in
    let m2 = c.push_all.new.commands.items in
    let new = c.push_end.new.commands.items in
    let begun = subst (λ (xs : List Command). AddsCommands t1 xs m1 entry) c.new-commands.ensures.items (c.in_ok-push_entry.ensures.commands m) in
    let told = subst (λ (ss : List Code). AddsCommands t2 m1 m2 (stmts_commands p ws x.this (map local_of c.in_ok-scope.scope.items) (codes_in src ss) 2)) c.items-2.ensures c.in_ok-push_all.ensures.commands in
    let made = subst (λ (ls : List Local). AddsCommands t2 m1 m2 (stmts_commands p ws x.this ls (codes_in src x.body) 2)) (c.in_ok-scope.ensures ∙ ap (map local_in) c.items.ensures) told in
    c.sequence.ensures t2 (entry ++ body ++ end_of x.result)
    (adds-two t2 t2 [] m2 new (entry ++ body) (end_of x.result) (adds-two t1 t2 [] m1 m2 entry body begun c.push_all.ensures.grows made) (extends-refl t2) (c.in_ok-push_end.ensures t2))
