use Rattle.std.proofs.Common.{◌++◌, List, map, subst}
use Rattle.jh_semantics.specs.Entry.{owed}
use Rattle.jh_guard.specs.Items.{Sorted, items, sorted_item}
use Rattle.jh_guard.specs.Steps.{assume_claims, copies}
use Rattle.jh_semantics.specs.typed_code.Statements.{method_in}
use Rattle.jh_state_facts.specs.changes.Added.{AddsCommands}
use Rattle.jh_state_facts.proofs.changes.AddedSteps.{adds-two, on-ok}
use Rattle.jh_method_commands.specs.environment.Outlines.{source_of, program_in}
use Rattle.jh_call_commands.proofs.of_jh_command_statements.checks.ToldSteps.{formulas-grow}
use Rattle.jh_method_commands.specs.commands.Made.{known_at}
use Rattle.jh_method_commands.proofs.commands.OutlinedSteps.{the-outline}
use Rattle.jh_method_commands.proofs.environment.OutlineSteps.{program-invariants}
use Rattle.jh_method_commands.proofs.commands.methods.push_entry.Goals as goal

pub returns-clause-commands : goal.returns-clause-commands
returns-clause-commands c =
    let o = c.args.outline.now in
    let x = c.args.method.now in
    let src = source_of o in
    let outline = the-outline c.args.table.now o c.requires.outline in
    let t1 = c.push_known.new.table in
    let t2 = c.push_owed.new.table in
    let t3 = c.push_copies.new.table in
    let old = c.args.commands.now.items in
    let m1 = c.push_known.new.commands.items in
    let m2 = c.push_owed.new.commands.items in
    let new = c.push_copies.new.commands.items in
    let first = known_at o (method_in src x) in
    let claims = owed (program_in o) (method_in src x) in
    let told = c.in_ok-push_owed.ensures.commands src (program_in o) (formulas-grow c.args.table.now t1 c.push_known.ensures.grows src o.formulas.now outline.formulas) (program-invariants o) in
    on-ok c.push_copies.result
    (λ h m. adds-two t2 t3 old m2 new (first ++ assume_claims claims) (copies (map sorted_item (items (program_in o))) 1) (adds-two t1 t2 old m1 m2 first (assume_claims claims) c.in_ok-push_known.ensures.commands c.push_owed.ensures.grows told) c.push_copies.ensures.grows
    (subst (λ (xs : List Sorted). AddsCommands t3 m2 new (copies xs 1)) outline.names h))
    c.push_copies.ensures.commands
