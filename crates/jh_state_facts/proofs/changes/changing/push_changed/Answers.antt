use Rattle.std.proofs.Common.{ℕ, subst}
use Rattle.jh_arena.proofs.table.Listed.{extends-refl}
use Rattle.jh_command_terms.specs.jh_guard.Steps.{copies, havocs, after_copies}
use Rattle.jh_state_facts.specs.changes.Added.{AddsCommands, sorted_in}
use Rattle.jh_state_facts.proofs.changes.AddedSteps.{on-ok, adds-two}
use Rattle.jh_state_facts.proofs.changes.changing.push_changed.Goals as goal

pub returns-clause-commands : goal.returns-clause-commands
returns-clause-commands c =
    let t = c.push_copies.new.table in
    let old = c.args.commands.now.items in
    let mid = c.push_copies.new.commands.items in
    let new = c.push_havocs.new.commands.items in
    let xs = sorted_in c.args.names.now in
    on-ok c.push_havocs.result
    (λ h. adds-two t t old mid new (copies xs c.args.turn) (havocs xs (after_copies xs c.args.turn)) c.in_ok-push_copies.ensures.commands (extends-refl t)
    (subst (λ (k : ℕ). AddsCommands t mid new (havocs xs k)) c.in_ok-first.ensures h))
    c.push_havocs.ensures.commands
