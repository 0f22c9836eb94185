use Rattle.std.proofs.Common.{ℕ, List, sym, map, option_map, subst}
use Rattle.jh_arena.proofs.table.Listed.{extends-refl}
use Rattle.jh_guard.specs.Terms.{value_term}
use Rattle.jh_guard.specs.Calls.{keep_args}
use Rattle.jh_semantics.specs.declared.typed_code.stmts.Local.{Local}
use Rattle.jh_semantics.specs.typed_code.Codes.{object_code, any_code}
use Rattle.jh_semantics.specs.typed_code.Statements.{target_in, local_in}
use Rattle.jh_state_facts.specs.changes.Added.{AddsCommands}
use Rattle.jh_state_facts.proofs.changes.AddedSteps.{on-ok, adds-two}
use Rattle.jh_call_commands.specs.calls.Called.{AreValues}
use Rattle.jh_call_commands.proofs.calls.before.push_kept.Goals as goal

pub returns-clause-commands : goal.returns-clause-commands
returns-clause-commands c =
    let t = c.push_checked.new.table in
    let old = c.args.commands.now.items in
    let m2 = c.keep_receiver.new.commands.items in
    let m3 = c.keep_args.new.commands.items in
    let same = extends-refl t in
    let call = c.args.call.now in
    let es = map any_code call.args in
    let args = subst (λ (ns : List ℕ). AreValues t ns (map value_term es)) (sym c.as_slice.ensures.value) c.in_ok-kept.ensures.args in
    on-ok c.keep_target.result
    (λ h.
    adds-two t t old m3 c.keep_target.new.commands.items _ _
    (adds-two t t old m2 m3 _ _
    (adds-two t t old c.push_checked.new.commands.items m2 _ _ c.in_ok-kept.ensures.commands same (c.in_ok-keep_receiver.ensures (option_map object_code call.receiver) c.in_ok-kept.ensures.receiver))
    same (subst (λ (ps : List Local). AddsCommands t m2 m3 (keep_args (map local_in ps) es c.args.turns.now.args)) c.items.ensures (c.in_ok-keep_args.ensures es args)))
    same (h (target_in call.target) c.in_ok-kept.ensures.target))
    c.keep_target.ensures
