use Rattle.std.proofs.Common.{◌≡◌, refl, sym, ap, ◌∙◌, subst, ℕ, suc, List, map, take, option_map, append_assoc, ◌∷◌, ◌++◌, [], codes, length, Some}
use Rattle.jh_arena.proofs.table.Listed.{extends-refl, extends-trans}
use Rattle.jh_form.specs.Tree as tree
use Rattle.jh_wp.specs.Command as w
use Rattle.jh_wp.specs.Command.{CommandTree}
use Rattle.jh_form.specs.declared.mark.MarkKind.TheVariants as kind
use Rattle.jh_semantics.specs.Code.{Text}
use Rattle.jh_semantics.specs.LoweredStmts.{ghost_target}
use Rattle.jh_guard.specs.Writes.{scope_after}
use Rattle.jh_guard.specs.Statements.{new_steps, new_text}
use Rattle.jh_semantics.specs.declared.typed_code.stmts.Code.{Code}
use Rattle.jh_guard.specs.Steps.{assert_checks, target_checks, assert_claims, assume_named, fresh, after_changed}
use Rattle.jh_semantics.specs.typed_code.Codes.{any_code, truth_code}
use Rattle.jh_semantics.specs.typed_code.Statements.{claim_in, code_in, codes_in, call_in, target_in, value_of}
use Rattle.jh_semantics.proofs.typed_code.CodeSteps.{code-Empty, code-Block, code-Assign, code-New, code-Call, code-Branch, code-Loop, code-Return, code-Assert, code-Note, code-Ghost}
use Rattle.jh_state_facts.specs.declared.well_formedness.state.Known.{Known}
use Rattle.jh_state_facts.specs.well_formedness.States.{local_of}
use Rattle.jh_state_facts.specs.changes.Added.{AddsCommands}
use Rattle.jh_state_facts.proofs.changes.AddedSteps.{adds-none, adds-two, on-ok}
use Rattle.jh_method_commands.specs.environment.Outlines.{source_of, program_in, writes_in}
use Rattle.jh_method_commands.specs.commands.Made.{commands_of, all_commands, turn_behind, turn_behind_all, changed_in}
use Rattle.jh_method_commands.specs.commands.Sides.{IsLonger}
use Rattle.jh_method_commands.proofs.commands.OutlinedSteps.{the-outline, outlined_grows}
use Rattle.jh_method_commands.proofs.commands.SideSteps.{if-ok, truth-stays}
use Rattle.jh_method_commands.proofs.commands.AlongSteps.{branch-along, loop-along}
use Rattle.jh_method_commands.proofs.commands.ScopeSteps.{longer-same, longer-two}
use Rattle.jh_method_commands.proofs.commands.StatementSteps.{all-next, turns-next, all-end, turns-end, cut-back, as-commands, as-turn, ghost-made, ghost-turn, return-made, return-turn}
use Rattle.jh_method_commands.proofs.commands.statements.+push_one.Goals as goal

pub push_all-loop-stmt-init : goal.push_all-loop-stmt-init
push_all-loop-stmt-init t c = record { outlined = c.requires; grows = extends-refl c.args.table.now; longer = longer-same c.args.scope.now.items; commands = λ u new g h. h; turn = refl }

pub push_all-loop-stmt-preserved : goal.push_all-loop-stmt-preserved
push_all-loop-stmt-preserved t c =
    let o = c.args.outline.now in
    let src = source_of o in
    let before = map local_of c.loop-stmt.scope.items in
    let mid = c.push_one.new.scope.items in
    let same : mid ≡ c.loop-stmt.scope.items = c.in_ok-next.ensures.scope in
    let a = c.stmt-item.result in
    let scoped = c.in_ok-declare.ensures.locals src ∙ ap (λ xs. scope_after (map local_of xs) (code_in src a)) same in
    record {
      outlined = outlined_grows c.loop-stmt.table c.push_one.new.table o c.loop-stmt.invariant.outlined c.push_one.ensures.grows;
      grows = extends-trans c.args.table.now c.loop-stmt.table c.push_one.new.table c.loop-stmt.invariant.grows c.push_one.ensures.grows;
      longer = longer-two c.args.scope.now.items c.loop-stmt.scope.items c.declare.new.scope.items c.loop-stmt.invariant.longer (subst (λ (xs : List Known). IsLonger xs c.declare.new.scope.items) same c.in_ok-declare.ensures.longer);
      commands = λ u new g h.
          c.loop-stmt.invariant.commands u new (extends-trans c.loop-stmt.table c.push_one.new.table u c.push_one.ensures.grows g)
          (all-next (program_in o) (writes_in o) c.args.this src c.push_one.new.table u c.loop-stmt.commands.items c.push_one.new.commands.items new before (map local_of c.declare.new.scope.items) c.args.stmts.now c.loop-stmt.stmt-index a c.loop-stmt.next c.in_ok-next.next
          c.loop-stmt-test.true c.stmt-item.is scoped c.in_ok-next.ensures.next c.in_ok-next.ensures.commands g h);
      turn =
          turns-next (program_in o) (writes_in o) c.args.this src before (map local_of c.declare.new.scope.items) c.args.stmts.now c.loop-stmt.stmt-index a c.loop-stmt.next c.in_ok-next.next c.loop-stmt-test.true c.stmt-item.is scoped c.in_ok-next.ensures.next
          ∙ c.loop-stmt.invariant.turn;
    }

pub push_all-returns-clause-commands : goal.push_all-returns-clause-commands
push_all-returns-clause-commands t c =
    let o = c.args.outline.now in
    c.loop-stmt.invariant.commands c.loop-stmt.table c.loop-stmt.commands.items (extends-refl c.loop-stmt.table)
    (all-end (program_in o) (writes_in o) c.args.this (source_of o) c.loop-stmt.table c.loop-stmt.commands.items (map local_of c.loop-stmt.scope.items) c.args.stmts.now c.loop-stmt.stmt-index c.loop-stmt.next c.loop-stmt-test.false)

pub push_all-returns-clause-next : goal.push_all-returns-clause-next
push_all-returns-clause-next t c =
    let o = c.args.outline.now in
    sym (turns-end (program_in o) (writes_in o) c.args.this (source_of o) (map local_of c.loop-stmt.scope.items) c.args.stmts.now c.loop-stmt.stmt-index c.loop-stmt.next c.loop-stmt-test.false) ∙ c.loop-stmt.invariant.turn

pub push_all-returns-clause-scope : goal.push_all-returns-clause-scope
push_all-returns-clause-scope t c = c.truncate.ensures.items ∙ ap (λ (xs : List Known). take (length xs) c.loop-stmt.scope.items) c.as_slice-outer.ensures.value ∙ cut-back c.args.scope.now.items c.loop-stmt.scope.items c.loop-stmt.invariant.longer

pub first_side-returns-clause-command : goal.first_side-returns-clause-command
first_side-returns-clause-command t c = λ f h.
    let o = c.args.outline.now in
    let made = commands_of o c.args.this c.args.scope.now.items (code_in (source_of o) c.args.code.now) c.args.turn in
    let first = assume_named (codes "cond") c.args.place f ∷ [] in
    c.sequence.ensures c.push_one.new.table (first ++ made)
    (adds-two c.entered.new.table c.push_one.new.table [] c.in_ok-commands.commands.items c.push_one.new.commands.items first made (c.in_ok-commands.ensures.commands f h) c.push_one.ensures.grows c.in_ok-next.ensures.commands)

pub second_side-returns-clause-command : goal.second_side-returns-clause-command
second_side-returns-clause-command t c = λ f h.
    let o = c.args.outline.now in
    let made = all_commands o c.args.this c.args.scope.now.items (codes_in (source_of o) c.args.stmts.now) c.args.turn in
    let first = assume_named (codes "cond") c.args.place (tree.negation f) ∷ [] in
    c.sequence.ensures c.push_all.new.table (first ++ made)
    (adds-two c.passed_by.new.table c.push_all.new.table [] c.in_ok-commands.commands.items c.push_all.new.commands.items first made (c.in_ok-commands.ensures.commands f h) c.push_all.ensures.grows c.in_ok-next.ensures.commands)

pub loop_side-returns-clause-command : goal.loop_side-returns-clause-command
loop_side-returns-clause-command t c = λ f h.
    let o = c.args.outline.now in
    let made = commands_of o c.args.this c.args.scope.now.items (code_in (source_of o) c.args.code.now) c.args.turn in
    let first = assume_named (codes "cond") c.args.place f ∷ [] in
    let claims = assert_claims kind.LoopKept (map (claim_in (source_of o)) c.args.invariants.now) in
    let last = w.stop ∷ [] in
    let t1 = c.entered.new.table in
    let t2 = c.push_one.new.table in
    let t3 = c.push_kept.new.table in
    let new = c.push_kept.new.commands.items in
    c.sequence.ensures t3 (((first ++ made) ++ claims) ++ last)
    (subst (λ (fs : List CommandTree). AddsCommands t3 [] new fs) (sym (append_assoc (first ++ made) claims last))
    (adds-two t2 t3 [] c.push_one.new.commands.items new (first ++ made) (claims ++ last)
    (adds-two t1 t2 [] c.in_ok-commands.commands.items c.push_one.new.commands.items first made (c.in_ok-commands.ensures.commands f h) c.push_one.ensures.grows c.in_ok-next.ensures.commands) c.push_kept.ensures.grows c.in_ok-push_kept.ensures.commands))

pub push_one-returns-in-Empty-clause-commands : goal.push_one-returns-in-Empty-clause-commands
push_one-returns-in-Empty-clause-commands t c =
    let o = c.args.outline.now in
    let src = source_of o in
    as-commands (program_in o) (writes_in o) c.args.this c.args.table.now c.args.commands.now.items c.args.commands.now.items (map local_of c.args.scope.now.items) c.args.turn _ (code_in src c.args.code.now) (ap (code_in src) c.in-Empty.is ∙ code-Empty src) (adds-none c.args.table.now c.args.commands.now.items)

pub push_one-returns-in-Empty-clause-next : goal.push_one-returns-in-Empty-clause-next
push_one-returns-in-Empty-clause-next t c =
    let o = c.args.outline.now in
    let src = source_of o in
    as-turn (program_in o) (writes_in o) c.args.this (map local_of c.args.scope.now.items) c.args.turn c.args.turn _ (code_in src c.args.code.now) (ap (code_in src) c.in-Empty.is ∙ code-Empty src) (refl)

pub push_one-returns-in-Block-clause-commands : goal.push_one-returns-in-Block-clause-commands
push_one-returns-in-Block-clause-commands t c =
    let o = c.args.outline.now in
    let src = source_of o in
    on-ok c.push_all.result (λ h. as-commands (program_in o) (writes_in o) c.args.this c.push_all.new.table c.args.commands.now.items c.push_all.new.commands.items (map local_of c.args.scope.now.items) c.args.turn _ (code_in src c.args.code.now) (ap (code_in src) c.in-Block.is ∙ code-Block src c.in-Block.stmts) (subst (λ (ss : List Code). AddsCommands c.push_all.new.table c.args.commands.now.items c.push_all.new.commands.items (all_commands o c.args.this c.args.scope.now.items (codes_in src ss) c.args.turn)) c.items.ensures h)) c.push_all.ensures.commands

pub push_one-returns-in-Block-clause-next : goal.push_one-returns-in-Block-clause-next
push_one-returns-in-Block-clause-next t c =
    let o = c.args.outline.now in
    let src = source_of o in
    if-ok c.push_all.result (λ n h. as-turn (program_in o) (writes_in o) c.args.this (map local_of c.args.scope.now.items) c.args.turn n _ (code_in src c.args.code.now) (ap (code_in src) c.in-Block.is ∙ code-Block src c.in-Block.stmts) (h ∙ ap (λ ss. turn_behind_all o c.args.this c.args.scope.now.items (codes_in src ss) c.args.turn) c.items.ensures)) c.push_all.ensures.next

pub push_one-returns-in_ok-push_assign-in-Assign-clause-commands : goal.push_one-returns-in_ok-push_assign-in-Assign-clause-commands
push_one-returns-in_ok-push_assign-in-Assign-clause-commands t c =
    let o = c.args.outline.now in
    let src = source_of o in
    as-commands (program_in o) (writes_in o) c.args.this c.push_assign.new.table c.args.commands.now.items c.push_assign.new.commands.items (map local_of c.args.scope.now.items) c.args.turn _ (code_in src c.args.code.now) (ap (code_in src) c.in-Assign.is ∙ code-Assign src c.in-Assign.target c.in-Assign.value) (c.in_ok-push_assign-in-Assign.ensures.commands)

pub push_one-returns-in_ok-push_assign-in-Assign-clause-next : goal.push_one-returns-in_ok-push_assign-in-Assign-clause-next
push_one-returns-in_ok-push_assign-in-Assign-clause-next t c =
    let o = c.args.outline.now in
    let src = source_of o in
    as-turn (program_in o) (writes_in o) c.args.this (map local_of c.args.scope.now.items) c.args.turn c.args.turn _ (code_in src c.args.code.now) (ap (code_in src) c.in-Assign.is ∙ code-Assign src c.in-Assign.target c.in-Assign.value) (refl)

pub push_one-returns-in-New-clause-commands : goal.push_one-returns-in-New-clause-commands
push_one-returns-in-New-clause-commands t c =
    let o = c.args.outline.now in
    let src = source_of o in
    on-ok c.push_new.result (λ h. as-commands (program_in o) (writes_in o) c.args.this c.push_new.new.table c.args.commands.now.items c.push_new.new.commands.items (map local_of c.args.scope.now.items) c.args.turn _ (code_in src c.args.code.now) (ap (code_in src) c.in-New.is ∙ code-New src c.in-New.field-0 c.in-New.target c.in-New.class) (subst (λ (x : Text). AddsCommands c.push_new.new.table c.args.commands.now.items c.push_new.new.commands.items (assert_checks (target_checks (target_in c.in-New.target)) ++ new_steps (target_in c.in-New.target) x (fresh new_text c.args.turn) (fresh new_text (suc c.args.turn)))) c.text.ensures h)) c.push_new.ensures.commands

pub push_one-returns-in-New-clause-next : goal.push_one-returns-in-New-clause-next
push_one-returns-in-New-clause-next t c =
    let o = c.args.outline.now in
    let src = source_of o in
    if-ok c.push_new.result (λ n h. as-turn (program_in o) (writes_in o) c.args.this (map local_of c.args.scope.now.items) c.args.turn n _ (code_in src c.args.code.now) (ap (code_in src) c.in-New.is ∙ code-New src c.in-New.field-0 c.in-New.target c.in-New.class) (h)) c.push_new.ensures.next

pub push_one-returns-in-Call-clause-commands : goal.push_one-returns-in-Call-clause-commands
push_one-returns-in-Call-clause-commands t c =
    let o = c.args.outline.now in
    let src = source_of o in
    on-ok c.push_call.result (λ h. as-commands (program_in o) (writes_in o) c.args.this c.push_call.new.table c.args.commands.now.items c.push_call.new.commands.items (map local_of c.args.scope.now.items) c.args.turn _ (code_in src c.args.code.now) (ap (code_in src) c.in-Call.is ∙ code-Call src c.in-Call.call) (subst (λ (xs : List Known). AddsCommands c.push_call.new.table c.args.commands.now.items c.push_call.new.commands.items (commands_of o c.args.this xs (call_in src c.in-Call.call) c.args.turn)) c.as_slice.ensures.value h)) c.push_call.ensures.commands

pub push_one-returns-in-Call-clause-next : goal.push_one-returns-in-Call-clause-next
push_one-returns-in-Call-clause-next t c =
    let o = c.args.outline.now in
    let src = source_of o in
    if-ok c.push_call.result (λ n h. as-turn (program_in o) (writes_in o) c.args.this (map local_of c.args.scope.now.items) c.args.turn n _ (code_in src c.args.code.now) (ap (code_in src) c.in-Call.is ∙ code-Call src c.in-Call.call) (h ∙ ap (λ xs. turn_behind o c.args.this xs (call_in src c.in-Call.call) c.args.turn) c.as_slice.ensures.value)) c.push_call.ensures.next

pub push_one-returns-in_ok-push_return-in-Return-clause-commands : goal.push_one-returns-in_ok-push_return-in-Return-clause-commands
push_one-returns-in_ok-push_return-in-Return-clause-commands t c =
    let o = c.args.outline.now in
    let src = source_of o in
    as-commands (program_in o) (writes_in o) c.args.this c.push_return.new.table c.args.commands.now.items c.push_return.new.commands.items (map local_of c.args.scope.now.items) c.args.turn _ (code_in src c.args.code.now) (ap (code_in src) c.in-Return.is ∙ code-Return src c.in-Return.value) (subst (λ (fs : List CommandTree). AddsCommands c.push_return.new.table c.args.commands.now.items c.push_return.new.commands.items fs) (return-made src (program_in o) (writes_in o) c.args.this (map local_of c.args.scope.now.items) c.args.turn (option_map any_code c.in-Return.value)) c.in_ok-push_return-in-Return.ensures.commands)

pub push_one-returns-in_ok-push_return-in-Return-clause-next : goal.push_one-returns-in_ok-push_return-in-Return-clause-next
push_one-returns-in_ok-push_return-in-Return-clause-next t c =
    let o = c.args.outline.now in
    let src = source_of o in
    as-turn (program_in o) (writes_in o) c.args.this (map local_of c.args.scope.now.items) c.args.turn c.args.turn _ (code_in src c.args.code.now) (ap (code_in src) c.in-Return.is ∙ code-Return src c.in-Return.value) (return-turn src (program_in o) (writes_in o) c.args.this (map local_of c.args.scope.now.items) c.args.turn (option_map any_code c.in-Return.value))

pub push_one-returns-in_ok-assert_claim-in-Assert-clause-commands : goal.push_one-returns-in_ok-assert_claim-in-Assert-clause-commands
push_one-returns-in_ok-assert_claim-in-Assert-clause-commands t c =
    let o = c.args.outline.now in
    let src = source_of o in
    as-commands (program_in o) (writes_in o) c.args.this c.assert_claim.new.table c.args.commands.now.items c.assert_claim.new.commands.items (map local_of c.args.scope.now.items) c.args.turn _ (code_in src c.args.code.now) (ap (code_in src) c.in-Assert.is ∙ code-Assert src c.in-Assert.claim) (c.in_ok-assert_claim-in-Assert.ensures.commands src (the-outline c.args.table.now c.args.outline.now c.requires).formulas)

pub push_one-returns-in_ok-assert_claim-in-Assert-clause-next : goal.push_one-returns-in_ok-assert_claim-in-Assert-clause-next
push_one-returns-in_ok-assert_claim-in-Assert-clause-next t c =
    let o = c.args.outline.now in
    let src = source_of o in
    as-turn (program_in o) (writes_in o) c.args.this (map local_of c.args.scope.now.items) c.args.turn c.args.turn _ (code_in src c.args.code.now) (ap (code_in src) c.in-Assert.is ∙ code-Assert src c.in-Assert.claim) (refl)

pub push_one-returns-in_ok-push_note-in-Note-clause-commands : goal.push_one-returns-in_ok-push_note-in-Note-clause-commands
push_one-returns-in_ok-push_note-in-Note-clause-commands t c =
    let o = c.args.outline.now in
    let src = source_of o in
    as-commands (program_in o) (writes_in o) c.args.this c.push_note.new.table c.args.commands.now.items c.push_note.new.commands.items (map local_of c.args.scope.now.items) c.args.turn _ (code_in src c.args.code.now) (ap (code_in src) c.in-Note.is ∙ code-Note src c.in-Note.claim) (c.in_ok-push_note-in-Note.ensures.commands)

pub push_one-returns-in_ok-push_note-in-Note-clause-next : goal.push_one-returns-in_ok-push_note-in-Note-clause-next
push_one-returns-in_ok-push_note-in-Note-clause-next t c =
    let o = c.args.outline.now in
    let src = source_of o in
    as-turn (program_in o) (writes_in o) c.args.this (map local_of c.args.scope.now.items) c.args.turn c.args.turn _ (code_in src c.args.code.now) (ap (code_in src) c.in-Note.is ∙ code-Note src c.in-Note.claim) (refl)

pub push_one-returns-in_ok-push_ghost-in-Ghost-clause-commands : goal.push_one-returns-in_ok-push_ghost-in-Ghost-clause-commands
push_one-returns-in_ok-push_ghost-in-Ghost-clause-commands t c =
    let o = c.args.outline.now in
    let src = source_of o in
    as-commands (program_in o) (writes_in o) c.args.this c.push_ghost.new.table c.args.commands.now.items c.push_ghost.new.commands.items (map local_of c.args.scope.now.items) c.args.turn _ (code_in src c.args.code.now) (ap (code_in src) c.in-Ghost.is ∙ code-Ghost src c.in-Ghost.place c.in-Ghost.target c.in-Ghost.field-2 c.in-Ghost.value) (subst (λ (fs : List CommandTree). AddsCommands c.push_ghost.new.table c.args.commands.now.items c.push_ghost.new.commands.items fs) (ghost-made (program_in o) (writes_in o) c.args.this (map local_of c.args.scope.now.items) c.args.turn c.in-Ghost.place c.in-Ghost.field-2 (ghost_target (value_of src c.in-Ghost.target)) (value_of src c.in-Ghost.value)) (c.in_ok-push_ghost-in-Ghost.ensures.commands src (the-outline c.args.table.now c.args.outline.now c.requires).formulas))

pub push_one-returns-in_ok-push_ghost-in-Ghost-clause-next : goal.push_one-returns-in_ok-push_ghost-in-Ghost-clause-next
push_one-returns-in_ok-push_ghost-in-Ghost-clause-next t c =
    let o = c.args.outline.now in
    let src = source_of o in
    as-turn (program_in o) (writes_in o) c.args.this (map local_of c.args.scope.now.items) c.args.turn c.args.turn _ (code_in src c.args.code.now) (ap (code_in src) c.in-Ghost.is ∙ code-Ghost src c.in-Ghost.place c.in-Ghost.target c.in-Ghost.field-2 c.in-Ghost.value) (ghost-turn (program_in o) (writes_in o) c.args.this (map local_of c.args.scope.now.items) c.args.turn c.in-Ghost.place c.in-Ghost.field-2 (ghost_target (value_of src c.in-Ghost.target)) (value_of src c.in-Ghost.value))

pub first_side-returns-clause-outlined : goal.first_side-returns-clause-outlined
first_side-returns-clause-outlined t c = outlined_grows c.args.table.now c.push_one.new.table c.args.outline.now c.requires.outline (extends-trans c.args.table.now c.entered.new.table c.push_one.new.table c.entered.ensures.grows c.push_one.ensures.grows)

pub first_side-returns-clause-still : goal.first_side-returns-clause-still
first_side-returns-clause-still t c = truth-stays c.args.table.now c.push_one.new.table c.args.test c.requires.test (extends-trans c.args.table.now c.entered.new.table c.push_one.new.table c.entered.ensures.grows c.push_one.ensures.grows)

pub loop_side-returns-clause-still : goal.loop_side-returns-clause-still
loop_side-returns-clause-still t c =
    let t0 = c.args.table.now in
    let t1 = c.entered.new.table in
    let t2 = c.push_one.new.table in
    let t3 = c.push_kept.new.table in
    truth-stays t0 t3 c.args.test c.requires.test (extends-trans t0 t1 t3 c.entered.ensures.grows (extends-trans t1 t2 t3 c.push_one.ensures.grows c.push_kept.ensures.grows))

pub push_one-returns-in_err-second-in-Branch-clause-grows : goal.push_one-returns-in_err-second-in-Branch-clause-grows
push_one-returns-in_err-second-in-Branch-clause-grows t c =
    extends-trans c.args.table.now c.tested.new.table c.second_side.new.table c.tested.ensures.grows (extends-trans c.tested.new.table c.first_side.new.table c.second_side.new.table c.first_side.ensures.grows c.second_side.ensures.grows)

pub push_one-returns-in_ok-second-in-Branch-clause-commands : goal.push_one-returns-in_ok-second-in-Branch-clause-commands
push_one-returns-in_ok-second-in-Branch-clause-commands t c =
    let o = c.args.outline.now in
    let src = source_of o in
    on-ok c.push_sides.result
    (λ h. as-commands (program_in o) (writes_in o) c.args.this c.second_side.new.table c.args.commands.now.items c.push_sides.new.commands.items (map local_of c.args.scope.now.items) c.args.turn _ (code_in src c.args.code.now) (ap (code_in src) c.in-Branch.is ∙ code-Branch src c.in-Branch.place c.in-Branch.test _ c.in-Branch.second)
    (branch-along o c.args.this c.args.scope.now.items c.first_side.new.scope.items c.in-Branch.place (truth_code c.in-Branch.test) c.in-Branch.first.value c.deref.result.now c.in-Branch.second c.items-in-Branch.result.now c.args.turn c.in_ok-first-in-Branch.first.next c.in_ok-test-in-Branch.test c.tested.new.table c.first_side.new.table c.second_side.new.table c.args.commands.now.items c.tested.new.commands.items c.push_sides.new.commands.items c.in_ok-first-in-Branch.first.command c.in_ok-second-in-Branch.second.command
    c.deref.ensures c.items-in-Branch.ensures c.in_ok-first-in-Branch.ensures.scope c.in_ok-first-in-Branch.ensures.next c.in_ok-test-in-Branch.ensures.node c.in_ok-test-in-Branch.ensures.commands c.first_side.ensures.grows c.second_side.ensures.grows c.in_ok-first-in-Branch.ensures.command c.in_ok-second-in-Branch.ensures.command (h c.second_side.new.table)))
    c.push_sides.ensures.commands

pub push_one-returns-in_ok-second-in-Branch-clause-next : goal.push_one-returns-in_ok-second-in-Branch-clause-next
push_one-returns-in_ok-second-in-Branch-clause-next t c =
    let o = c.args.outline.now in
    let src = source_of o in
    if-ok c.push_sides.result
    (λ n h. as-turn (program_in o) (writes_in o) c.args.this (map local_of c.args.scope.now.items) c.args.turn n _ (code_in src c.args.code.now) (ap (code_in src) c.in-Branch.is ∙ code-Branch src c.in-Branch.place c.in-Branch.test _ c.in-Branch.second)
    (h ∙ c.in_ok-second-in-Branch.ensures.next
    ∙ (λ i. turn_behind_all o c.args.this (c.in_ok-first-in-Branch.ensures.scope i) (codes_in src (c.items-in-Branch.ensures i)) ((c.in_ok-first-in-Branch.ensures.next ∙ ap (λ a. turn_behind o c.args.this c.args.scope.now.items (code_in src a) c.args.turn) c.deref.ensures) i))))
    c.push_sides.ensures.next

pub push_one-returns-in_ok-body-in-Loop-clause-commands : goal.push_one-returns-in_ok-body-in-Loop-clause-commands
push_one-returns-in_ok-body-in-Loop-clause-commands t c =
    let o = c.args.outline.now in
    let src = source_of o in
    on-ok c.push_end.result
    (λ h. as-commands (program_in o) (writes_in o) c.args.this c.push_end.new.table c.args.commands.now.items c.push_end.new.commands.items (map local_of c.args.scope.now.items) c.args.turn _ (code_in src c.args.code.now) (ap (code_in src) c.in-Loop.is ∙ code-Loop src c.in-Loop.place c.in-Loop.invariants c.in-Loop.test _)
    (loop-along o c.args.this c.args.scope.now.items c.as_slice-in-Loop.result.now c.in-Loop.place (truth_code c.in-Loop.test) c.in-Loop.body.value c.deref-in-Loop.result.now c.deref-in-Loop-2.result.now c.in-Loop.invariants c.items-in-Loop.result.now c.items-in-Loop-2.result.now c.args.turn c.in_ok-head-in-Loop.head.next c.in_ok-head-in-Loop.head.test c.push_head.new.table c.loop_side.new.table c.push_end.new.table c.args.commands.now.items c.push_head.new.commands.items c.push_end.new.commands.items c.in_ok-body-in-Loop.body.command
    c.as_slice-in-Loop.ensures.value c.deref-in-Loop.ensures c.deref-in-Loop-2.ensures c.items-in-Loop.ensures c.items-in-Loop-2.ensures c.in_ok-head-in-Loop.ensures.next c.in_ok-head-in-Loop.ensures.test c.in_ok-head-in-Loop.ensures.commands c.loop_side.ensures.grows c.push_end.ensures.grows c.in_ok-body-in-Loop.ensures.command h))
    c.push_end.ensures.commands

pub push_one-returns-in_ok-body-in-Loop-clause-next : goal.push_one-returns-in_ok-body-in-Loop-clause-next
push_one-returns-in_ok-body-in-Loop-clause-next t c =
    let o = c.args.outline.now in
    let src = source_of o in
    if-ok c.push_end.result
    (λ n h. as-turn (program_in o) (writes_in o) c.args.this (map local_of c.args.scope.now.items) c.args.turn n _ (code_in src c.args.code.now) (ap (code_in src) c.in-Loop.is ∙ code-Loop src c.in-Loop.place c.in-Loop.invariants c.in-Loop.test _)
    (h ∙ c.in_ok-body-in-Loop.ensures.next
    ∙ (λ i. turn_behind o c.args.this c.args.scope.now.items (code_in src (c.deref-in-Loop-2.ensures i)) ((c.in_ok-head-in-Loop.ensures.next ∙ (λ j. after_changed (changed_in o (c.as_slice-in-Loop.ensures.value j) (code_in src (c.deref-in-Loop.ensures j))) c.args.turn)) i))))
    c.push_end.ensures.next
