use Rattle.std.proofs.Common.{refl, sym, ap, ◌∙◌, ◌||◌, map, option_map, false}
use Rattle.std.specs.Option.{option_map_or}
use Rattle.jh_rules.specs.Words.{same_text}
use Rattle.jh_loop_targets.specs.Telling.{ghost_text}
use Rattle.jh_semantics.specs.typed_code.Codes.{truth_code, any_code}
use Rattle.jh_semantics.specs.typed_code.Statements.{call_in, claim_in, code_in, codes_in, return_in, target_in, value_of}
use Rattle.jh_semantics.proofs.typed_code.CodeSteps.{code-Empty, code-Block, code-Assign, code-New, code-Call, code-Branch, code-Loop, code-Return, code-Assert, code-Note, code-Ghost}
use Rattle.jh_semantics.specs.Code as s
use Rattle.jh_semantics.specs.LoweredStmts.{ghost_code, ghost_target}
use Rattle.jh_guard.specs.Writes.{stmt_writes, stmts_write, target_writes}
use Rattle.jh_loop_targets.specs.Gathering.{stmt_adds, stmts_add}
use Rattle.jh_loop_targets.specs.Noted.{names_in}
use Rattle.jh_loop_targets.proofs.Ghosted.{ghost-writes, ghost-adds}
use Rattle.jh_loop_targets.proofs.Notings.{notes-then}
use Rattle.jh_loop_targets.proofs.Writings.{written-as, written-none, added-as, return-writes, return-adds, written-next, written-end, added-next, added-end}
use Rattle.jh_loop_targets.proofs.walking.+gather.Goals as goal

pub gather_all-loop-code-init : goal.gather_all-loop-code-init
gather_all-loop-code-init t c = record { written = λ p ws told new h. h; locals = λ p. refl }

pub gather_all-loop-code-preserved : goal.gather_all-loop-code-preserved
gather_all-loop-code-preserved t c = record {
  written = λ p ws told new h. c.loop-code.invariant.written p ws told new (written-next p c.args.codes.now c.loop-code.code-index ws c.code-item.result c.loop-code.written c.gather_one.new.written new c.loop-code-test.true c.code-item.is (c.in_ok-gather_one.ensures.written p ws told) h);
  locals = λ p. added-next p c.args.codes.now c.loop-code.code-index (names_in c.args.scope.now) (names_in c.loop-code.locals) (names_in c.gather_one.new.locals) c.code-item.result c.loop-code-test.true c.code-item.is (c.in_ok-gather_one.ensures.locals p) ∙ c.loop-code.invariant.locals p;
}

pub gather_all-returns-clause-written : goal.gather_all-returns-clause-written
gather_all-returns-clause-written t c = λ p ws told. c.loop-code.invariant.written p ws told c.loop-code.written (written-end p c.args.codes.now c.loop-code.code-index ws c.loop-code.written c.loop-code-test.false)

pub gather_all-returns-clause-locals : goal.gather_all-returns-clause-locals
gather_all-returns-clause-locals t c = λ p. added-end p c.args.codes.now c.loop-code.code-index (names_in c.args.scope.now) (names_in c.loop-code.locals) c.loop-code-test.false ∙ c.loop-code.invariant.locals p

pub gather_one-returns-in-Empty-clause-written : goal.gather_one-returns-in-Empty-clause-written
gather_one-returns-in-Empty-clause-written t c = λ p ws told. written-none p c.args.code.now s.empty (ap (code_in p) c.in-Empty.is ∙ code-Empty p) ws c.args.written.now (λ x. refl)

pub gather_one-returns-in-Empty-clause-locals : goal.gather_one-returns-in-Empty-clause-locals
unfolding stmt_adds
gather_one-returns-in-Empty-clause-locals t c = λ p. added-as p c.args.code.now s.empty (ap (code_in p) c.in-Empty.is ∙ code-Empty p) (names_in c.args.scope.now) (names_in c.args.locals.now) (names_in c.args.locals.now) refl

pub gather_one-returns-in-Return-clause-written : goal.gather_one-returns-in-Return-clause-written
gather_one-returns-in-Return-clause-written t c = λ p ws told. written-none p c.args.code.now (return_in p (option_map any_code c.in-Return.field-0)) (ap (code_in p) c.in-Return.is ∙ code-Return p c.in-Return.field-0) ws c.args.written.now (return-writes p ws (option_map any_code c.in-Return.field-0))

pub gather_one-returns-in-Return-clause-locals : goal.gather_one-returns-in-Return-clause-locals
unfolding stmt_adds
gather_one-returns-in-Return-clause-locals t c = λ p. added-as p c.args.code.now (return_in p (option_map any_code c.in-Return.field-0)) (ap (code_in p) c.in-Return.is ∙ code-Return p c.in-Return.field-0) (names_in c.args.scope.now) (names_in c.args.locals.now) (names_in c.args.locals.now) (sym (return-adds p (names_in c.args.scope.now) (names_in c.args.locals.now) (option_map any_code c.in-Return.field-0)))

pub gather_one-returns-in-Assert-clause-written : goal.gather_one-returns-in-Assert-clause-written
gather_one-returns-in-Assert-clause-written t c = λ p ws told. written-none p c.args.code.now (s.assert (claim_in p c.in-Assert.field-0)) (ap (code_in p) c.in-Assert.is ∙ code-Assert p c.in-Assert.field-0) ws c.args.written.now (λ x. refl)

pub gather_one-returns-in-Assert-clause-locals : goal.gather_one-returns-in-Assert-clause-locals
unfolding stmt_adds
gather_one-returns-in-Assert-clause-locals t c = λ p. added-as p c.args.code.now (s.assert (claim_in p c.in-Assert.field-0)) (ap (code_in p) c.in-Assert.is ∙ code-Assert p c.in-Assert.field-0) (names_in c.args.scope.now) (names_in c.args.locals.now) (names_in c.args.locals.now) refl

pub gather_one-returns-in-Note-clause-written : goal.gather_one-returns-in-Note-clause-written
gather_one-returns-in-Note-clause-written t c = λ p ws told. written-none p c.args.code.now (s.note (claim_in p c.in-Note.field-0)) (ap (code_in p) c.in-Note.is ∙ code-Note p c.in-Note.field-0) ws c.args.written.now (λ x. refl)

pub gather_one-returns-in-Note-clause-locals : goal.gather_one-returns-in-Note-clause-locals
unfolding stmt_adds
gather_one-returns-in-Note-clause-locals t c = λ p. added-as p c.args.code.now (s.note (claim_in p c.in-Note.field-0)) (ap (code_in p) c.in-Note.is ∙ code-Note p c.in-Note.field-0) (names_in c.args.scope.now) (names_in c.args.locals.now) (names_in c.args.locals.now) refl

pub gather_one-returns-in_ok-gather_all-in-Block-clause-written : goal.gather_one-returns-in_ok-gather_all-in-Block-clause-written
gather_one-returns-in_ok-gather_all-in-Block-clause-written t c = λ p ws told. written-as p c.args.code.now (s.block (codes_in p c.in-Block.codes)) (ap (code_in p) c.in-Block.is ∙ code-Block p c.in-Block.codes) ws c.args.written.now c.gather_all.new.written (stmts_write ws (codes_in p c.items.result.now)) (c.in_ok-gather_all-in-Block.ensures.written p ws told) (λ x. ap (λ cs. stmts_write ws (codes_in p cs) x) (sym c.items.ensures))

pub gather_one-returns-in_ok-gather_all-in-Block-clause-locals : goal.gather_one-returns-in_ok-gather_all-in-Block-clause-locals
unfolding stmt_adds
gather_one-returns-in_ok-gather_all-in-Block-clause-locals t c = λ p. added-as p c.args.code.now (s.block (codes_in p c.in-Block.codes)) (ap (code_in p) c.in-Block.is ∙ code-Block p c.in-Block.codes) (names_in c.args.scope.now) (names_in c.args.locals.now) (names_in c.gather_all.new.locals) (c.in_ok-gather_all-in-Block.ensures.locals p ∙ ap (λ cs. stmts_add (names_in c.args.scope.now) (codes_in p cs) (names_in c.args.locals.now)) c.items.ensures)

pub gather_one-returns-in_ok-add_target-in-Assign-clause-written : goal.gather_one-returns-in_ok-add_target-in-Assign-clause-written
gather_one-returns-in_ok-add_target-in-Assign-clause-written t c = λ p ws told. written-as p c.args.code.now (s.assign (target_in c.in-Assign.target) (any_code c.in-Assign.field-1)) (ap (code_in p) c.in-Assign.is ∙ code-Assign p c.in-Assign.target c.in-Assign.field-1) ws c.args.written.now c.note_target.new.written (target_writes (target_in c.in-Assign.target)) c.in_ok-note_target-in-Assign.ensures (λ x. refl)

pub gather_one-returns-in_ok-add_target-in-Assign-clause-locals : goal.gather_one-returns-in_ok-add_target-in-Assign-clause-locals
unfolding stmt_adds
gather_one-returns-in_ok-add_target-in-Assign-clause-locals t c = λ p. added-as p c.args.code.now (s.assign (target_in c.in-Assign.target) (any_code c.in-Assign.field-1)) (ap (code_in p) c.in-Assign.is ∙ code-Assign p c.in-Assign.target c.in-Assign.field-1) (names_in c.args.scope.now) (names_in c.args.locals.now) (names_in c.add_target.new.locals) c.in_ok-add_target-in-Assign.ensures

pub gather_one-returns-in_ok-add_target-in-New-clause-written : goal.gather_one-returns-in_ok-add_target-in-New-clause-written
gather_one-returns-in_ok-add_target-in-New-clause-written t c = λ p ws told. written-as p c.args.code.now (s.new_object c.in-New.field-0 (target_in c.in-New.target) c.in-New.class.text) (ap (code_in p) c.in-New.is ∙ code-New p c.in-New.field-0 c.in-New.target c.in-New.class) ws c.args.written.now c.note_new.new.written _ c.in_ok-note_new-in-New.ensures (λ x. ap (λ y. stmt_writes ws (s.new_object c.in-New.field-0 (target_in c.in-New.target) y) x) (sym c.text.ensures))

pub gather_one-returns-in_ok-add_target-in-New-clause-locals : goal.gather_one-returns-in_ok-add_target-in-New-clause-locals
unfolding stmt_adds
gather_one-returns-in_ok-add_target-in-New-clause-locals t c = λ p. added-as p c.args.code.now (s.new_object c.in-New.field-0 (target_in c.in-New.target) c.in-New.class.text) (ap (code_in p) c.in-New.is ∙ code-New p c.in-New.field-0 c.in-New.target c.in-New.class) (names_in c.args.scope.now) (names_in c.args.locals.now) (names_in c.add_target-in-New.new.locals) c.in_ok-add_target-in-New.ensures

pub gather_one-returns-in_ok-add_target-in-Call-clause-written : goal.gather_one-returns-in_ok-add_target-in-Call-clause-written
gather_one-returns-in_ok-add_target-in-Call-clause-written t c = λ p ws told. written-as p c.args.code.now (call_in p c.in-Call.call) (ap (code_in p) c.in-Call.is ∙ code-Call p c.in-Call.call) ws c.args.written.now c.note_call.new.written _ c.in_ok-note_call-in-Call.ensures (λ x. ap (λ b. b || target_writes (target_in c.in-Call.call.target) x) (told.written (record { class = c.in-Call.call.class; name = c.in-Call.call.method }) x))

pub gather_one-returns-in_ok-add_target-in-Call-clause-locals : goal.gather_one-returns-in_ok-add_target-in-Call-clause-locals
unfolding stmt_adds
gather_one-returns-in_ok-add_target-in-Call-clause-locals t c = λ p. added-as p c.args.code.now (call_in p c.in-Call.call) (ap (code_in p) c.in-Call.is ∙ code-Call p c.in-Call.call) (names_in c.args.scope.now) (names_in c.args.locals.now) (names_in c.add_target-in-Call.new.locals) c.in_ok-add_target-in-Call.ensures

pub gather_one-returns-in_ok-gather_all-in-Branch-clause-written : goal.gather_one-returns-in_ok-gather_all-in-Branch-clause-written
gather_one-returns-in_ok-gather_all-in-Branch-clause-written t c = λ p ws told. written-as p c.args.code.now (s.branch c.in-Branch.field-0 (truth_code c.in-Branch.field-1) (code_in p c.in-Branch.first.value) (codes_in p c.in-Branch.second)) (ap (code_in p) c.in-Branch.is ∙ code-Branch p c.in-Branch.field-0 c.in-Branch.field-1 c.in-Branch.first c.in-Branch.second) ws c.args.written.now c.gather_all-in-Branch.new.written (λ x. stmt_writes ws (code_in p c.deref.result.now) x || stmts_write ws (codes_in p c.items-in-Branch.result.now) x) (notes-then c.args.written.now c.gather_one.new.written c.gather_all-in-Branch.new.written _ _ _ (c.in_ok-gather_one-in-Branch.ensures.written p ws told) (c.in_ok-gather_all-in-Branch.ensures.written p ws told) (λ x. refl)) (λ x. λ i. stmt_writes ws (code_in p (sym c.deref.ensures i)) x || stmts_write ws (codes_in p (sym c.items-in-Branch.ensures i)) x)

pub gather_one-returns-in_ok-gather_all-in-Branch-clause-locals : goal.gather_one-returns-in_ok-gather_all-in-Branch-clause-locals
unfolding stmt_adds
gather_one-returns-in_ok-gather_all-in-Branch-clause-locals t c = λ p. added-as p c.args.code.now (s.branch c.in-Branch.field-0 (truth_code c.in-Branch.field-1) (code_in p c.in-Branch.first.value) (codes_in p c.in-Branch.second)) (ap (code_in p) c.in-Branch.is ∙ code-Branch p c.in-Branch.field-0 c.in-Branch.field-1 c.in-Branch.first c.in-Branch.second) (names_in c.args.scope.now) (names_in c.args.locals.now) (names_in c.gather_all-in-Branch.new.locals) (c.in_ok-gather_all-in-Branch.ensures.locals p ∙ (λ i. stmts_add (names_in c.args.scope.now) (codes_in p (c.items-in-Branch.ensures i)) ((c.in_ok-gather_one-in-Branch.ensures.locals p ∙ ap (λ a. stmt_adds (names_in c.args.scope.now) (code_in p a) (names_in c.args.locals.now)) c.deref.ensures) i)))

pub gather_one-returns-in_ok-gather_one-in-Loop-clause-written : goal.gather_one-returns-in_ok-gather_one-in-Loop-clause-written
gather_one-returns-in_ok-gather_one-in-Loop-clause-written t c = λ p ws told. written-as p c.args.code.now (s.loop c.in-Loop.field-0 (map (claim_in p) c.in-Loop.field-1) (truth_code c.in-Loop.field-2) (code_in p c.in-Loop.body.value)) (ap (code_in p) c.in-Loop.is ∙ code-Loop p c.in-Loop.field-0 c.in-Loop.field-1 c.in-Loop.field-2 c.in-Loop.body) ws c.args.written.now c.gather_one-in-Loop.new.written (stmt_writes ws (code_in p c.deref-in-Loop.result.now)) (c.in_ok-gather_one-in-Loop.ensures.written p ws told) (λ x. ap (λ a. stmt_writes ws (code_in p a) x) (sym c.deref-in-Loop.ensures))

pub gather_one-returns-in_ok-gather_one-in-Loop-clause-locals : goal.gather_one-returns-in_ok-gather_one-in-Loop-clause-locals
unfolding stmt_adds
gather_one-returns-in_ok-gather_one-in-Loop-clause-locals t c = λ p. added-as p c.args.code.now (s.loop c.in-Loop.field-0 (map (claim_in p) c.in-Loop.field-1) (truth_code c.in-Loop.field-2) (code_in p c.in-Loop.body.value)) (ap (code_in p) c.in-Loop.is ∙ code-Loop p c.in-Loop.field-0 c.in-Loop.field-1 c.in-Loop.field-2 c.in-Loop.body) (names_in c.args.scope.now) (names_in c.args.locals.now) (names_in c.gather_one-in-Loop.new.locals) (c.in_ok-gather_one-in-Loop.ensures.locals p ∙ ap (λ a. stmt_adds (names_in c.args.scope.now) (code_in p a) (names_in c.args.locals.now)) c.deref-in-Loop.ensures)

pub gather_one-returns-in_ok-note_ghost-in-Ghost-clause-written : goal.gather_one-returns-in_ok-note_ghost-in-Ghost-clause-written
gather_one-returns-in_ok-note_ghost-in-Ghost-clause-written t c = λ p ws told. written-as p c.args.code.now (ghost_code c.in-Ghost.field-0 (ghost_target (value_of p c.in-Ghost.left)) c.in-Ghost.field-2 (value_of p c.in-Ghost.field-3)) (ap (code_in p) c.in-Ghost.is ∙ code-Ghost p c.in-Ghost.field-0 c.in-Ghost.left c.in-Ghost.field-2 c.in-Ghost.field-3) ws c.args.written.now c.note_ghost.new.written _ c.in_ok-note_ghost-in-Ghost.ensures (λ x. ghost-writes ws c.in-Ghost.field-0 c.in-Ghost.field-2 (value_of p c.in-Ghost.left) (value_of p c.in-Ghost.field-3) x ∙ ap (λ v. option_map_or (λ y. same_text y x) (ghost_text v) false) (told.values c.in-Ghost.left))

pub gather_one-returns-in_ok-note_ghost-in-Ghost-clause-locals : goal.gather_one-returns-in_ok-note_ghost-in-Ghost-clause-locals
unfolding stmt_adds
gather_one-returns-in_ok-note_ghost-in-Ghost-clause-locals t c = λ p. added-as p c.args.code.now (ghost_code c.in-Ghost.field-0 (ghost_target (value_of p c.in-Ghost.left)) c.in-Ghost.field-2 (value_of p c.in-Ghost.field-3)) (ap (code_in p) c.in-Ghost.is ∙ code-Ghost p c.in-Ghost.field-0 c.in-Ghost.left c.in-Ghost.field-2 c.in-Ghost.field-3) (names_in c.args.scope.now) (names_in c.args.locals.now) (names_in c.args.locals.now) (sym (ghost-adds (names_in c.args.scope.now) (names_in c.args.locals.now) c.in-Ghost.field-0 c.in-Ghost.field-2 (value_of p c.in-Ghost.left) (value_of p c.in-Ghost.field-3)))
