use Rattle.std.proofs.Common.{map, option_map, ◌++◌, ap, sym, refl, append-nil, ◌∙◌, ◌≡◌}
use Rattle.jh_ast.specs.Bare.{stmt_body_tree, expr_tree, rhs_tree, call_tree, spec_part, labelled_part, stmt_trees, part_trees, stmt_tree}
use Rattle.jh_ast.proofs.StmtSteps.{tree-Empty, tree-Block, tree-Local, tree-Assign, tree-Call, tree-If, tree-While, tree-Return, tree-Assert, tree-Note, tree-Ghost}
use Rattle.jh_rules.specs.Scopes.{behind, text_behind, in_loop}
use Rattle.jh_type.proofs.method_bodies.Leasts.{after-next, undos-next, after-end, undos-end}
use Rattle.jh_type.proofs.method_bodies.Scopings.{behind-empty, behind-assign, behind-call, behind-return, behind-assert, behind-ghost, behind-note, behind-block, behind-branch, behind-loop, part-back, all-back, left-rest, after-none, after-one}
use Rattle.jh_type.specs.method_bodies.Scoping as scoping
use Rattle.jh_symbols.specs.scopes.Changing.{undone}
use Rattle.jh_symbols.specs.scopes.Lookings.{declared_by, scope_by}
use Rattle.jh_semantics.specs.Code as code
use Rattle.jh_semantics.specs.LoweredStmts.{labelled_claim, stmt_code, stmts_code}
use Rattle.jh_lowering.specs.Lowering.{source_of}
use Rattle.jh_lowering.proofs.Lists.{before, code-as, codes-next, codes-end, on-ok, told}
use Rattle.jh_lowering.proofs.lowering.+lower_one.Goals as goal

pub lower_all-loop-stmt-init : goal.lower_all-loop-stmt-init
lower_all-loop-stmt-init t c = record { code = ap (λ m. before (source_of c.args.context.now) m (stmts_code (source_of c.args.context.now) (stmt_trees c.args.stmts.now) (scope_by c.args.at.now))) c.new-made.ensures.items; scope = refl; undos = refl }

pub lower_all-loop-stmt-preserved : goal.lower_all-loop-stmt-preserved
lower_all-loop-stmt-preserved t c = record {
  code =
      codes-next (source_of c.args.context.now) (scope_by c.loop-stmt.at) (scope_by c.lower_one.new.at) c.args.stmts.now c.loop-stmt.stmt-index c.stmt-item.result c.loop-stmt.made.items c.push_code.new.made.items c.in_ok-code.code.value c.loop-stmt-test.true c.stmt-item.is
      (c.in_ok-code.ensures.scope ∙ ap (λ l. behind l (scope_by c.loop-stmt.at) (stmt_tree c.stmt-item.result)) c.requires) c.in_ok-code.ensures.code c.in_ok-push_code.ensures
      ∙ c.loop-stmt.invariant.code;
  scope = after-next (declared_by c.args.context.now.lookups.now) (scope_by c.loop-stmt.at) (scope_by c.lower_one.new.at) c.args.stmts.now c.loop-stmt.stmt-index c.stmt-item.result c.loop-stmt-test.true c.stmt-item.is c.in_ok-code.ensures.scope ∙ c.loop-stmt.invariant.scope;
  undos = undos-next (declared_by c.args.context.now.lookups.now) (scope_by c.loop-stmt.at) (scope_by c.lower_one.new.at) c.args.stmts.now c.loop-stmt.stmt-index c.stmt-item.result c.loop-stmt.at.undos.items _ c.loop-stmt-test.true c.stmt-item.is c.in_ok-code.ensures.scope c.in_ok-code.ensures.undos ∙ c.loop-stmt.invariant.undos;
}

pub lower_all-returns-clause-code : goal.lower_all-returns-clause-code
lower_all-returns-clause-code t c = sym (codes-end (source_of c.args.context.now) (scope_by c.loop-stmt.at) c.args.stmts.now c.loop-stmt.stmt-index c.loop-stmt.made.items c.loop-stmt-test.false) ∙ c.loop-stmt.invariant.code

pub lower_all-returns-clause-scope : goal.lower_all-returns-clause-scope
lower_all-returns-clause-scope t c = sym (after-end (declared_by c.args.context.now.lookups.now) (scope_by c.loop-stmt.at) c.args.stmts.now c.loop-stmt.stmt-index c.loop-stmt-test.false) ∙ c.loop-stmt.invariant.scope

pub lower_all-returns-clause-undos : goal.lower_all-returns-clause-undos
lower_all-returns-clause-undos t c = sym (undos-end (declared_by c.args.context.now.lookups.now) (scope_by c.loop-stmt.at) c.args.stmts.now c.loop-stmt.stmt-index c.loop-stmt.at.undos.items c.loop-stmt-test.false) ∙ c.loop-stmt.invariant.undos

pub lower_block-returns-clause-scope : goal.lower_block-returns-clause-scope
lower_block-returns-clause-scope t c = c.in_ok-leave.ensures.changed
    ∙ ap (undone (scope_by c.lower_all.new.at)) (left-rest c.mark-mark.result c.args.at.now.undos.items c.lower_all.new.at.undos.items (scoping.undos_of (declared_by c.args.context.now.lookups.now) (scope_by c.args.at.now) (stmt_trees c.args.stmts.now)) c.mark-mark.ensures c.in_ok-made.ensures.undos)
    ∙ ap (λ t. undone t (scoping.undos_of (declared_by c.args.context.now.lookups.now) (scope_by c.args.at.now) (stmt_trees c.args.stmts.now))) c.in_ok-made.ensures.scope ∙ all-back (declared_by c.args.context.now.lookups.now) (scope_by c.args.at.now) (stmt_trees c.args.stmts.now)

pub lower_part-returns-clause-scope : goal.lower_part-returns-clause-scope
lower_part-returns-clause-scope t c = c.in_ok-leave.ensures.changed
    ∙ ap (undone (scope_by c.lower_one.new.at)) (left-rest c.mark-mark.result c.args.at.now.undos.items c.lower_one.new.at.undos.items (scoping.undos_in (scope_by c.args.at.now) (stmt_tree c.args.stmt.now)) c.mark-mark.ensures c.in_ok-made.ensures.undos)
    ∙ ap (λ t. undone t (scoping.undos_in (scope_by c.args.at.now) (stmt_tree c.args.stmt.now))) c.in_ok-made.ensures.scope ∙ part-back (declared_by c.args.context.now.lookups.now) (scope_by c.args.at.now) (stmt_tree c.args.stmt.now)

pub lower_else-returns-in-None-clause-scope : goal.lower_else-returns-in-None-clause-scope
lower_else-returns-in-None-clause-scope t c = sym (ap (λ p. scoping.text_after (scope_by c.args.at.now) (part_trees p)) c.in-None.is ∙ after-none (scope_by c.args.at.now))

pub lower_else-returns-in_ok-made-in-Some-clause-scope : goal.lower_else-returns-in_ok-made-in-Some-clause-scope
lower_else-returns-in_ok-made-in-Some-clause-scope t c =
    let inner : c.deref.result.now ≡ c.in-Some.stmt.value = c.deref.ensures in
    c.in_ok-code-in-Some.ensures.scope
    ∙ ap (λ a. text_behind (scope_by c.args.at.now) (stmt_tree a)) inner ∙ sym (after-one (scope_by c.args.at.now) (stmt_tree c.in-Some.stmt.value)) ∙ sym (ap (λ p. scoping.text_after (scope_by c.args.at.now) (part_trees p)) c.in-Some.is)

pub lower_one-returns-in-Empty-clause-scope : goal.lower_one-returns-in-Empty-clause-scope
lower_one-returns-in-Empty-clause-scope t c = on-ok c.boxed.result (sym (ap (behind (declared_by c.args.context.now.lookups.now) (scope_by c.args.at.now)) (ap (stmt_body_tree c.args.stmt.now.place) c.in-Empty.is ∙ tree-Empty c.args.stmt.now.place) ∙ behind-empty (declared_by c.args.context.now.lookups.now) (scope_by c.args.at.now) c.args.stmt.now.place))

pub lower_one-returns-in-Empty-clause-undos : goal.lower_one-returns-in-Empty-clause-undos
lower_one-returns-in-Empty-clause-undos t c = on-ok c.boxed.result (sym (ap (λ a. c.args.at.now.undos.items ++ scoping.undos_in (scope_by c.args.at.now) a) (ap (stmt_body_tree c.args.stmt.now.place) c.in-Empty.is ∙ tree-Empty c.args.stmt.now.place) ∙ append-nil c.args.at.now.undos.items))

pub lower_one-returns-in-Assign-clause-scope : goal.lower_one-returns-in-Assign-clause-scope
lower_one-returns-in-Assign-clause-scope t c = on-ok c.assignment.result (sym (ap (behind (declared_by c.args.context.now.lookups.now) (scope_by c.args.at.now)) (ap (stmt_body_tree c.args.stmt.now.place) c.in-Assign.is ∙ tree-Assign c.args.stmt.now.place c.in-Assign.target c.in-Assign.rhs) ∙ behind-assign (declared_by c.args.context.now.lookups.now) (scope_by c.args.at.now) c.args.stmt.now.place (expr_tree c.in-Assign.target) (rhs_tree c.in-Assign.rhs)))

pub lower_one-returns-in-Assign-clause-undos : goal.lower_one-returns-in-Assign-clause-undos
lower_one-returns-in-Assign-clause-undos t c = on-ok c.assignment.result (sym (ap (λ a. c.args.at.now.undos.items ++ scoping.undos_in (scope_by c.args.at.now) a) (ap (stmt_body_tree c.args.stmt.now.place) c.in-Assign.is ∙ tree-Assign c.args.stmt.now.place c.in-Assign.target c.in-Assign.rhs) ∙ append-nil c.args.at.now.undos.items))

pub lower_one-returns-in-Call-clause-scope : goal.lower_one-returns-in-Call-clause-scope
lower_one-returns-in-Call-clause-scope t c = on-ok c.call_alone.result (sym (ap (behind (declared_by c.args.context.now.lookups.now) (scope_by c.args.at.now)) (ap (stmt_body_tree c.args.stmt.now.place) c.in-Call.is ∙ tree-Call c.args.stmt.now.place c.in-Call.call) ∙ behind-call (declared_by c.args.context.now.lookups.now) (scope_by c.args.at.now) c.args.stmt.now.place (call_tree c.in-Call.call)))

pub lower_one-returns-in-Call-clause-undos : goal.lower_one-returns-in-Call-clause-undos
lower_one-returns-in-Call-clause-undos t c = on-ok c.call_alone.result (sym (ap (λ a. c.args.at.now.undos.items ++ scoping.undos_in (scope_by c.args.at.now) a) (ap (stmt_body_tree c.args.stmt.now.place) c.in-Call.is ∙ tree-Call c.args.stmt.now.place c.in-Call.call) ∙ append-nil c.args.at.now.undos.items))

pub lower_one-returns-in-Return-clause-scope : goal.lower_one-returns-in-Return-clause-scope
lower_one-returns-in-Return-clause-scope t c = on-ok c.return_code.result (sym (ap (behind (declared_by c.args.context.now.lookups.now) (scope_by c.args.at.now)) (ap (stmt_body_tree c.args.stmt.now.place) c.in-Return.is ∙ tree-Return c.args.stmt.now.place c.in-Return.value) ∙ behind-return (declared_by c.args.context.now.lookups.now) (scope_by c.args.at.now) c.args.stmt.now.place (option_map expr_tree c.in-Return.value)))

pub lower_one-returns-in-Return-clause-undos : goal.lower_one-returns-in-Return-clause-undos
lower_one-returns-in-Return-clause-undos t c = on-ok c.return_code.result (sym (ap (λ a. c.args.at.now.undos.items ++ scoping.undos_in (scope_by c.args.at.now) a) (ap (stmt_body_tree c.args.stmt.now.place) c.in-Return.is ∙ tree-Return c.args.stmt.now.place c.in-Return.value) ∙ append-nil c.args.at.now.undos.items))

pub lower_one-returns-in-Assert-clause-scope : goal.lower_one-returns-in-Assert-clause-scope
lower_one-returns-in-Assert-clause-scope t c = on-ok c.assertion.result (sym (ap (behind (declared_by c.args.context.now.lookups.now) (scope_by c.args.at.now)) (ap (stmt_body_tree c.args.stmt.now.place) c.in-Assert.is ∙ tree-Assert c.args.stmt.now.place c.in-Assert.labelled) ∙ behind-assert (declared_by c.args.context.now.lookups.now) (scope_by c.args.at.now) c.args.stmt.now.place (labelled_part c.in-Assert.labelled)))

pub lower_one-returns-in-Assert-clause-undos : goal.lower_one-returns-in-Assert-clause-undos
lower_one-returns-in-Assert-clause-undos t c = on-ok c.assertion.result (sym (ap (λ a. c.args.at.now.undos.items ++ scoping.undos_in (scope_by c.args.at.now) a) (ap (stmt_body_tree c.args.stmt.now.place) c.in-Assert.is ∙ tree-Assert c.args.stmt.now.place c.in-Assert.labelled) ∙ append-nil c.args.at.now.undos.items))

pub lower_one-returns-in-Ghost-clause-scope : goal.lower_one-returns-in-Ghost-clause-scope
lower_one-returns-in-Ghost-clause-scope t c = on-ok c.ghost_assignment.result (sym (ap (behind (declared_by c.args.context.now.lookups.now) (scope_by c.args.at.now)) (ap (stmt_body_tree c.args.stmt.now.place) c.in-Ghost.is ∙ tree-Ghost c.args.stmt.now.place c.in-Ghost.left c.in-Ghost.right) ∙ behind-ghost (declared_by c.args.context.now.lookups.now) (scope_by c.args.at.now) c.args.stmt.now.place (spec_part c.in-Ghost.left) (spec_part c.in-Ghost.right)))

pub lower_one-returns-in-Ghost-clause-undos : goal.lower_one-returns-in-Ghost-clause-undos
lower_one-returns-in-Ghost-clause-undos t c = on-ok c.ghost_assignment.result (sym (ap (λ a. c.args.at.now.undos.items ++ scoping.undos_in (scope_by c.args.at.now) a) (ap (stmt_body_tree c.args.stmt.now.place) c.in-Ghost.is ∙ tree-Ghost c.args.stmt.now.place c.in-Ghost.left c.in-Ghost.right) ∙ append-nil c.args.at.now.undos.items))

pub lower_one-returns-in_ok-made-in-Block-clause-scope : goal.lower_one-returns-in_ok-made-in-Block-clause-scope
lower_one-returns-in_ok-made-in-Block-clause-scope t c = on-ok c.block.result (c.in_ok-made-in-Block.ensures.scope ∙ ap (λ ss. scoping.text_after (scope_by c.args.at.now) (stmt_trees ss)) c.items.ensures ∙ sym (ap (behind (declared_by c.args.context.now.lookups.now) (scope_by c.args.at.now)) (ap (stmt_body_tree c.args.stmt.now.place) c.in-Block.is ∙ tree-Block c.args.stmt.now.place c.in-Block.stmts) ∙ behind-block (declared_by c.args.context.now.lookups.now) (scope_by c.args.at.now) c.args.stmt.now.place (stmt_trees c.in-Block.stmts)))

pub lower_one-returns-in_ok-made-in-Block-clause-undos : goal.lower_one-returns-in_ok-made-in-Block-clause-undos
lower_one-returns-in_ok-made-in-Block-clause-undos t c = on-ok c.block.result (c.in_ok-made-in-Block.ensures.undos ∙ sym (ap (λ a. c.args.at.now.undos.items ++ scoping.undos_in (scope_by c.args.at.now) a) (ap (stmt_body_tree c.args.stmt.now.place) c.in-Block.is ∙ tree-Block c.args.stmt.now.place c.in-Block.stmts) ∙ append-nil c.args.at.now.undos.items))

pub lower_one-returns-in_ok-add_label-in-Note-clause-scope : goal.lower_one-returns-in_ok-add_label-in-Note-clause-scope
lower_one-returns-in_ok-add_label-in-Note-clause-scope t c = c.in_ok-add_label-in-Note.ensures.scope ∙ sym (ap (behind (declared_by c.args.context.now.lookups.now) (scope_by c.args.at.now)) (ap (stmt_body_tree c.args.stmt.now.place) c.in-Note.is ∙ tree-Note c.args.stmt.now.place c.in-Note.labelled) ∙ behind-note (declared_by c.args.context.now.lookups.now) (scope_by c.args.at.now) c.args.stmt.now.place (labelled_part c.in-Note.labelled))

pub lower_one-returns-in_ok-add_label-in-Note-clause-undos : goal.lower_one-returns-in_ok-add_label-in-Note-clause-undos
lower_one-returns-in_ok-add_label-in-Note-clause-undos t c = c.in_ok-add_label-in-Note.ensures.undos ∙ sym (ap (λ a. c.args.at.now.undos.items ++ scoping.undos_in (scope_by c.args.at.now) a) (ap (stmt_body_tree c.args.stmt.now.place) c.in-Note.is ∙ tree-Note c.args.stmt.now.place c.in-Note.labelled) ∙ append-nil c.args.at.now.undos.items)

pub lower_one-returns-in_ok-second-in-If-clause-scope : goal.lower_one-returns-in_ok-second-in-If-clause-scope
lower_one-returns-in_ok-second-in-If-clause-scope t c =
    let inner : c.deref.result.now ≡ c.in-If.first.value = c.deref.ensures in
    on-ok c.branch_of.result
    (c.in_ok-second-in-If.ensures.scope ∙ ap (λ s. scoping.text_after s (part_trees c.in-If.second)) (c.in_ok-first-in-If.ensures.scope ∙ ap (λ a. text_behind (scope_by c.args.at.now) (stmt_tree a)) inner)
    ∙ sym (ap (behind (declared_by c.args.context.now.lookups.now) (scope_by c.args.at.now)) (ap (stmt_body_tree c.args.stmt.now.place) c.in-If.is ∙ tree-If c.args.stmt.now.place c.in-If.test c.in-If.first c.in-If.second) ∙ behind-branch (declared_by c.args.context.now.lookups.now) (scope_by c.args.at.now) c.args.stmt.now.place (expr_tree c.in-If.test) (stmt_tree c.in-If.first.value) (part_trees c.in-If.second)))

pub lower_one-returns-in_ok-second-in-If-clause-undos : goal.lower_one-returns-in_ok-second-in-If-clause-undos
lower_one-returns-in_ok-second-in-If-clause-undos t c = on-ok c.branch_of.result (c.in_ok-second-in-If.ensures.undos ∙ c.in_ok-first-in-If.ensures.undos ∙ sym (ap (λ a. c.args.at.now.undos.items ++ scoping.undos_in (scope_by c.args.at.now) a) (ap (stmt_body_tree c.args.stmt.now.place) c.in-If.is ∙ tree-If c.args.stmt.now.place c.in-If.test c.in-If.first c.in-If.second) ∙ append-nil c.args.at.now.undos.items))

pub lower_one-returns-in_ok-body-in-While-clause-scope : goal.lower_one-returns-in_ok-body-in-While-clause-scope
lower_one-returns-in_ok-body-in-While-clause-scope t c =
    let inner : c.deref-in-While.result.now ≡ c.in-While.body.value = c.deref-in-While.ensures in
    on-ok c.loop_of.result
    (c.in_ok-body-in-While.ensures.scope
    ∙ (λ i. text_behind ((c.in_ok-add_labels-in-While.ensures.scope ∙ ap (λ is. in_loop (scope_by c.args.at.now) (map labelled_part is)) c.items-in-While-2.ensures) i) (stmt_tree (inner i)))
    ∙ sym (ap (behind (declared_by c.args.context.now.lookups.now) (scope_by c.args.at.now)) (ap (stmt_body_tree c.args.stmt.now.place) c.in-While.is ∙ tree-While c.args.stmt.now.place c.in-While.invariants c.in-While.test _ _ _) ∙ behind-loop (declared_by c.args.context.now.lookups.now) (scope_by c.args.at.now) c.args.stmt.now.place (map labelled_part c.in-While.invariants) (expr_tree c.in-While.test) (stmt_tree c.in-While.body.value)))

pub lower_one-returns-in_ok-body-in-While-clause-undos : goal.lower_one-returns-in_ok-body-in-While-clause-undos
lower_one-returns-in_ok-body-in-While-clause-undos t c = on-ok c.loop_of.result (c.in_ok-body-in-While.ensures.undos ∙ c.in_ok-add_labels-in-While.ensures.undos ∙ sym (ap (λ a. c.args.at.now.undos.items ++ scoping.undos_in (scope_by c.args.at.now) a) (ap (stmt_body_tree c.args.stmt.now.place) c.in-While.is ∙ tree-While c.args.stmt.now.place c.in-While.invariants c.in-While.test _ _ _) ∙ append-nil c.args.at.now.undos.items))

pub lower_one-returns-in-Assign-clause-code : goal.lower_one-returns-in-Assign-clause-code
unfolding stmt_code
lower_one-returns-in-Assign-clause-code t c = code-as (source_of c.args.context.now) c.assignment.result _ _ (told (source_of c.args.context.now) (scope_by c.args.at.now) (stmt_tree c.args.stmt.now) _ (ap (stmt_body_tree c.args.stmt.now.place) c.in-Assign.is ∙ tree-Assign c.args.stmt.now.place c.in-Assign.target c.in-Assign.rhs)) c.assignment.ensures

pub lower_one-returns-in-Call-clause-code : goal.lower_one-returns-in-Call-clause-code
unfolding stmt_code
lower_one-returns-in-Call-clause-code t c = code-as (source_of c.args.context.now) c.call_alone.result _ _ (told (source_of c.args.context.now) (scope_by c.args.at.now) (stmt_tree c.args.stmt.now) _ (ap (stmt_body_tree c.args.stmt.now.place) c.in-Call.is ∙ tree-Call c.args.stmt.now.place c.in-Call.call)) c.call_alone.ensures

pub lower_one-returns-in-Return-clause-code : goal.lower_one-returns-in-Return-clause-code
unfolding stmt_code
lower_one-returns-in-Return-clause-code t c = code-as (source_of c.args.context.now) c.return_code.result _ _ (told (source_of c.args.context.now) (scope_by c.args.at.now) (stmt_tree c.args.stmt.now) _ (ap (stmt_body_tree c.args.stmt.now.place) c.in-Return.is ∙ tree-Return c.args.stmt.now.place c.in-Return.value)) c.return_code.ensures

pub lower_one-returns-in-Assert-clause-code : goal.lower_one-returns-in-Assert-clause-code
unfolding stmt_code
lower_one-returns-in-Assert-clause-code t c = code-as (source_of c.args.context.now) c.assertion.result _ _ (told (source_of c.args.context.now) (scope_by c.args.at.now) (stmt_tree c.args.stmt.now) _ (ap (stmt_body_tree c.args.stmt.now.place) c.in-Assert.is ∙ tree-Assert c.args.stmt.now.place c.in-Assert.labelled)) (c.assertion.ensures (source_of c.args.context.now))

pub lower_one-returns-in-Ghost-clause-code : goal.lower_one-returns-in-Ghost-clause-code
unfolding stmt_code
lower_one-returns-in-Ghost-clause-code t c = code-as (source_of c.args.context.now) c.ghost_assignment.result _ _ (told (source_of c.args.context.now) (scope_by c.args.at.now) (stmt_tree c.args.stmt.now) _ (ap (stmt_body_tree c.args.stmt.now.place) c.in-Ghost.is ∙ tree-Ghost c.args.stmt.now.place c.in-Ghost.left c.in-Ghost.right)) (c.ghost_assignment.ensures (source_of c.args.context.now))

pub lower_one-returns-in_ok-declare-in-Local-clause-code : goal.lower_one-returns-in_ok-declare-in-Local-clause-code
unfolding stmt_code
lower_one-returns-in_ok-declare-in-Local-clause-code t c = c.in_ok-made-in-Local.ensures ∙ told (source_of c.args.context.now) (scope_by c.args.at.now) (stmt_tree c.args.stmt.now) _ (ap (stmt_body_tree c.args.stmt.now.place) c.in-Local.is ∙ tree-Local c.args.stmt.now.place c.in-Local.param c.in-Local.rhs)

pub lower_one-returns-in_ok-add_label-in-Note-clause-code : goal.lower_one-returns-in_ok-add_label-in-Note-clause-code
unfolding stmt_code
lower_one-returns-in_ok-add_label-in-Note-clause-code t c = c.in_ok-made-in-Note.ensures (source_of c.args.context.now) ∙ told (source_of c.args.context.now) (scope_by c.args.at.now) (stmt_tree c.args.stmt.now) _ (ap (stmt_body_tree c.args.stmt.now.place) c.in-Note.is ∙ tree-Note c.args.stmt.now.place c.in-Note.labelled)

pub lower_one-returns-in_ok-made-in-Block-clause-code : goal.lower_one-returns-in_ok-made-in-Block-clause-code
unfolding stmt_code
lower_one-returns-in_ok-made-in-Block-clause-code t c = code-as (source_of c.args.context.now) c.block.result _ _ (ap code.block (c.in_ok-made-in-Block.ensures.code ∙ ap (λ ss. stmts_code (source_of c.args.context.now) (stmt_trees ss) (scope_by c.args.at.now)) c.items.ensures) ∙ told (source_of c.args.context.now) (scope_by c.args.at.now) (stmt_tree c.args.stmt.now) _ (ap (stmt_body_tree c.args.stmt.now.place) c.in-Block.is ∙ tree-Block c.args.stmt.now.place c.in-Block.stmts)) (c.block.ensures (source_of c.args.context.now))

pub lower_one-returns-in_ok-second-in-If-clause-code : goal.lower_one-returns-in_ok-second-in-If-clause-code
unfolding stmt_code
lower_one-returns-in_ok-second-in-If-clause-code t c =
    let inner : c.deref.result.now ≡ c.in-If.first.value = c.deref.ensures in
    let first = c.in_ok-first-in-If.ensures.code ∙ ap (λ a. stmt_code (source_of c.args.context.now) (stmt_tree a) (scope_by c.args.at.now)) inner in
    let second = c.in_ok-second-in-If.ensures.code ∙ ap (stmts_code (source_of c.args.context.now) (part_trees c.in-If.second)) (c.in_ok-first-in-If.ensures.scope ∙ ap (λ a. text_behind (scope_by c.args.at.now) (stmt_tree a)) inner) in
    code-as (source_of c.args.context.now) c.branch_of.result _ _ ((λ i. code.branch c.args.stmt.now.place (c.in_ok-test-in-If.ensures i) (first i) (second i)) ∙ told (source_of c.args.context.now) (scope_by c.args.at.now) (stmt_tree c.args.stmt.now) _ (ap (stmt_body_tree c.args.stmt.now.place) c.in-If.is ∙ tree-If c.args.stmt.now.place c.in-If.test c.in-If.first c.in-If.second)) (c.branch_of.ensures (source_of c.args.context.now))

pub lower_one-returns-in_ok-body-in-While-clause-code : goal.lower_one-returns-in_ok-body-in-While-clause-code
unfolding stmt_code
lower_one-returns-in_ok-body-in-While-clause-code t c =
    let inner : c.deref-in-While.result.now ≡ c.in-While.body.value = c.deref-in-While.ensures in
    let scope = c.in_ok-add_labels-in-While.ensures.scope ∙ ap (λ is. in_loop (scope_by c.args.at.now) (map labelled_part is)) c.items-in-While-2.ensures in
    let claims = c.in_ok-head-in-While.ensures.claims (source_of c.args.context.now) ∙ ap (λ is. map (labelled_claim (source_of c.args.context.now)) (map labelled_part is)) c.items-in-While.ensures in
    let body = c.in_ok-body-in-While.ensures.code ∙ (λ i. stmt_code (source_of c.args.context.now) (stmt_tree (inner i)) (scope i)) in
    code-as (source_of c.args.context.now) c.loop_of.result _ _ ((λ i. code.loop c.args.stmt.now.place (claims i) (c.in_ok-head-in-While.ensures.test i) (body i)) ∙ told (source_of c.args.context.now) (scope_by c.args.at.now) (stmt_tree c.args.stmt.now) _ (ap (stmt_body_tree c.args.stmt.now.place) c.in-While.is ∙ tree-While c.args.stmt.now.place c.in-While.invariants c.in-While.test _ _ _)) (c.loop_of.ensures (source_of c.args.context.now))
