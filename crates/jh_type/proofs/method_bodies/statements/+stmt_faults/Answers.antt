use Rattle.std.proofs.Common.{map, option_map, ◌++◌, subst, ap, OnOk, sym, ◌∙◌, ◌≡◌}
use Rattle.jh_ast.specs.Bare.{stmt_body_tree, expr_tree, rhs_tree, call_tree, spec_part, labelled_part, stmt_trees, part_trees, stmt_tree, method_part}
use Rattle.jh_ast.proofs.StmtSteps.{tree-Empty, tree-Block, tree-Assign, tree-Call, tree-If, tree-While, tree-Return, tree-Assert, tree-Note, tree-Ghost}
use Rattle.jh_rules.specs.Found.{least, lesser}
use Rattle.jh_rules.specs.Scopes.{behind, text_behind, in_loop}
use Rattle.jh_rules.specs.Statements.{stmt_faults}
use Rattle.jh_rules.proofs.Judgements.{least-append}
use Rattle.jh_type.specs.method_bodies.Parts as parts
use Rattle.jh_type.proofs.method_bodies.Leasts.{append-none, loop-faults, stmts-next, stmts-end, after-next, undos-next, after-end, undos-end}
use Rattle.jh_type.proofs.method_bodies.Scopings.{behind-empty, behind-assign, behind-call, behind-return, behind-assert, behind-ghost, behind-note, behind-block, behind-branch, behind-loop, part-back, all-back, left-rest, after-none, after-one}
use Rattle.jh_symbols.specs.scopes.Changing.{undone}
use Rattle.jh_type.specs.method_bodies.Scoping as scoping
use Rattle.jh_symbols.specs.scopes.Lookings.{declared_by, scope_by}
use Rattle.jh_type.proofs.method_bodies.statements.+stmt_faults.Goals as goal

pub all_faults-loop-stmt-preserved : goal.all_faults-loop-stmt-preserved
all_faults-loop-stmt-preserved t c = record {
  found = stmts-next (declared_by c.args.lookups.now) (method_part c.args.method.now) (scope_by c.loop-stmt.at) (scope_by c.stmt_faults.new.at) c.args.stmts.now c.loop-stmt.stmt-index c.stmt-item.result c.loop-stmt.found _ _ c.loop-stmt-test.true c.stmt-item.is c.in_ok-next.ensures.found c.lesser-found.ensures c.in_ok-next.ensures.scope ∙ c.loop-stmt.invariant.found;
  scope = after-next (declared_by c.args.lookups.now) (scope_by c.loop-stmt.at) (scope_by c.stmt_faults.new.at) c.args.stmts.now c.loop-stmt.stmt-index c.stmt-item.result c.loop-stmt-test.true c.stmt-item.is c.in_ok-next.ensures.scope ∙ c.loop-stmt.invariant.scope;
  undos = undos-next (declared_by c.args.lookups.now) (scope_by c.loop-stmt.at) (scope_by c.stmt_faults.new.at) c.args.stmts.now c.loop-stmt.stmt-index c.stmt-item.result c.loop-stmt.at.undos.items _ c.loop-stmt-test.true c.stmt-item.is c.in_ok-next.ensures.scope c.in_ok-next.ensures.undos ∙ c.loop-stmt.invariant.undos;
}

pub all_faults-returns-clause-found : goal.all_faults-returns-clause-found
all_faults-returns-clause-found t c = sym (stmts-end (declared_by c.args.lookups.now) (method_part c.args.method.now) (scope_by c.loop-stmt.at) c.args.stmts.now c.loop-stmt.stmt-index c.loop-stmt.found c.loop-stmt-test.false) ∙ c.loop-stmt.invariant.found

pub all_faults-returns-clause-scope : goal.all_faults-returns-clause-scope
all_faults-returns-clause-scope t c = sym (after-end (declared_by c.args.lookups.now) (scope_by c.loop-stmt.at) c.args.stmts.now c.loop-stmt.stmt-index c.loop-stmt-test.false) ∙ c.loop-stmt.invariant.scope

pub all_faults-returns-clause-undos : goal.all_faults-returns-clause-undos
all_faults-returns-clause-undos t c = sym (undos-end (declared_by c.args.lookups.now) (scope_by c.loop-stmt.at) c.args.stmts.now c.loop-stmt.stmt-index c.loop-stmt.at.undos.items c.loop-stmt-test.false) ∙ c.loop-stmt.invariant.undos

pub block_faults-returns-clause-scope : goal.block_faults-returns-clause-scope
block_faults-returns-clause-scope t c = c.in_ok-leave.ensures.changed
    ∙ ap (undone (scope_by c.all_faults.new.at)) (left-rest c.mark-mark.result c.args.at.now.undos.items c.all_faults.new.at.undos.items (scoping.undos_of (declared_by c.args.lookups.now) (scope_by c.args.at.now) (stmt_trees c.args.stmts.now)) c.mark-mark.ensures c.in_ok-found.ensures.undos)
    ∙ ap (λ t. undone t (scoping.undos_of (declared_by c.args.lookups.now) (scope_by c.args.at.now) (stmt_trees c.args.stmts.now))) c.in_ok-found.ensures.scope ∙ all-back (declared_by c.args.lookups.now) (scope_by c.args.at.now) (stmt_trees c.args.stmts.now)

pub part_faults-returns-clause-scope : goal.part_faults-returns-clause-scope
part_faults-returns-clause-scope t c = c.in_ok-leave.ensures.changed
    ∙ ap (undone (scope_by c.stmt_faults.new.at)) (left-rest c.mark-mark.result c.args.at.now.undos.items c.stmt_faults.new.at.undos.items (scoping.undos_in (scope_by c.args.at.now) (stmt_tree c.args.stmt.now)) c.mark-mark.ensures c.in_ok-found.ensures.undos)
    ∙ ap (λ t. undone t (scoping.undos_in (scope_by c.args.at.now) (stmt_tree c.args.stmt.now))) c.in_ok-found.ensures.scope ∙ part-back (declared_by c.args.lookups.now) (scope_by c.args.at.now) (stmt_tree c.args.stmt.now)

pub else_faults-returns-in-None-clause-scope : goal.else_faults-returns-in-None-clause-scope
else_faults-returns-in-None-clause-scope t c = sym (ap (λ p. scoping.text_after (scope_by c.args.at.now) (part_trees p)) c.in-None.is ∙ after-none (scope_by c.args.at.now))

pub else_faults-returns-in-Some-clause-scope : goal.else_faults-returns-in-Some-clause-scope
else_faults-returns-in-Some-clause-scope t c =
    let inner : c.deref.result.now ≡ c.in-Some.stmt.value = c.deref.ensures in
    subst (λ x. OnOk c.part_faults.result (scope_by c.part_faults.new.at ≡ x))
    (ap (λ a. text_behind (scope_by c.args.at.now) (stmt_tree a)) inner ∙ sym (after-one (scope_by c.args.at.now) (stmt_tree c.in-Some.stmt.value)) ∙ sym (ap (λ p. scoping.text_after (scope_by c.args.at.now) (part_trees p)) c.in-Some.is)) c.part_faults.ensures.scope

pub stmt_faults-returns-in-Empty-clause-scope : goal.stmt_faults-returns-in-Empty-clause-scope
stmt_faults-returns-in-Empty-clause-scope t c = sym (ap (behind (declared_by c.args.lookups.now) (scope_by c.args.at.now)) (ap (stmt_body_tree c.args.stmt.now.place) c.in-Empty.is ∙ tree-Empty c.args.stmt.now.place) ∙ behind-empty (declared_by c.args.lookups.now) (scope_by c.args.at.now) c.args.stmt.now.place)

pub stmt_faults-returns-in-Empty-clause-undos : goal.stmt_faults-returns-in-Empty-clause-undos
stmt_faults-returns-in-Empty-clause-undos t c = sym (ap (λ a. c.args.at.now.undos.items ++ scoping.undos_in (scope_by c.args.at.now) a) (ap (stmt_body_tree c.args.stmt.now.place) c.in-Empty.is ∙ tree-Empty c.args.stmt.now.place) ∙ append-none c.args.at.now.undos.items)

pub stmt_faults-returns-in-Assign-clause-scope : goal.stmt_faults-returns-in-Assign-clause-scope
stmt_faults-returns-in-Assign-clause-scope t c = sym (ap (behind (declared_by c.args.lookups.now) (scope_by c.args.at.now)) (ap (stmt_body_tree c.args.stmt.now.place) c.in-Assign.is ∙ tree-Assign c.args.stmt.now.place c.in-Assign.target c.in-Assign.rhs) ∙ behind-assign (declared_by c.args.lookups.now) (scope_by c.args.at.now) c.args.stmt.now.place (expr_tree c.in-Assign.target) (rhs_tree c.in-Assign.rhs))

pub stmt_faults-returns-in-Assign-clause-undos : goal.stmt_faults-returns-in-Assign-clause-undos
stmt_faults-returns-in-Assign-clause-undos t c = sym (ap (λ a. c.args.at.now.undos.items ++ scoping.undos_in (scope_by c.args.at.now) a) (ap (stmt_body_tree c.args.stmt.now.place) c.in-Assign.is ∙ tree-Assign c.args.stmt.now.place c.in-Assign.target c.in-Assign.rhs) ∙ append-none c.args.at.now.undos.items)

pub stmt_faults-returns-in-Call-clause-scope : goal.stmt_faults-returns-in-Call-clause-scope
stmt_faults-returns-in-Call-clause-scope t c = sym (ap (behind (declared_by c.args.lookups.now) (scope_by c.args.at.now)) (ap (stmt_body_tree c.args.stmt.now.place) c.in-Call.is ∙ tree-Call c.args.stmt.now.place c.in-Call.call) ∙ behind-call (declared_by c.args.lookups.now) (scope_by c.args.at.now) c.args.stmt.now.place (call_tree c.in-Call.call))

pub stmt_faults-returns-in-Call-clause-undos : goal.stmt_faults-returns-in-Call-clause-undos
stmt_faults-returns-in-Call-clause-undos t c = sym (ap (λ a. c.args.at.now.undos.items ++ scoping.undos_in (scope_by c.args.at.now) a) (ap (stmt_body_tree c.args.stmt.now.place) c.in-Call.is ∙ tree-Call c.args.stmt.now.place c.in-Call.call) ∙ append-none c.args.at.now.undos.items)

pub stmt_faults-returns-in-Return-clause-scope : goal.stmt_faults-returns-in-Return-clause-scope
stmt_faults-returns-in-Return-clause-scope t c = sym (ap (behind (declared_by c.args.lookups.now) (scope_by c.args.at.now)) (ap (stmt_body_tree c.args.stmt.now.place) c.in-Return.is ∙ tree-Return c.args.stmt.now.place c.in-Return.value) ∙ behind-return (declared_by c.args.lookups.now) (scope_by c.args.at.now) c.args.stmt.now.place (option_map expr_tree c.in-Return.value))

pub stmt_faults-returns-in-Return-clause-undos : goal.stmt_faults-returns-in-Return-clause-undos
stmt_faults-returns-in-Return-clause-undos t c = sym (ap (λ a. c.args.at.now.undos.items ++ scoping.undos_in (scope_by c.args.at.now) a) (ap (stmt_body_tree c.args.stmt.now.place) c.in-Return.is ∙ tree-Return c.args.stmt.now.place c.in-Return.value) ∙ append-none c.args.at.now.undos.items)

pub stmt_faults-returns-in_ok-found-in-Assert-clause-scope : goal.stmt_faults-returns-in_ok-found-in-Assert-clause-scope
stmt_faults-returns-in_ok-found-in-Assert-clause-scope t c = sym (ap (behind (declared_by c.args.lookups.now) (scope_by c.args.at.now)) (ap (stmt_body_tree c.args.stmt.now.place) c.in-Assert.is ∙ tree-Assert c.args.stmt.now.place c.in-Assert.labelled) ∙ behind-assert (declared_by c.args.lookups.now) (scope_by c.args.at.now) c.args.stmt.now.place (labelled_part c.in-Assert.labelled))

pub stmt_faults-returns-in_ok-found-in-Assert-clause-undos : goal.stmt_faults-returns-in_ok-found-in-Assert-clause-undos
stmt_faults-returns-in_ok-found-in-Assert-clause-undos t c = sym (ap (λ a. c.args.at.now.undos.items ++ scoping.undos_in (scope_by c.args.at.now) a) (ap (stmt_body_tree c.args.stmt.now.place) c.in-Assert.is ∙ tree-Assert c.args.stmt.now.place c.in-Assert.labelled) ∙ append-none c.args.at.now.undos.items)

pub stmt_faults-returns-in_ok-found-in-Ghost-clause-scope : goal.stmt_faults-returns-in_ok-found-in-Ghost-clause-scope
stmt_faults-returns-in_ok-found-in-Ghost-clause-scope t c = sym (ap (behind (declared_by c.args.lookups.now) (scope_by c.args.at.now)) (ap (stmt_body_tree c.args.stmt.now.place) c.in-Ghost.is ∙ tree-Ghost c.args.stmt.now.place c.in-Ghost.left c.in-Ghost.right) ∙ behind-ghost (declared_by c.args.lookups.now) (scope_by c.args.at.now) c.args.stmt.now.place (spec_part c.in-Ghost.left) (spec_part c.in-Ghost.right))

pub stmt_faults-returns-in_ok-found-in-Ghost-clause-undos : goal.stmt_faults-returns-in_ok-found-in-Ghost-clause-undos
stmt_faults-returns-in_ok-found-in-Ghost-clause-undos t c = sym (ap (λ a. c.args.at.now.undos.items ++ scoping.undos_in (scope_by c.args.at.now) a) (ap (stmt_body_tree c.args.stmt.now.place) c.in-Ghost.is ∙ tree-Ghost c.args.stmt.now.place c.in-Ghost.left c.in-Ghost.right) ∙ append-none c.args.at.now.undos.items)

pub stmt_faults-returns-in_ok-found-in-Block-clause-scope : goal.stmt_faults-returns-in_ok-found-in-Block-clause-scope
stmt_faults-returns-in_ok-found-in-Block-clause-scope t c = c.in_ok-found-in-Block.ensures.scope ∙ ap (λ ss. scoping.text_after (scope_by c.args.at.now) (stmt_trees ss)) c.items.ensures ∙ sym (ap (behind (declared_by c.args.lookups.now) (scope_by c.args.at.now)) (ap (stmt_body_tree c.args.stmt.now.place) c.in-Block.is ∙ tree-Block c.args.stmt.now.place c.in-Block.stmts) ∙ behind-block (declared_by c.args.lookups.now) (scope_by c.args.at.now) c.args.stmt.now.place (stmt_trees c.in-Block.stmts))

pub stmt_faults-returns-in_ok-found-in-Block-clause-undos : goal.stmt_faults-returns-in_ok-found-in-Block-clause-undos
stmt_faults-returns-in_ok-found-in-Block-clause-undos t c = c.in_ok-found-in-Block.ensures.undos ∙ sym (ap (λ a. c.args.at.now.undos.items ++ scoping.undos_in (scope_by c.args.at.now) a) (ap (stmt_body_tree c.args.stmt.now.place) c.in-Block.is ∙ tree-Block c.args.stmt.now.place c.in-Block.stmts) ∙ append-none c.args.at.now.undos.items)

pub stmt_faults-returns-in_ok-found-in-Note-clause-scope : goal.stmt_faults-returns-in_ok-found-in-Note-clause-scope
stmt_faults-returns-in_ok-found-in-Note-clause-scope t c = c.in_ok-found-in-Note.ensures.scope ∙ sym (ap (behind (declared_by c.args.lookups.now) (scope_by c.args.at.now)) (ap (stmt_body_tree c.args.stmt.now.place) c.in-Note.is ∙ tree-Note c.args.stmt.now.place c.in-Note.labelled) ∙ behind-note (declared_by c.args.lookups.now) (scope_by c.args.at.now) c.args.stmt.now.place (labelled_part c.in-Note.labelled))

pub stmt_faults-returns-in_ok-found-in-Note-clause-undos : goal.stmt_faults-returns-in_ok-found-in-Note-clause-undos
stmt_faults-returns-in_ok-found-in-Note-clause-undos t c = c.in_ok-found-in-Note.ensures.undos ∙ sym (ap (λ a. c.args.at.now.undos.items ++ scoping.undos_in (scope_by c.args.at.now) a) (ap (stmt_body_tree c.args.stmt.now.place) c.in-Note.is ∙ tree-Note c.args.stmt.now.place c.in-Note.labelled) ∙ append-none c.args.at.now.undos.items)

pub stmt_faults-returns-in_ok-other-in-If-clause-scope : goal.stmt_faults-returns-in_ok-other-in-If-clause-scope
stmt_faults-returns-in_ok-other-in-If-clause-scope t c =
    let inner : c.deref.result.now ≡ c.in-If.first.value = c.deref.ensures in
    c.in_ok-other-in-If.ensures.scope ∙ ap (λ s. scoping.text_after s (part_trees c.in-If.second)) (c.in_ok-one-in-If.ensures.scope ∙ ap (λ a. text_behind (scope_by c.args.at.now) (stmt_tree a)) inner)
    ∙ sym (ap (behind (declared_by c.args.lookups.now) (scope_by c.args.at.now)) (ap (stmt_body_tree c.args.stmt.now.place) c.in-If.is ∙ tree-If c.args.stmt.now.place c.in-If.condition c.in-If.first c.in-If.second) ∙ behind-branch (declared_by c.args.lookups.now) (scope_by c.args.at.now) c.args.stmt.now.place (expr_tree c.in-If.condition) (stmt_tree c.in-If.first.value) (part_trees c.in-If.second))

pub stmt_faults-returns-in_ok-other-in-If-clause-undos : goal.stmt_faults-returns-in_ok-other-in-If-clause-undos
stmt_faults-returns-in_ok-other-in-If-clause-undos t c = c.in_ok-other-in-If.ensures.undos ∙ c.in_ok-one-in-If.ensures.undos ∙ sym (ap (λ a. c.args.at.now.undos.items ++ scoping.undos_in (scope_by c.args.at.now) a) (ap (stmt_body_tree c.args.stmt.now.place) c.in-If.is ∙ tree-If c.args.stmt.now.place c.in-If.condition c.in-If.first c.in-If.second) ∙ append-none c.args.at.now.undos.items)

pub stmt_faults-returns-in_ok-inner-in-While-clause-scope : goal.stmt_faults-returns-in_ok-inner-in-While-clause-scope
stmt_faults-returns-in_ok-inner-in-While-clause-scope t c =
    let inner : c.deref-in-While.result.now ≡ c.in-While.body.value = c.deref-in-While.ensures in
    c.in_ok-inner-in-While.ensures.scope
    ∙ (λ i. text_behind ((c.in_ok-head-in-While.ensures.scope ∙ ap (λ is. in_loop (scope_by c.args.at.now) (map labelled_part is)) c.items-in-While.ensures) i) (stmt_tree (inner i)))
    ∙ sym (ap (behind (declared_by c.args.lookups.now) (scope_by c.args.at.now)) (ap (stmt_body_tree c.args.stmt.now.place) c.in-While.is ∙ tree-While c.args.stmt.now.place c.in-While.invariants c.in-While.condition _ _ _) ∙ behind-loop (declared_by c.args.lookups.now) (scope_by c.args.at.now) c.args.stmt.now.place (map labelled_part c.in-While.invariants) (expr_tree c.in-While.condition) (stmt_tree c.in-While.body.value))

pub stmt_faults-returns-in_ok-inner-in-While-clause-undos : goal.stmt_faults-returns-in_ok-inner-in-While-clause-undos
stmt_faults-returns-in_ok-inner-in-While-clause-undos t c = c.in_ok-inner-in-While.ensures.undos ∙ c.in_ok-head-in-While.ensures.undos ∙ sym (ap (λ a. c.args.at.now.undos.items ++ scoping.undos_in (scope_by c.args.at.now) a) (ap (stmt_body_tree c.args.stmt.now.place) c.in-While.is ∙ tree-While c.args.stmt.now.place c.in-While.invariants c.in-While.condition _ _ _) ∙ append-none c.args.at.now.undos.items)

pub stmt_faults-returns-in_ok-inner-in-While-clause-found : goal.stmt_faults-returns-in_ok-inner-in-While-clause-found
stmt_faults-returns-in_ok-inner-in-While-clause-found t c =
    let inner : c.deref-in-While.result.now ≡ c.in-While.body.value = c.deref-in-While.ensures in
    c.lesser-in-While.ensures
    ∙ (λ i. lesser ((c.in_ok-head-in-While.ensures.found ∙ ap (λ is. least (parts.loop_head (declared_by c.args.lookups.now) (scope_by c.args.at.now) (map labelled_part is) (expr_tree c.in-While.condition))) c.items-in-While.ensures) i)
    ((c.in_ok-inner-in-While.ensures.found ∙ (λ j. least (stmt_faults (declared_by c.args.lookups.now) (method_part c.args.method.now) (stmt_tree (inner j)) ((c.in_ok-head-in-While.ensures.scope ∙ ap (λ is. in_loop (scope_by c.args.at.now) (map labelled_part is)) c.items-in-While.ensures) j)))) i))
    ∙ sym (least-append (parts.loop_head (declared_by c.args.lookups.now) (scope_by c.args.at.now) (map labelled_part c.in-While.invariants) (expr_tree c.in-While.condition)) (stmt_faults (declared_by c.args.lookups.now) (method_part c.args.method.now) (stmt_tree c.in-While.body.value) (in_loop (scope_by c.args.at.now) (map labelled_part c.in-While.invariants))))
    ∙ ap least (sym (loop-faults (declared_by c.args.lookups.now) (method_part c.args.method.now) (scope_by c.args.at.now) c.args.stmt.now.place (map labelled_part c.in-While.invariants) (expr_tree c.in-While.condition) (stmt_tree c.in-While.body.value)))
    ∙ sym (ap (λ a. least (stmt_faults (declared_by c.args.lookups.now) (method_part c.args.method.now) a (scope_by c.args.at.now))) (ap (stmt_body_tree c.args.stmt.now.place) c.in-While.is ∙ tree-While c.args.stmt.now.place c.in-While.invariants c.in-While.condition _ _ _))
