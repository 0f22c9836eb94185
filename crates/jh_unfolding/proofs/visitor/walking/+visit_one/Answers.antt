use Rattle.std.proofs.Common.{map, option_map, ◌++◌, drop, subst, ap, OnOk, sym, refl, append-nil, ◌∙◌, ◌≡◌}
use Rattle.jh_ast.specs.Bare.{stmt_body_tree, expr_tree, rhs_tree, call_tree, spec_part, labelled_part, stmt_trees, part_trees, stmt_tree}
use Rattle.jh_ast.proofs.StmtSteps.{tree-Empty, tree-Block, tree-Assign, tree-Call, tree-If, tree-While, tree-Return, tree-Assert, tree-Note, tree-Ghost}
use Rattle.jh_rules.specs.Scopes.{behind, text_behind, in_loop}
use Rattle.jh_type.proofs.method_bodies.Leasts.{after-next, undos-next, after-end, undos-end}
use Rattle.jh_type.proofs.method_bodies.Scopings.{behind-empty, behind-assign, behind-call, behind-return, behind-assert, behind-ghost, behind-note, behind-block, behind-branch, behind-loop, part-back, all-back, left-rest, after-none, after-one}
use Rattle.jh_symbols.specs.scopes.Changing.{undone}
use Rattle.jh_symbols.specs.scopes.Lookings.{declared_by, scope_by}
use Rattle.jh_type.specs.method_bodies.Scoping as scoping
use Rattle.jh_vars.specs.Statements.{statements_in, inner_statements, all_statements, standing}
use Rattle.jh_unfolding.proofs.visitor.Chaining.{chain-none, chain-two, all-next, all-end, inner-as, branch-chain}
use Rattle.jh_unfolding.specs.visitor.Chains.{Chain}
use Rattle.jh_unfolding.proofs.visitor.walking.+visit_one.Goals as goal

pub visit_all-loop-stmt-preserved : goal.visit_all-loop-stmt-preserved
visit_all-loop-stmt-preserved g t c = record {
  ready = c.in_ok-visit_one.ensures.ready;
  visited = λ v r. c.loop-stmt.invariant.visited v (all-next g.V.Visit.step (declared_by c.args.lookups.now) c.loop-stmt.visitor c.visit_one.new.visitor (scope_by c.loop-stmt.at) (scope_by c.visit_one.new.at) c.args.stmts.now c.loop-stmt.stmt-index c.stmt-item.result c.loop-stmt-test.true c.stmt-item.is c.in_ok-visit_one.ensures.scope c.in_ok-visit_one.ensures.visited v r);
  scope = after-next (declared_by c.args.lookups.now) (scope_by c.loop-stmt.at) (scope_by c.visit_one.new.at) c.args.stmts.now c.loop-stmt.stmt-index c.stmt-item.result c.loop-stmt-test.true c.stmt-item.is c.in_ok-visit_one.ensures.scope ∙ c.loop-stmt.invariant.scope;
  undos = undos-next (declared_by c.args.lookups.now) (scope_by c.loop-stmt.at) (scope_by c.visit_one.new.at) c.args.stmts.now c.loop-stmt.stmt-index c.stmt-item.result c.loop-stmt.at.undos.items _ c.loop-stmt-test.true c.stmt-item.is c.in_ok-visit_one.ensures.scope c.in_ok-visit_one.ensures.undos ∙ c.loop-stmt.invariant.undos;
}

pub visit_all-loop-stmt-init : goal.visit_all-loop-stmt-init
visit_all-loop-stmt-init g t c = record { ready = c.requires; visited = λ v r. r; scope = refl; undos = refl }

pub visit_all-returns-clause-visited : goal.visit_all-returns-clause-visited
visit_all-returns-clause-visited g t c = c.loop-stmt.invariant.visited c.loop-stmt.visitor (all-end g.V.Visit.step (declared_by c.args.lookups.now) c.loop-stmt.visitor (scope_by c.loop-stmt.at) c.args.stmts.now c.loop-stmt.stmt-index c.loop-stmt-test.false)

pub visit_all-returns-clause-scope : goal.visit_all-returns-clause-scope
visit_all-returns-clause-scope g t c = sym (after-end (declared_by c.args.lookups.now) (scope_by c.loop-stmt.at) c.args.stmts.now c.loop-stmt.stmt-index c.loop-stmt-test.false) ∙ c.loop-stmt.invariant.scope

pub visit_all-returns-clause-undos : goal.visit_all-returns-clause-undos
visit_all-returns-clause-undos g t c = sym (undos-end (declared_by c.args.lookups.now) (scope_by c.loop-stmt.at) c.args.stmts.now c.loop-stmt.stmt-index c.loop-stmt.at.undos.items c.loop-stmt-test.false) ∙ c.loop-stmt.invariant.undos

pub visit_inside-returns-in_ok-visit_else-in-If-clause-visited : goal.visit_inside-returns-in_ok-visit_else-in-If-clause-visited
visit_inside-returns-in_ok-visit_else-in-If-clause-visited g t c =
    let l = declared_by c.args.lookups.now in
    let at = scope_by c.args.at.now in
    let inner : c.deref.result.now ≡ c.in-If.first.value = c.deref.ensures in
    let first : Chain g.V.Visit.step c.args.visitor.now c.visit_part.new.visitor (statements_in l (stmt_tree c.in-If.first.value) at) = subst (λ a. Chain g.V.Visit.step c.args.visitor.now c.visit_part.new.visitor (statements_in l (stmt_tree a) at)) inner c.in_ok-visit_part-in-If.ensures.visited in
    let behind : scope_by c.visit_part.new.at ≡ text_behind at (stmt_tree c.in-If.first.value) = c.in_ok-visit_part-in-If.ensures.scope ∙ ap (λ a. text_behind at (stmt_tree a)) inner in
    let second : Chain g.V.Visit.step c.visit_part.new.visitor c.visit_else.new.visitor (all_statements l (part_trees c.in-If.second) (text_behind at (stmt_tree c.in-If.first.value))) = subst (λ s. Chain g.V.Visit.step c.visit_part.new.visitor c.visit_else.new.visitor (all_statements l (part_trees c.in-If.second) s)) behind c.in_ok-visit_else-in-If.ensures.visited in
    inner-as g.V.Visit.step l c.args.visitor.now c.visit_else.new.visitor at (stmt_tree c.args.stmt.now) _ (ap (stmt_body_tree c.args.stmt.now.place) c.in-If.is ∙ tree-If c.args.stmt.now.place c.in-If.field-0 c.in-If.first c.in-If.second)
    (branch-chain g.V.Visit.step l c.args.visitor.now c.visit_part.new.visitor c.visit_else.new.visitor at c.args.stmt.now.place _ (stmt_tree c.in-If.first.value) (part_trees c.in-If.second) first second)

pub visit_block-returns-clause-scope : goal.visit_block-returns-clause-scope
visit_block-returns-clause-scope g t c = c.in_ok-leave.ensures.changed
    ∙ ap (undone (scope_by c.visit_all.new.at)) (left-rest c.mark-mark.result c.args.at.now.undos.items c.visit_all.new.at.undos.items (scoping.undos_of (declared_by c.args.lookups.now) (scope_by c.args.at.now) (stmt_trees c.args.stmts.now)) c.mark-mark.ensures c.in_ok-visit_all.ensures.undos)
    ∙ ap (λ t. undone t (scoping.undos_of (declared_by c.args.lookups.now) (scope_by c.args.at.now) (stmt_trees c.args.stmts.now))) c.in_ok-visit_all.ensures.scope ∙ all-back (declared_by c.args.lookups.now) (scope_by c.args.at.now) (stmt_trees c.args.stmts.now)

pub visit_part-returns-clause-scope : goal.visit_part-returns-clause-scope
visit_part-returns-clause-scope g t c = c.in_ok-leave.ensures.changed
    ∙ ap (undone (scope_by c.visit_one.new.at)) (left-rest c.mark-mark.result c.args.at.now.undos.items c.visit_one.new.at.undos.items (scoping.undos_in (scope_by c.args.at.now) (stmt_tree c.args.stmt.now)) c.mark-mark.ensures c.in_ok-visit_one.ensures.undos)
    ∙ ap (λ t. undone t (scoping.undos_in (scope_by c.args.at.now) (stmt_tree c.args.stmt.now))) c.in_ok-visit_one.ensures.scope ∙ part-back (declared_by c.args.lookups.now) (scope_by c.args.at.now) (stmt_tree c.args.stmt.now)

pub visit_else-returns-in-None-clause-scope : goal.visit_else-returns-in-None-clause-scope
visit_else-returns-in-None-clause-scope g t c = sym (ap (λ p. scoping.text_after (scope_by c.args.at.now) (part_trees p)) c.in-None.is ∙ after-none (scope_by c.args.at.now))

pub visit_else-returns-in-Some-clause-scope : goal.visit_else-returns-in-Some-clause-scope
visit_else-returns-in-Some-clause-scope g t c =
    let inner : c.deref.result.now ≡ c.in-Some.stmt.value = c.deref.ensures in
    subst (λ x. OnOk c.visit_part.result (scope_by c.visit_part.new.at ≡ x))
    (ap (λ a. text_behind (scope_by c.args.at.now) (stmt_tree a)) inner ∙ sym (after-one (scope_by c.args.at.now) (stmt_tree c.in-Some.stmt.value)) ∙ sym (ap (λ p. scoping.text_after (scope_by c.args.at.now) (part_trees p)) c.in-Some.is)) c.visit_part.ensures.scope

pub visit_inside-returns-in-Empty-clause-scope : goal.visit_inside-returns-in-Empty-clause-scope
visit_inside-returns-in-Empty-clause-scope g t c = sym (ap (behind (declared_by c.args.lookups.now) (scope_by c.args.at.now)) (ap (stmt_body_tree c.args.stmt.now.place) c.in-Empty.is ∙ tree-Empty c.args.stmt.now.place) ∙ behind-empty (declared_by c.args.lookups.now) (scope_by c.args.at.now) c.args.stmt.now.place)

pub visit_inside-returns-in-Empty-clause-undos : goal.visit_inside-returns-in-Empty-clause-undos
visit_inside-returns-in-Empty-clause-undos g t c = sym (ap (λ a. c.args.at.now.undos.items ++ scoping.undos_in (scope_by c.args.at.now) a) (ap (stmt_body_tree c.args.stmt.now.place) c.in-Empty.is ∙ tree-Empty c.args.stmt.now.place) ∙ append-nil c.args.at.now.undos.items)

pub visit_inside-returns-in-Assign-clause-scope : goal.visit_inside-returns-in-Assign-clause-scope
visit_inside-returns-in-Assign-clause-scope g t c = sym (ap (behind (declared_by c.args.lookups.now) (scope_by c.args.at.now)) (ap (stmt_body_tree c.args.stmt.now.place) c.in-Assign.is ∙ tree-Assign c.args.stmt.now.place c.in-Assign.field-0 c.in-Assign.field-1) ∙ behind-assign (declared_by c.args.lookups.now) (scope_by c.args.at.now) c.args.stmt.now.place (expr_tree c.in-Assign.field-0) (rhs_tree c.in-Assign.field-1))

pub visit_inside-returns-in-Assign-clause-undos : goal.visit_inside-returns-in-Assign-clause-undos
visit_inside-returns-in-Assign-clause-undos g t c = sym (ap (λ a. c.args.at.now.undos.items ++ scoping.undos_in (scope_by c.args.at.now) a) (ap (stmt_body_tree c.args.stmt.now.place) c.in-Assign.is ∙ tree-Assign c.args.stmt.now.place c.in-Assign.field-0 c.in-Assign.field-1) ∙ append-nil c.args.at.now.undos.items)

pub visit_inside-returns-in-Call-clause-scope : goal.visit_inside-returns-in-Call-clause-scope
visit_inside-returns-in-Call-clause-scope g t c = sym (ap (behind (declared_by c.args.lookups.now) (scope_by c.args.at.now)) (ap (stmt_body_tree c.args.stmt.now.place) c.in-Call.is ∙ tree-Call c.args.stmt.now.place c.in-Call.field-0) ∙ behind-call (declared_by c.args.lookups.now) (scope_by c.args.at.now) c.args.stmt.now.place (call_tree c.in-Call.field-0))

pub visit_inside-returns-in-Call-clause-undos : goal.visit_inside-returns-in-Call-clause-undos
visit_inside-returns-in-Call-clause-undos g t c = sym (ap (λ a. c.args.at.now.undos.items ++ scoping.undos_in (scope_by c.args.at.now) a) (ap (stmt_body_tree c.args.stmt.now.place) c.in-Call.is ∙ tree-Call c.args.stmt.now.place c.in-Call.field-0) ∙ append-nil c.args.at.now.undos.items)

pub visit_inside-returns-in-Return-clause-scope : goal.visit_inside-returns-in-Return-clause-scope
visit_inside-returns-in-Return-clause-scope g t c = sym (ap (behind (declared_by c.args.lookups.now) (scope_by c.args.at.now)) (ap (stmt_body_tree c.args.stmt.now.place) c.in-Return.is ∙ tree-Return c.args.stmt.now.place c.in-Return.field-0) ∙ behind-return (declared_by c.args.lookups.now) (scope_by c.args.at.now) c.args.stmt.now.place (option_map expr_tree c.in-Return.field-0))

pub visit_inside-returns-in-Return-clause-undos : goal.visit_inside-returns-in-Return-clause-undos
visit_inside-returns-in-Return-clause-undos g t c = sym (ap (λ a. c.args.at.now.undos.items ++ scoping.undos_in (scope_by c.args.at.now) a) (ap (stmt_body_tree c.args.stmt.now.place) c.in-Return.is ∙ tree-Return c.args.stmt.now.place c.in-Return.field-0) ∙ append-nil c.args.at.now.undos.items)

pub visit_inside-returns-in-Assert-clause-scope : goal.visit_inside-returns-in-Assert-clause-scope
visit_inside-returns-in-Assert-clause-scope g t c = sym (ap (behind (declared_by c.args.lookups.now) (scope_by c.args.at.now)) (ap (stmt_body_tree c.args.stmt.now.place) c.in-Assert.is ∙ tree-Assert c.args.stmt.now.place c.in-Assert.field-0) ∙ behind-assert (declared_by c.args.lookups.now) (scope_by c.args.at.now) c.args.stmt.now.place (labelled_part c.in-Assert.field-0))

pub visit_inside-returns-in-Assert-clause-undos : goal.visit_inside-returns-in-Assert-clause-undos
visit_inside-returns-in-Assert-clause-undos g t c = sym (ap (λ a. c.args.at.now.undos.items ++ scoping.undos_in (scope_by c.args.at.now) a) (ap (stmt_body_tree c.args.stmt.now.place) c.in-Assert.is ∙ tree-Assert c.args.stmt.now.place c.in-Assert.field-0) ∙ append-nil c.args.at.now.undos.items)

pub visit_inside-returns-in-Ghost-clause-scope : goal.visit_inside-returns-in-Ghost-clause-scope
visit_inside-returns-in-Ghost-clause-scope g t c = sym (ap (behind (declared_by c.args.lookups.now) (scope_by c.args.at.now)) (ap (stmt_body_tree c.args.stmt.now.place) c.in-Ghost.is ∙ tree-Ghost c.args.stmt.now.place c.in-Ghost.field-0 c.in-Ghost.field-1) ∙ behind-ghost (declared_by c.args.lookups.now) (scope_by c.args.at.now) c.args.stmt.now.place (spec_part c.in-Ghost.field-0) (spec_part c.in-Ghost.field-1))

pub visit_inside-returns-in-Ghost-clause-undos : goal.visit_inside-returns-in-Ghost-clause-undos
visit_inside-returns-in-Ghost-clause-undos g t c = sym (ap (λ a. c.args.at.now.undos.items ++ scoping.undos_in (scope_by c.args.at.now) a) (ap (stmt_body_tree c.args.stmt.now.place) c.in-Ghost.is ∙ tree-Ghost c.args.stmt.now.place c.in-Ghost.field-0 c.in-Ghost.field-1) ∙ append-nil c.args.at.now.undos.items)

pub visit_inside-returns-in_ok-visit_block-in-Block-clause-scope : goal.visit_inside-returns-in_ok-visit_block-in-Block-clause-scope
visit_inside-returns-in_ok-visit_block-in-Block-clause-scope g t c = c.in_ok-visit_block-in-Block.ensures.scope ∙ ap (λ ss. scoping.text_after (scope_by c.args.at.now) (stmt_trees ss)) c.items.ensures ∙ sym (ap (behind (declared_by c.args.lookups.now) (scope_by c.args.at.now)) (ap (stmt_body_tree c.args.stmt.now.place) c.in-Block.is ∙ tree-Block c.args.stmt.now.place c.in-Block.stmts) ∙ behind-block (declared_by c.args.lookups.now) (scope_by c.args.at.now) c.args.stmt.now.place (stmt_trees c.in-Block.stmts))

pub visit_inside-returns-in_ok-visit_block-in-Block-clause-undos : goal.visit_inside-returns-in_ok-visit_block-in-Block-clause-undos
visit_inside-returns-in_ok-visit_block-in-Block-clause-undos g t c = c.in_ok-visit_block-in-Block.ensures.undos ∙ sym (ap (λ a. c.args.at.now.undos.items ++ scoping.undos_in (scope_by c.args.at.now) a) (ap (stmt_body_tree c.args.stmt.now.place) c.in-Block.is ∙ tree-Block c.args.stmt.now.place c.in-Block.stmts) ∙ append-nil c.args.at.now.undos.items)

pub visit_inside-returns-in_ok-add_label-in-Note-clause-scope : goal.visit_inside-returns-in_ok-add_label-in-Note-clause-scope
visit_inside-returns-in_ok-add_label-in-Note-clause-scope g t c = c.in_ok-add_label-in-Note.ensures.scope ∙ sym (ap (behind (declared_by c.args.lookups.now) (scope_by c.args.at.now)) (ap (stmt_body_tree c.args.stmt.now.place) c.in-Note.is ∙ tree-Note c.args.stmt.now.place c.in-Note.labelled) ∙ behind-note (declared_by c.args.lookups.now) (scope_by c.args.at.now) c.args.stmt.now.place (labelled_part c.in-Note.labelled))

pub visit_inside-returns-in_ok-add_label-in-Note-clause-undos : goal.visit_inside-returns-in_ok-add_label-in-Note-clause-undos
visit_inside-returns-in_ok-add_label-in-Note-clause-undos g t c = c.in_ok-add_label-in-Note.ensures.undos ∙ sym (ap (λ a. c.args.at.now.undos.items ++ scoping.undos_in (scope_by c.args.at.now) a) (ap (stmt_body_tree c.args.stmt.now.place) c.in-Note.is ∙ tree-Note c.args.stmt.now.place c.in-Note.labelled) ∙ append-nil c.args.at.now.undos.items)

pub visit_inside-returns-in_ok-visit_else-in-If-clause-scope : goal.visit_inside-returns-in_ok-visit_else-in-If-clause-scope
visit_inside-returns-in_ok-visit_else-in-If-clause-scope g t c =
    let inner : c.deref.result.now ≡ c.in-If.first.value = c.deref.ensures in
    c.in_ok-visit_else-in-If.ensures.scope ∙ ap (λ s. scoping.text_after s (part_trees c.in-If.second)) (c.in_ok-visit_part-in-If.ensures.scope ∙ ap (λ a. text_behind (scope_by c.args.at.now) (stmt_tree a)) inner)
    ∙ sym (ap (behind (declared_by c.args.lookups.now) (scope_by c.args.at.now)) (ap (stmt_body_tree c.args.stmt.now.place) c.in-If.is ∙ tree-If c.args.stmt.now.place c.in-If.field-0 c.in-If.first c.in-If.second) ∙ behind-branch (declared_by c.args.lookups.now) (scope_by c.args.at.now) c.args.stmt.now.place (expr_tree c.in-If.field-0) (stmt_tree c.in-If.first.value) (part_trees c.in-If.second))

pub visit_inside-returns-in_ok-visit_else-in-If-clause-undos : goal.visit_inside-returns-in_ok-visit_else-in-If-clause-undos
visit_inside-returns-in_ok-visit_else-in-If-clause-undos g t c = c.in_ok-visit_else-in-If.ensures.undos ∙ c.in_ok-visit_part-in-If.ensures.undos ∙ sym (ap (λ a. c.args.at.now.undos.items ++ scoping.undos_in (scope_by c.args.at.now) a) (ap (stmt_body_tree c.args.stmt.now.place) c.in-If.is ∙ tree-If c.args.stmt.now.place c.in-If.field-0 c.in-If.first c.in-If.second) ∙ append-nil c.args.at.now.undos.items)

pub visit_inside-returns-in_ok-visit_part-in-While-clause-scope : goal.visit_inside-returns-in_ok-visit_part-in-While-clause-scope
visit_inside-returns-in_ok-visit_part-in-While-clause-scope g t c =
    let inner : c.deref-in-While.result.now ≡ c.in-While.body.value = c.deref-in-While.ensures in
    c.in_ok-visit_part-in-While.ensures.scope
    ∙ (λ i. text_behind ((c.in_ok-add_labels-in-While.ensures.scope ∙ ap (λ is. in_loop (scope_by c.args.at.now) (map labelled_part is)) c.items-in-While.ensures) i) (stmt_tree (inner i)))
    ∙ sym (ap (behind (declared_by c.args.lookups.now) (scope_by c.args.at.now)) (ap (stmt_body_tree c.args.stmt.now.place) c.in-While.is ∙ tree-While c.args.stmt.now.place c.in-While.invariants c.in-While.field-1 _ _ _) ∙ behind-loop (declared_by c.args.lookups.now) (scope_by c.args.at.now) c.args.stmt.now.place (map labelled_part c.in-While.invariants) (expr_tree c.in-While.field-1) (stmt_tree c.in-While.body.value))

pub visit_inside-returns-in_ok-visit_part-in-While-clause-undos : goal.visit_inside-returns-in_ok-visit_part-in-While-clause-undos
visit_inside-returns-in_ok-visit_part-in-While-clause-undos g t c = c.in_ok-visit_part-in-While.ensures.undos ∙ c.in_ok-add_labels-in-While.ensures.undos ∙ sym (ap (λ a. c.args.at.now.undos.items ++ scoping.undos_in (scope_by c.args.at.now) a) (ap (stmt_body_tree c.args.stmt.now.place) c.in-While.is ∙ tree-While c.args.stmt.now.place c.in-While.invariants c.in-While.field-1 _ _ _) ∙ append-nil c.args.at.now.undos.items)
