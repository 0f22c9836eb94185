use Rattle.std.proofs.Common.{ap, sym, map, ◌∙◌}
use Rattle.jh_ast.specs.Bare.{stmt_tree, stmt_body_tree, labelled_part, spec_part}
use Rattle.jh_ast.proofs.StmtSteps as steps
use Rattle.jh_symbols.specs.scopes.Lookings.{scope_by}
use Rattle.jh_vars.specs.Opened.{stmt_values, valued, labelled_values}
use Rattle.jh_unfolding.specs.unfolder.Adding.{program_of}
use Rattle.jh_unfolding.proofs.unfolder.Addings.{adds-nothing, adds-as}
use Rattle.jh_unfolding.proofs.unfolder.statements.add_statement.Goals as goal

pub returns-in-Empty-clause-adds : goal.returns-in-Empty-clause-adds
returns-in-Empty-clause-adds c =
    let p = program_of c.args.context.now in
    adds-nothing p c.args.gathered.now (stmt_values p (scope_by c.args.at.now) (stmt_tree c.args.stmt.now)) (ap (stmt_values p (scope_by c.args.at.now)) (ap (stmt_body_tree c.args.stmt.now.place) c.in-Empty.is ∙ steps.tree-Empty c.args.stmt.now.place))

pub returns-in-Block-clause-adds : goal.returns-in-Block-clause-adds
returns-in-Block-clause-adds c =
    let p = program_of c.args.context.now in
    adds-nothing p c.args.gathered.now (stmt_values p (scope_by c.args.at.now) (stmt_tree c.args.stmt.now)) (ap (stmt_values p (scope_by c.args.at.now)) (ap (stmt_body_tree c.args.stmt.now.place) c.in-Block.is ∙ steps.tree-Block c.args.stmt.now.place _))

pub returns-in-Local-clause-adds : goal.returns-in-Local-clause-adds
returns-in-Local-clause-adds c =
    let p = program_of c.args.context.now in
    adds-nothing p c.args.gathered.now (stmt_values p (scope_by c.args.at.now) (stmt_tree c.args.stmt.now)) (ap (stmt_values p (scope_by c.args.at.now)) (ap (stmt_body_tree c.args.stmt.now.place) c.in-Local.is ∙ steps.tree-Local c.args.stmt.now.place _ _))

pub returns-in-Assign-clause-adds : goal.returns-in-Assign-clause-adds
returns-in-Assign-clause-adds c =
    let p = program_of c.args.context.now in
    adds-nothing p c.args.gathered.now (stmt_values p (scope_by c.args.at.now) (stmt_tree c.args.stmt.now)) (ap (stmt_values p (scope_by c.args.at.now)) (ap (stmt_body_tree c.args.stmt.now.place) c.in-Assign.is ∙ steps.tree-Assign c.args.stmt.now.place _ _))

pub returns-in-Call-clause-adds : goal.returns-in-Call-clause-adds
returns-in-Call-clause-adds c =
    let p = program_of c.args.context.now in
    adds-nothing p c.args.gathered.now (stmt_values p (scope_by c.args.at.now) (stmt_tree c.args.stmt.now)) (ap (stmt_values p (scope_by c.args.at.now)) (ap (stmt_body_tree c.args.stmt.now.place) c.in-Call.is ∙ steps.tree-Call c.args.stmt.now.place _))

pub returns-in-If-clause-adds : goal.returns-in-If-clause-adds
returns-in-If-clause-adds c =
    let p = program_of c.args.context.now in
    adds-nothing p c.args.gathered.now (stmt_values p (scope_by c.args.at.now) (stmt_tree c.args.stmt.now)) (ap (stmt_values p (scope_by c.args.at.now)) (ap (stmt_body_tree c.args.stmt.now.place) c.in-If.is ∙ steps.tree-If c.args.stmt.now.place _ _ _))

pub returns-in-Return-clause-adds : goal.returns-in-Return-clause-adds
returns-in-Return-clause-adds c =
    let p = program_of c.args.context.now in
    adds-nothing p c.args.gathered.now (stmt_values p (scope_by c.args.at.now) (stmt_tree c.args.stmt.now)) (ap (stmt_values p (scope_by c.args.at.now)) (ap (stmt_body_tree c.args.stmt.now.place) c.in-Return.is ∙ steps.tree-Return c.args.stmt.now.place _))

pub returns-in-While-clause-adds : goal.returns-in-While-clause-adds
returns-in-While-clause-adds c =
    let p = program_of c.args.context.now in
    let whole = ap (stmt_body_tree c.args.stmt.now.place) c.in-While.is ∙ steps.tree-While c.args.stmt.now.place _ _ _ _ _ in
    adds-as p c.add_labelled.result c.args.gathered.now c.add_labelled.new.gathered _ _ ((λ i. labelled_values p (c.inside-spot.ensures i) (map labelled_part (c.items.ensures i))) ∙ ap (stmt_values p (scope_by c.args.at.now)) (sym whole)) c.add_labelled.ensures.adds

pub returns-in-Assert-clause-adds : goal.returns-in-Assert-clause-adds
returns-in-Assert-clause-adds c =
    let p = program_of c.args.context.now in
    let whole = ap (stmt_body_tree c.args.stmt.now.place) c.in-Assert.is ∙ steps.tree-Assert c.args.stmt.now.place _ in
    adds-as p c.add_formula.result c.args.gathered.now c.add_formula.new.gathered _ _ ((λ i. valued p (c.inside-spot.ensures i) (spec_part c.in-Assert.labelled.body)) ∙ ap (stmt_values p (scope_by c.args.at.now)) (sym whole)) c.add_formula.ensures.adds

pub returns-in-Note-clause-adds : goal.returns-in-Note-clause-adds
returns-in-Note-clause-adds c =
    let p = program_of c.args.context.now in
    let whole = ap (stmt_body_tree c.args.stmt.now.place) c.in-Note.is ∙ steps.tree-Note c.args.stmt.now.place _ in
    adds-as p c.add_formula-in-Note.result c.args.gathered.now c.add_formula-in-Note.new.gathered _ _ ((λ i. valued p (c.inside-spot.ensures i) (spec_part c.in-Note.labelled.body)) ∙ ap (stmt_values p (scope_by c.args.at.now)) (sym whole)) c.add_formula-in-Note.ensures.adds

pub returns-in-Ghost-clause-adds : goal.returns-in-Ghost-clause-adds
returns-in-Ghost-clause-adds c =
    let p = program_of c.args.context.now in
    let whole = ap (stmt_body_tree c.args.stmt.now.place) c.in-Ghost.is ∙ steps.tree-Ghost c.args.stmt.now.place _ _ in
    adds-as p c.add_ghost.result c.args.gathered.now c.add_ghost.new.gathered _ _ (ap (stmt_values p (scope_by c.args.at.now)) (sym whole)) c.add_ghost.ensures.adds
