use Rattle.std.proofs.Common.{ap, ◌∙◌}
use Rattle.jh_ast.specs.Bare.{stmt_tree, stmt_body_tree}
use Rattle.jh_ast.proofs.StmtSteps as steps
use Rattle.jh_symbols.specs.scopes.Lookings.{declared_by, scope_by}
use Rattle.jh_effects.specs.direct_effects.Effects.{stmt_written, stmt_called}
use Rattle.jh_effects.proofs.direct_effects.Adding.{adds-as}
use Rattle.jh_effects.proofs.direct_effects.gathering.add_statement.Goals as goal

pub returns-in-Empty : goal.returns-in-Empty
returns-in-Empty c =
    let is = ap (stmt_body_tree c.args.stmt.now.place) c.in-Empty.is ∙ steps.tree-Empty c.args.stmt.now.place in
    adds-as c.args.effects.now (stmt_written (declared_by c.args.lookups.now) (scope_by c.args.at.now) (stmt_tree c.args.stmt.now)) (stmt_called (declared_by c.args.lookups.now) (scope_by c.args.at.now) (stmt_tree c.args.stmt.now))
    (ap (stmt_written (declared_by c.args.lookups.now) (scope_by c.args.at.now)) is) (ap (stmt_called (declared_by c.args.lookups.now) (scope_by c.args.at.now)) is)

pub returns-in-Block : goal.returns-in-Block
returns-in-Block c =
    let is = ap (stmt_body_tree c.args.stmt.now.place) c.in-Block.is ∙ steps.tree-Block c.args.stmt.now.place _ in
    adds-as c.args.effects.now (stmt_written (declared_by c.args.lookups.now) (scope_by c.args.at.now) (stmt_tree c.args.stmt.now)) (stmt_called (declared_by c.args.lookups.now) (scope_by c.args.at.now) (stmt_tree c.args.stmt.now))
    (ap (stmt_written (declared_by c.args.lookups.now) (scope_by c.args.at.now)) is) (ap (stmt_called (declared_by c.args.lookups.now) (scope_by c.args.at.now)) is)

pub returns-in-If : goal.returns-in-If
returns-in-If c =
    let is = ap (stmt_body_tree c.args.stmt.now.place) c.in-If.is ∙ steps.tree-If c.args.stmt.now.place _ _ _ in
    adds-as c.args.effects.now (stmt_written (declared_by c.args.lookups.now) (scope_by c.args.at.now) (stmt_tree c.args.stmt.now)) (stmt_called (declared_by c.args.lookups.now) (scope_by c.args.at.now) (stmt_tree c.args.stmt.now))
    (ap (stmt_written (declared_by c.args.lookups.now) (scope_by c.args.at.now)) is) (ap (stmt_called (declared_by c.args.lookups.now) (scope_by c.args.at.now)) is)

pub returns-in-While : goal.returns-in-While
returns-in-While c =
    let is = ap (stmt_body_tree c.args.stmt.now.place) c.in-While.is ∙ steps.tree-While c.args.stmt.now.place _ _ _ _ _ in
    adds-as c.args.effects.now (stmt_written (declared_by c.args.lookups.now) (scope_by c.args.at.now) (stmt_tree c.args.stmt.now)) (stmt_called (declared_by c.args.lookups.now) (scope_by c.args.at.now) (stmt_tree c.args.stmt.now))
    (ap (stmt_written (declared_by c.args.lookups.now) (scope_by c.args.at.now)) is) (ap (stmt_called (declared_by c.args.lookups.now) (scope_by c.args.at.now)) is)

pub returns-in-Return : goal.returns-in-Return
returns-in-Return c =
    let is = ap (stmt_body_tree c.args.stmt.now.place) c.in-Return.is ∙ steps.tree-Return c.args.stmt.now.place _ in
    adds-as c.args.effects.now (stmt_written (declared_by c.args.lookups.now) (scope_by c.args.at.now) (stmt_tree c.args.stmt.now)) (stmt_called (declared_by c.args.lookups.now) (scope_by c.args.at.now) (stmt_tree c.args.stmt.now))
    (ap (stmt_written (declared_by c.args.lookups.now) (scope_by c.args.at.now)) is) (ap (stmt_called (declared_by c.args.lookups.now) (scope_by c.args.at.now)) is)

pub returns-in-Assert : goal.returns-in-Assert
returns-in-Assert c =
    let is = ap (stmt_body_tree c.args.stmt.now.place) c.in-Assert.is ∙ steps.tree-Assert c.args.stmt.now.place _ in
    adds-as c.args.effects.now (stmt_written (declared_by c.args.lookups.now) (scope_by c.args.at.now) (stmt_tree c.args.stmt.now)) (stmt_called (declared_by c.args.lookups.now) (scope_by c.args.at.now) (stmt_tree c.args.stmt.now))
    (ap (stmt_written (declared_by c.args.lookups.now) (scope_by c.args.at.now)) is) (ap (stmt_called (declared_by c.args.lookups.now) (scope_by c.args.at.now)) is)

pub returns-in-Note : goal.returns-in-Note
returns-in-Note c =
    let is = ap (stmt_body_tree c.args.stmt.now.place) c.in-Note.is ∙ steps.tree-Note c.args.stmt.now.place _ in
    adds-as c.args.effects.now (stmt_written (declared_by c.args.lookups.now) (scope_by c.args.at.now) (stmt_tree c.args.stmt.now)) (stmt_called (declared_by c.args.lookups.now) (scope_by c.args.at.now) (stmt_tree c.args.stmt.now))
    (ap (stmt_written (declared_by c.args.lookups.now) (scope_by c.args.at.now)) is) (ap (stmt_called (declared_by c.args.lookups.now) (scope_by c.args.at.now)) is)
