use Rattle.std.proofs.Common.{ap, ◌∙◌, refl, []}
use Rattle.jh_ast.specs.Bare.{expr_tree, expr_body_tree}
use Rattle.jh_ast.proofs.ExprSteps as steps
use Rattle.jh_symbols.specs.scopes.Lookings.{declared_by, scope_by}
use Rattle.jh_effects.specs.direct_effects.Effects.{target_written}
use Rattle.jh_effects.proofs.direct_effects.Adding.{adds-as}
use Rattle.jh_effects.proofs.direct_effects.assigning.add_target.Goals as goal

pub returns-in-Null : goal.returns-in-Null
returns-in-Null c =
    adds-as c.args.effects.now (target_written (declared_by c.args.lookups.now) (scope_by c.args.at.now) (expr_tree c.args.target.now)) []
    (ap (target_written (declared_by c.args.lookups.now) (scope_by c.args.at.now)) (ap (expr_body_tree c.args.target.now.place) c.in-Null.is ∙ steps.tree-Null c.args.target.now.place)) refl

pub returns-in-True : goal.returns-in-True
returns-in-True c =
    adds-as c.args.effects.now (target_written (declared_by c.args.lookups.now) (scope_by c.args.at.now) (expr_tree c.args.target.now)) []
    (ap (target_written (declared_by c.args.lookups.now) (scope_by c.args.at.now)) (ap (expr_body_tree c.args.target.now.place) c.in-True.is ∙ steps.tree-True c.args.target.now.place)) refl

pub returns-in-False : goal.returns-in-False
returns-in-False c =
    adds-as c.args.effects.now (target_written (declared_by c.args.lookups.now) (scope_by c.args.at.now) (expr_tree c.args.target.now)) []
    (ap (target_written (declared_by c.args.lookups.now) (scope_by c.args.at.now)) (ap (expr_body_tree c.args.target.now.place) c.in-False.is ∙ steps.tree-False c.args.target.now.place)) refl

pub returns-in-Number : goal.returns-in-Number
returns-in-Number c =
    adds-as c.args.effects.now (target_written (declared_by c.args.lookups.now) (scope_by c.args.at.now) (expr_tree c.args.target.now)) []
    (ap (target_written (declared_by c.args.lookups.now) (scope_by c.args.at.now)) (ap (expr_body_tree c.args.target.now.place) c.in-Number.is ∙ steps.tree-Number c.args.target.now.place _)) refl

pub returns-in-This : goal.returns-in-This
returns-in-This c =
    adds-as c.args.effects.now (target_written (declared_by c.args.lookups.now) (scope_by c.args.at.now) (expr_tree c.args.target.now)) []
    (ap (target_written (declared_by c.args.lookups.now) (scope_by c.args.at.now)) (ap (expr_body_tree c.args.target.now.place) c.in-This.is ∙ steps.tree-This c.args.target.now.place)) refl

pub returns-in-Not : goal.returns-in-Not
returns-in-Not c =
    adds-as c.args.effects.now (target_written (declared_by c.args.lookups.now) (scope_by c.args.at.now) (expr_tree c.args.target.now)) []
    (ap (target_written (declared_by c.args.lookups.now) (scope_by c.args.at.now)) (ap (expr_body_tree c.args.target.now.place) c.in-Not.is ∙ steps.tree-Not c.args.target.now.place _ _ _)) refl

pub returns-in-Minus : goal.returns-in-Minus
returns-in-Minus c =
    adds-as c.args.effects.now (target_written (declared_by c.args.lookups.now) (scope_by c.args.at.now) (expr_tree c.args.target.now)) []
    (ap (target_written (declared_by c.args.lookups.now) (scope_by c.args.at.now)) (ap (expr_body_tree c.args.target.now.place) c.in-Minus.is ∙ steps.tree-Minus c.args.target.now.place _ _ _)) refl

pub returns-in-Binary : goal.returns-in-Binary
returns-in-Binary c =
    adds-as c.args.effects.now (target_written (declared_by c.args.lookups.now) (scope_by c.args.at.now) (expr_tree c.args.target.now)) []
    (ap (target_written (declared_by c.args.lookups.now) (scope_by c.args.at.now)) (ap (expr_body_tree c.args.target.now.place) c.in-Binary.is ∙ steps.tree-Binary c.args.target.now.place _ _ _ _ _ _ _)) refl
