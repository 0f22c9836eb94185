use Rattle.std.proofs.Common.{ap, ◌∙◌, refl, []}
use Rattle.jh_ast.specs.Bare.{form_tree, form_body_tree}
use Rattle.jh_ast.proofs.FormSteps as steps
use Rattle.jh_symbols.specs.scopes.Lookings.{declared_by, scope_by}
use Rattle.jh_effects.specs.direct_effects.Effects.{ghost_written}
use Rattle.jh_effects.proofs.direct_effects.Adding.{adds-as}
use Rattle.jh_effects.proofs.direct_effects.assigning.add_ghost.Goals as goal

pub returns-in-Null : goal.returns-in-Null
returns-in-Null c =
    adds-as c.args.effects.now (ghost_written (declared_by c.args.lookups.now) (scope_by c.args.at.now) (form_tree c.args.target.now)) []
    (ap (ghost_written (declared_by c.args.lookups.now) (scope_by c.args.at.now)) (ap (form_body_tree c.args.target.now.place) c.in-Null.is ∙ steps.tree-Null c.args.target.now.place)) refl

pub returns-in-True : goal.returns-in-True
returns-in-True c =
    adds-as c.args.effects.now (ghost_written (declared_by c.args.lookups.now) (scope_by c.args.at.now) (form_tree c.args.target.now)) []
    (ap (ghost_written (declared_by c.args.lookups.now) (scope_by c.args.at.now)) (ap (form_body_tree c.args.target.now.place) c.in-True.is ∙ steps.tree-True c.args.target.now.place)) refl

pub returns-in-False : goal.returns-in-False
returns-in-False c =
    adds-as c.args.effects.now (ghost_written (declared_by c.args.lookups.now) (scope_by c.args.at.now) (form_tree c.args.target.now)) []
    (ap (ghost_written (declared_by c.args.lookups.now) (scope_by c.args.at.now)) (ap (form_body_tree c.args.target.now.place) c.in-False.is ∙ steps.tree-False c.args.target.now.place)) refl

pub returns-in-Univ : goal.returns-in-Univ
returns-in-Univ c =
    adds-as c.args.effects.now (ghost_written (declared_by c.args.lookups.now) (scope_by c.args.at.now) (form_tree c.args.target.now)) []
    (ap (ghost_written (declared_by c.args.lookups.now) (scope_by c.args.at.now)) (ap (form_body_tree c.args.target.now.place) c.in-Univ.is ∙ steps.tree-Univ c.args.target.now.place)) refl

pub returns-in-Number : goal.returns-in-Number
returns-in-Number c =
    adds-as c.args.effects.now (ghost_written (declared_by c.args.lookups.now) (scope_by c.args.at.now) (form_tree c.args.target.now)) []
    (ap (ghost_written (declared_by c.args.lookups.now) (scope_by c.args.at.now)) (ap (form_body_tree c.args.target.now.place) c.in-Number.is ∙ steps.tree-Number c.args.target.now.place _)) refl

pub returns-in-Not : goal.returns-in-Not
returns-in-Not c =
    adds-as c.args.effects.now (ghost_written (declared_by c.args.lookups.now) (scope_by c.args.at.now) (form_tree c.args.target.now)) []
    (ap (ghost_written (declared_by c.args.lookups.now) (scope_by c.args.at.now)) (ap (form_body_tree c.args.target.now.place) c.in-Not.is ∙ steps.tree-Not c.args.target.now.place _ _ _)) refl

pub returns-in-Minus : goal.returns-in-Minus
returns-in-Minus c =
    adds-as c.args.effects.now (ghost_written (declared_by c.args.lookups.now) (scope_by c.args.at.now) (form_tree c.args.target.now)) []
    (ap (ghost_written (declared_by c.args.lookups.now) (scope_by c.args.at.now)) (ap (form_body_tree c.args.target.now.place) c.in-Minus.is ∙ steps.tree-Minus c.args.target.now.place _ _ _)) refl

pub returns-in-Old : goal.returns-in-Old
returns-in-Old c =
    adds-as c.args.effects.now (ghost_written (declared_by c.args.lookups.now) (scope_by c.args.at.now) (form_tree c.args.target.now)) []
    (ap (ghost_written (declared_by c.args.lookups.now) (scope_by c.args.at.now)) (ap (form_body_tree c.args.target.now.place) c.in-Old.is ∙ steps.tree-Old c.args.target.now.place _ _ _)) refl

pub returns-in-Card : goal.returns-in-Card
returns-in-Card c =
    adds-as c.args.effects.now (ghost_written (declared_by c.args.lookups.now) (scope_by c.args.at.now) (form_tree c.args.target.now)) []
    (ap (ghost_written (declared_by c.args.lookups.now) (scope_by c.args.at.now)) (ap (form_body_tree c.args.target.now.place) c.in-Card.is ∙ steps.tree-Card c.args.target.now.place _ _ _)) refl

pub returns-in-Binary : goal.returns-in-Binary
returns-in-Binary c =
    adds-as c.args.effects.now (ghost_written (declared_by c.args.lookups.now) (scope_by c.args.at.now) (form_tree c.args.target.now)) []
    (ap (ghost_written (declared_by c.args.lookups.now) (scope_by c.args.at.now)) (ap (form_body_tree c.args.target.now.place) c.in-Binary.is ∙ steps.tree-Binary c.args.target.now.place _ _ _ _ _ _ _)) refl

pub returns-in-Dvd : goal.returns-in-Dvd
returns-in-Dvd c =
    adds-as c.args.effects.now (ghost_written (declared_by c.args.lookups.now) (scope_by c.args.at.now) (form_tree c.args.target.now)) []
    (ap (ghost_written (declared_by c.args.lookups.now) (scope_by c.args.at.now)) (ap (form_body_tree c.args.target.now.place) c.in-Dvd.is ∙ steps.tree-Dvd c.args.target.now.place _ _ _ _)) refl

pub returns-in-All : goal.returns-in-All
returns-in-All c =
    adds-as c.args.effects.now (ghost_written (declared_by c.args.lookups.now) (scope_by c.args.at.now) (form_tree c.args.target.now)) []
    (ap (ghost_written (declared_by c.args.lookups.now) (scope_by c.args.at.now)) (ap (form_body_tree c.args.target.now.place) c.in-All.is ∙ steps.tree-All c.args.target.now.place _ _ _ _)) refl

pub returns-in-Ex : goal.returns-in-Ex
returns-in-Ex c =
    adds-as c.args.effects.now (ghost_written (declared_by c.args.lookups.now) (scope_by c.args.at.now) (form_tree c.args.target.now)) []
    (ap (ghost_written (declared_by c.args.lookups.now) (scope_by c.args.at.now)) (ap (form_body_tree c.args.target.now.place) c.in-Ex.is ∙ steps.tree-Ex c.args.target.now.place _ _ _ _)) refl

pub returns-in-Tree : goal.returns-in-Tree
returns-in-Tree c =
    adds-as c.args.effects.now (ghost_written (declared_by c.args.lookups.now) (scope_by c.args.at.now) (form_tree c.args.target.now)) []
    (ap (ghost_written (declared_by c.args.lookups.now) (scope_by c.args.at.now)) (ap (form_body_tree c.args.target.now.place) c.in-Tree.is ∙ steps.tree-Tree c.args.target.now.place _)) refl

pub returns-in-Rtrancl : goal.returns-in-Rtrancl
returns-in-Rtrancl c =
    adds-as c.args.effects.now (ghost_written (declared_by c.args.lookups.now) (scope_by c.args.at.now) (form_tree c.args.target.now)) []
    (ap (ghost_written (declared_by c.args.lookups.now) (scope_by c.args.at.now)) (ap (form_body_tree c.args.target.now.place) c.in-Rtrancl.is ∙ steps.tree-Rtrancl c.args.target.now.place _ _ _ _ _ _ _ _ _ _ _)) refl

pub returns-in-Braces : goal.returns-in-Braces
returns-in-Braces c =
    adds-as c.args.effects.now (ghost_written (declared_by c.args.lookups.now) (scope_by c.args.at.now) (form_tree c.args.target.now)) []
    (ap (ghost_written (declared_by c.args.lookups.now) (scope_by c.args.at.now)) (ap (form_body_tree c.args.target.now.place) c.in-Braces.is ∙ steps.tree-Braces c.args.target.now.place _)) refl

pub returns-in-Compr : goal.returns-in-Compr
returns-in-Compr c =
    adds-as c.args.effects.now (ghost_written (declared_by c.args.lookups.now) (scope_by c.args.at.now) (form_tree c.args.target.now)) []
    (ap (ghost_written (declared_by c.args.lookups.now) (scope_by c.args.at.now)) (ap (form_body_tree c.args.target.now.place) c.in-Compr.is ∙ steps.tree-Compr c.args.target.now.place _ _ _ _)) refl
