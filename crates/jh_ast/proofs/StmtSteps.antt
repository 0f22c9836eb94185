-- The tree of some statements, an equation for each variant, and of lists of statements.
use Rattle.std.proofs.Common.{◌≡◌, refl, ap, ◌∙◌, List, map, Option, Some, None, option_map}
use Rattle.std.specs.declared.alloc.Global.{Global}
use Rattle.std.specs.declared.boxed.Box.{Box}
use Rattle.jh_name.specs.declared.place.Place.{Place}
use Rattle.jh_ast.specs.declared.word.Param.{Param}
use Rattle.jh_ast.specs.declared.expr.Expr.{Expr}
use Rattle.jh_ast.specs.declared.spec.Labelled.{Labelled}
use Rattle.jh_ast.specs.declared.spec.Spec.{Spec}
use Rattle.jh_ast.specs.declared.stmt.Call.{Call}
use Rattle.jh_ast.specs.declared.stmt.Rhs.{Rhs}
use Rattle.jh_ast.specs.declared.stmt.Stmt.{Stmt}
use Rattle.jh_ast.specs.declared.stmt.StmtBody.{StmtBody, Row_of-Stmt, end_of-Stmt, more_of-Stmt, items-the_row-Stmt, items_hidden-the_row-Stmt-0}
use Rattle.jh_ast.specs.declared.stmt.StmtBody.TheBlock.{hidden-the_row-Stmt-0}
use Rattle.jh_ast.specs.declared.stmt.StmtBody.TheVariants as z
use Rattle.jh_ast.specs.Stmts as s
use Rattle.jh_ast.specs.Bare.{expr_tree, rhs_tree, call_tree, labelled_part, spec_part, stmt_body_tree, stmt_row_trees, stmt_tree, stmt_trees, held_trees, part_trees}

rows-items : {n : _} (ss : Row_of-Stmt n) → stmt_row_trees ss ≡ stmt_trees (items-the_row-Stmt n ss)
unfolding stmt_row_trees
rows-items end_of-Stmt = refl
rows-items (more_of-Stmt q a ss) = ap (s.more (stmt_body_tree q a)) (rows-items ss)

pub rows-hidden : (ss : List Stmt) → stmt_row_trees (hidden-the_row-Stmt-0 ss) ≡ stmt_trees ss
rows-hidden ss = rows-items (hidden-the_row-Stmt-0 ss) ∙ ap stmt_trees (items_hidden-the_row-Stmt-0 ss)

pub tree-Empty : (p : Place) → stmt_body_tree p z.Empty ≡ s.empty p
unfolding stmt_body_tree
tree-Empty p = refl

pub tree-Block : (p : Place) (ss : List Stmt) → stmt_body_tree p (z.Block ss) ≡ s.block p (stmt_trees ss)
unfolding stmt_body_tree
tree-Block p ss = ap (s.block p) (rows-hidden ss)

pub tree-Local : (p : Place) (d : Param) (r : Option Rhs) → stmt_body_tree p (z.Local d r) ≡ s.local p d (option_map rhs_tree r)
unfolding stmt_body_tree
tree-Local p d r = refl

pub tree-Assign : (p : Place) (a : Expr) (r : Rhs) → stmt_body_tree p (z.Assign a r) ≡ s.assign p (expr_tree a) (rhs_tree r)
unfolding stmt_body_tree
tree-Assign p a r = refl

pub tree-Call : (p : Place) (c : Call) → stmt_body_tree p (z.Call c) ≡ s.call p (call_tree c)
unfolding stmt_body_tree
tree-Call p c = refl

pub tree-If : (p : Place) (c : Expr) (a : Box Stmt Global) (o : Option (Box Stmt Global)) → stmt_body_tree p (z.If c a o) ≡ s.branch p (expr_tree c) (stmt_tree a.value) (part_trees o)
unfolding stmt_body_tree held_trees
tree-If p c a None = refl
tree-If p c a (Some b) = refl

pub tree-While : (p : Place) (is : List Labelled) (c : Expr) (i : _) (q : Place) (a : StmtBody) → stmt_body_tree p (z.While' is c i q a) ≡ s.loop p (map labelled_part is) (expr_tree c) (stmt_body_tree q a)
unfolding stmt_body_tree
tree-While p is c i q a = refl

pub tree-Return : (p : Place) (r : Option Expr) → stmt_body_tree p (z.Return r) ≡ s.return p (option_map expr_tree r)
unfolding stmt_body_tree
tree-Return p r = refl

pub tree-Assert : (p : Place) (l : Labelled) → stmt_body_tree p (z.Assert l) ≡ s.assert p (labelled_part l)
unfolding stmt_body_tree
tree-Assert p l = refl

pub tree-Note : (p : Place) (l : Labelled) → stmt_body_tree p (z.Note l) ≡ s.note p (labelled_part l)
unfolding stmt_body_tree
tree-Note p l = refl

pub tree-Ghost : (p : Place) (l r : Spec) → stmt_body_tree p (z.Ghost l r) ≡ s.ghost p (spec_part l) (spec_part r)
unfolding stmt_body_tree
tree-Ghost p l r = refl

pub ruleset stmt_steps = (tree-Empty, tree-Block, tree-Local, tree-Assign, tree-Call, tree-If, tree-While, tree-Return, tree-Assert, tree-Note, tree-Ghost)
