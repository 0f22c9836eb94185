-- The tree of each value of the program.
use Rattle.std.specs.Prelude.{List, [], ◌∷◌, map, Option, Some, None, option_map}
use Rattle.std.specs.declared.alloc.Global.{Global}
use Rattle.std.specs.declared.boxed.Box.{Box}
use Rattle.jh_name.specs.declared.place.Place.{Place}
use Rattle.jh_ast.specs.declared.expr.Expr.{Expr}
use Rattle.jh_ast.specs.declared.expr.ExprBody.{ExprBody}
use Rattle.jh_ast.specs.declared.expr.ExprBody.TheVariants as x
use Rattle.jh_ast.specs.declared.spec.SpecTree.{SpecTree}
use Rattle.jh_ast.specs.declared.spec.SpecBody.{SpecBody, Row_of-SpecTree, end_of-SpecTree, more_of-SpecTree}
use Rattle.jh_ast.specs.declared.spec.SpecBody.TheVariants as y
use Rattle.jh_ast.specs.declared.spec.Spec.{Spec}
use Rattle.jh_ast.specs.declared.spec.Labelled.{Labelled}
use Rattle.jh_ast.specs.declared.stmt.Stmt.{Stmt}
use Rattle.jh_ast.specs.declared.stmt.StmtBody.{StmtBody, Row_of-Stmt, end_of-Stmt, more_of-Stmt}
use Rattle.jh_ast.specs.declared.stmt.StmtBody.TheBlock.{Held-StmtBody-If-2, None', Some'}
use Rattle.jh_ast.specs.declared.stmt.StmtBody.TheVariants as z
use Rattle.jh_ast.specs.declared.stmt.Call.{Call}
use Rattle.jh_ast.specs.declared.stmt.Rhs.{Rhs}
use Rattle.jh_ast.specs.declared.stmt.Rhs.TheVariants as rhs
use Rattle.jh_ast.specs.declared.program.Program.{Program}
use Rattle.jh_ast.specs.declared.program.Class.{Class}
use Rattle.jh_ast.specs.declared.program.Field.{Field}
use Rattle.jh_ast.specs.declared.program.SpecVar.{SpecVar}
use Rattle.jh_ast.specs.declared.program.VarDef.{VarDef}
use Rattle.jh_ast.specs.declared.program.Method.{Method}
use Rattle.jh_ast.specs.Exprs.{ExprTree}
use Rattle.jh_ast.specs.Exprs as e
use Rattle.jh_ast.specs.Forms.{FormTree, FormTrees, SpecPart, LabelledPart}
use Rattle.jh_ast.specs.Forms as f
use Rattle.jh_ast.specs.Stmts.{StmtTree, StmtTrees, RhsTree, CallTree}
use Rattle.jh_ast.specs.Stmts as s
use Rattle.jh_ast.specs.Programs.{ProgramTree, ClassPart, FieldPart, VarPart, DefPart, MethodPart}

unfoldable pub expr_body_tree : Place → ExprBody → ExprTree
expr_body_tree p x.Null = e.null p
expr_body_tree p x.True = e.yes p
expr_body_tree p x.False = e.no p
expr_body_tree p (x.Number n) = e.number p n
expr_body_tree p x.This = e.this p
expr_body_tree p (x.Name w) = e.name p w
expr_body_tree p (x.Member' i q a w) = e.member p (expr_body_tree q a) w
expr_body_tree p (x.Not' i q a) = e.negation p (expr_body_tree q a)
expr_body_tree p (x.Minus' i q a) = e.minus p (expr_body_tree q a)
expr_body_tree p (x.Binary' op i q a j r b) = e.binary p op (expr_body_tree q a) (expr_body_tree r b)

abbrev pub expr_tree : Expr → ExprTree
expr_tree a = expr_body_tree a.place a.body

unfoldable mutual
  pub form_body_tree : Place → SpecBody → FormTree
  form_body_tree p y.Null = f.null p
  form_body_tree p y.True = f.yes p
  form_body_tree p y.False = f.no p
  form_body_tree p y.Univ = f.univ p
  form_body_tree p (y.Number n) = f.number p n
  form_body_tree p (y.Name w) = f.name p w
  form_body_tree p (y.Member' i q a w) = f.member p (form_body_tree q a) w
  form_body_tree p (y.Not' i q a) = f.negation p (form_body_tree q a)
  form_body_tree p (y.Minus' i q a) = f.minus p (form_body_tree q a)
  form_body_tree p (y.Old' i q a) = f.old p (form_body_tree q a)
  form_body_tree p (y.Card' i q a) = f.card p (form_body_tree q a)
  form_body_tree p (y.Binary' op i q a j r b) = f.binary p op (form_body_tree q a) (form_body_tree r b)
  form_body_tree p (y.Dvd' n i q a) = f.dvd p n (form_body_tree q a)
  form_body_tree p (y.All' ws i q a) = f.all p ws (form_body_tree q a)
  form_body_tree p (y.Ex' ws i q a) = f.ex p ws (form_body_tree q a)
  form_body_tree p (y.Tree ws) = f.tree p ws
  form_body_tree p (y.Rtrancl' u v i q a j r b k t c) = f.rtrancl p u v (form_body_tree q a) (form_body_tree r b) (form_body_tree t c)
  form_body_tree p (y.Braces' shape fs) = f.braces p (form_row_trees fs)
  form_body_tree p (y.Compr' w i q a) = f.compr p w (form_body_tree q a)

  pub form_row_trees : {n : _} → Row_of-SpecTree n → FormTrees
  form_row_trees end_of-SpecTree = f.none
  form_row_trees (more_of-SpecTree q a fs) = f.more (form_body_tree q a) (form_row_trees fs)

abbrev pub form_tree : SpecTree → FormTree
form_tree a = form_body_tree a.place a.body

abbrev pub form_trees : List SpecTree → FormTrees
form_trees [] = f.none
form_trees (a ∷ fs) = f.more (form_tree a) (form_trees fs)

abbrev pub spec_part : Spec → SpecPart
spec_part spec = record { place = spec.place; number = spec.number; form = form_tree spec.body }

abbrev pub labelled_part : Labelled → LabelledPart
labelled_part l = record { label = l.name; spec = spec_part l.body; from = l.from }

abbrev pub call_tree : Call → CallTree
call_tree c = record { receiver = option_map expr_tree c.receiver; method = c.method; args = map expr_tree c.args }

unfoldable pub rhs_tree : Rhs → RhsTree
rhs_tree (rhs.Value a) = s.value (expr_tree a)
rhs_tree (rhs.Call c) = s.result_of (call_tree c)
rhs_tree (rhs.New w) = s.new w

unfoldable mutual
  pub stmt_body_tree : Place → StmtBody → StmtTree
  stmt_body_tree p z.Empty = s.empty p
  stmt_body_tree p (z.Block' shape ss) = s.block p (stmt_row_trees ss)
  stmt_body_tree p (z.Local d r) = s.local p d (option_map rhs_tree r)
  stmt_body_tree p (z.Assign a r) = s.assign p (expr_tree a) (rhs_tree r)
  stmt_body_tree p (z.Call c) = s.call p (call_tree c)
  stmt_body_tree p (z.If' c i q a b) = s.branch p (expr_tree c) (stmt_body_tree q a) (held_trees b)
  stmt_body_tree p (z.While' is c i q a) = s.loop p (map labelled_part is) (expr_tree c) (stmt_body_tree q a)
  stmt_body_tree p (z.Return r) = s.return p (option_map expr_tree r)
  stmt_body_tree p (z.Assert l) = s.assert p (labelled_part l)
  stmt_body_tree p (z.Note l) = s.note p (labelled_part l)
  stmt_body_tree p (z.Ghost l r) = s.ghost p (spec_part l) (spec_part r)

  pub stmt_row_trees : {n : _} → Row_of-Stmt n → StmtTrees
  stmt_row_trees end_of-Stmt = s.none
  stmt_row_trees (more_of-Stmt q a ss) = s.more (stmt_body_tree q a) (stmt_row_trees ss)

  pub held_trees : Held-StmtBody-If-2 → StmtTrees
  held_trees None' = s.none
  held_trees (Some' i q a) = s.more (stmt_body_tree q a) s.none

abbrev pub stmt_tree : Stmt → StmtTree
stmt_tree a = stmt_body_tree a.place a.body

abbrev pub stmt_trees : List Stmt → StmtTrees
stmt_trees [] = s.none
stmt_trees (a ∷ ss) = s.more (stmt_tree a) (stmt_trees ss)

-- the second part of a branch, where there is one
abbrev pub part_trees : Option (Box Stmt Global) → StmtTrees
part_trees None = s.none
part_trees (Some a) = s.more (stmt_tree a.value) s.none

abbrev pub field_part : Field → FieldPart
field_part x = record { name = x.name; jtype = x.jtype; fixed = x.fixed; init = option_map expr_tree x.init }

abbrev pub var_part : SpecVar → VarPart
var_part x = record { name = x.name; kind = x.kind; fixed = x.fixed; is_ghost = x.is_ghost; init = option_map spec_part x.init }

abbrev pub def_part : VarDef → DefPart
def_part x = record { name = x.name; spec = spec_part x.body }

unfoldable pub method_part : Method → MethodPart
method_part m = record {
  name = m.name;
  is_public = m.public;
  fixed = m.fixed;
  result = m.result;
  params = m.params;
  pre = option_map spec_part m.pre;
  modifies = m.modifies;
  post = option_map spec_part m.post;
  body = stmt_trees m.body;
  end = m.end;
}

unfoldable pub class_part : Class → ClassPart
class_part c = record {
  name = c.name;
  fields = map field_part c.fields;
  methods = map method_part c.methods;
  vars = map var_part c.vars;
  defs = map def_part c.defs;
  invariants = map labelled_part c.invariants;
}

unfoldable pub program_tree : Program → ProgramTree
program_tree p = record { classes = map class_part p.classes }
