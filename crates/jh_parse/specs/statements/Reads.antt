-- What the readers of statements answer, seen as trees.
use Rattle.std.specs.Prelude.{ℕ, Option, option_map, Result, List, ◌++◌, Some, map}
use Rattle.std.specs.declared.alloc.Global.{Global}
use Rattle.std.specs.declared.boxed.Box.{Box}
use Rattle.std.specs.declared.vec.Vec.{Vec}
use Rattle.jh_ast.specs.declared.expr.Expr.{Expr}
use Rattle.jh_ast.specs.declared.stmt.Rhs.{Rhs}
use Rattle.jh_ast.specs.declared.stmt.Stmt.{Stmt}
use Rattle.jh_ast.specs.Bare.{expr_tree, rhs_tree, stmt_tree, stmt_trees}
use Rattle.jh_ast.specs.Exprs.{ExprTree}
use Rattle.jh_ast.specs.Stmts.{StmtTree, StmtTrees, RhsTree}
use Rattle.jh_operators.specs.declared.lookahead.error.ReadError.{ReadError}
use Rattle.jh_operators.specs.lookahead.Answers.{Gives}
use Rattle.jh_operators.specs.lookahead.Choices.{and_then}
use Rattle.jh_operators.specs.lookahead.Lists.{Found}

-- the answer is what is assigned, where something is, and the place after it
abbrev pub GivesInitial : Option (Option RhsTree × ℕ) → Result (Option Rhs × ℕ) ReadError → Type 0
GivesInitial wanted result = Gives (λ r. (option_map rhs_tree r.0, r.1)) wanted result

-- the answer is a condition in a box, and the place after it
abbrev pub GivesCondition : Option (ExprTree × ℕ) → Result (Box Expr Global × ℕ) ReadError → Type 0
GivesCondition wanted result = Gives (λ r. (expr_tree r.0.value, r.1)) wanted result

-- the answer is a statement, the place after it and the number after its formulas
abbrev pub GivesStatement : Option (Found StmtTree) → Result (Stmt × ℕ × ℕ) ReadError → Type 0
GivesStatement wanted result = Gives (λ r. (stmt_tree r.0, r.1, r.2)) wanted result

-- the answer is the statements of a body, the place of its closing brace and the number after their formulas
abbrev pub GivesBody : Option (Found StmtTrees) → Result (Vec Stmt Global × ℕ × ℕ) ReadError → Type 0
GivesBody wanted result = Gives (λ r. (stmt_trees r.0.items, r.1, r.2)) wanted result

-- these statements, and then what is read
abbrev pub after_these : List Stmt → Option (Found (List StmtTree)) → Option (Found (List StmtTree))
after_these old read = and_then {B = Found (List StmtTree)} read (λ p. Some (map stmt_tree old ++ p.0, p.1, p.2))

-- the answer is the place after statements and the number after their formulas; old and these are then all that are made
abbrev pub GivesPiece : List Stmt → List Stmt → Option (Found (List StmtTree)) → Result (ℕ × ℕ) ReadError → Type 0
GivesPiece old made wanted result = Gives (λ r. (map stmt_tree made, r.0, r.1)) (after_these old wanted) result
