-- What the readers of expressions answer, seen as trees.
use Rattle.std.specs.Prelude.{ℕ, Option, Result}
use Rattle.jh_ast.specs.declared.expr.Expr.{Expr}
use Rattle.jh_ast.specs.declared.stmt.Call.{Call}
use Rattle.jh_ast.specs.declared.stmt.Rhs.{Rhs}
use Rattle.jh_ast.specs.declared.word.Word.{Word}
use Rattle.jh_ast.specs.Bare.{expr_tree, call_tree, rhs_tree}
use Rattle.jh_ast.specs.Exprs.{ExprTree}
use Rattle.jh_ast.specs.Stmts.{RhsTree, CallTree}
use Rattle.jh_operators.specs.declared.lookahead.error.ReadError.{ReadError}
use Rattle.jh_operators.specs.lookahead.Answers.{Gives}

-- the answer is an expression and the place after it
abbrev pub GivesExpr : Option (ExprTree × ℕ) → Result (Expr × ℕ) ReadError → Type 0
GivesExpr wanted result = Gives (λ r. (expr_tree r.0, r.1)) wanted result

-- the answer is an expression, the word that is read of it, and the place after that
abbrev pub GivesRead : Option (ExprTree × Option Word × ℕ) → Result (Expr × Option Word × ℕ) ReadError → Type 0
GivesRead wanted result = Gives (λ r. (expr_tree r.0, r.1, r.2)) wanted result

-- the answer is a call and the place after it
abbrev pub GivesCall : Option (CallTree × ℕ) → Result (Call × ℕ) ReadError → Type 0
GivesCall wanted result = Gives (λ r. (call_tree r.0, r.1)) wanted result

-- the answer is what is assigned and the place after it
abbrev pub GivesRhs : Option (RhsTree × ℕ) → Result (Rhs × ℕ) ReadError → Type 0
GivesRhs wanted result = Gives (λ r. (rhs_tree r.0, r.1)) wanted result
