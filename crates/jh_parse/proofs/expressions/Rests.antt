-- One turn of the loop that reads expressions with commas between them, and what is assigned, an equation for each variant.
use Rattle.std.proofs.Common.{◌≡◌, ℕ, zero, suc, ◌+◌, ◌-◌, ◌<◌, true, false, List, [], ◌∷◌, ◌++◌, append_assoc, map, refl, ap, sym, ◌∙◌, arith}
use Rattle.std.specs.Prelude.{Option, None, Some}
use Rattle.jh_lex.specs.declared.lexer.symbol.Symbol.TheVariants as symbol
use Rattle.jh_lex.specs.declared.lexer.token.Token.{Token}
use Rattle.jh_ast.specs.declared.expr.Expr.{Expr}
use Rattle.jh_ast.specs.declared.stmt.Call.{Call}
use Rattle.jh_ast.specs.declared.stmt.Rhs.TheVariants as rhs
use Rattle.jh_ast.specs.declared.word.Word.{Word}
use Rattle.jh_ast.specs.Bare.{expr_tree, call_tree, rhs_tree}
use Rattle.jh_ast.specs.Exprs.{ExprTree}
use Rattle.jh_ast.specs.Stmts as stmt
use Rattle.jh_operators.specs.lookahead.Choices.{and_then, choose}
use Rattle.jh_operators.specs.lookahead.Standing.{is_at}
use Rattle.jh_parse.specs.expressions.Reading.{expression_at, listed_at}

-- what is made, with what is read from here on
abbrev pub with_rest : List Token → List Expr → ℕ → ℕ → Option (List ExprTree × ℕ)
with_rest ts made k i = and_then {B = List ExprTree × ℕ} (listed_at ts k i) (λ r. Some (map expr_tree made ++ r.0, r.1))

map-last : (old : List Expr) (x : Expr) → map expr_tree (old ++ x ∷ []) ≡ map expr_tree old ++ expr_tree x ∷ []
map-last [] x = refl
map-last (y ∷ ys) x = ap (λ l. expr_tree y ∷ l) (map-last ys x)

before : (k : ℕ) → suc k - 1 ≡ k
before k = omega arith

joined : (old : List Expr) (x : Expr) (o : Option (List ExprTree × ℕ)) → and_then {B = List ExprTree × ℕ} (and_then {B = List ExprTree × ℕ} o (λ r. Some (expr_tree x ∷ r.0, r.1))) (λ r. Some (map expr_tree old ++ r.0, r.1)) ≡ and_then {B = List ExprTree × ℕ} o (λ r. Some (map expr_tree (old ++ x ∷ []) ++ r.0, r.1))
unfolding and_then
joined old x None = refl
joined old x (Some r) = ap (λ l. Some (l, r.1)) (sym (append_assoc (map expr_tree old) (expr_tree x ∷ []) r.0) ∙ ap (λ l. l ++ r.0) (sym (map-last old x)))

-- one more expression, and a comma
pub listed-next : (ts : List Token) (k i j : ℕ) (x : Expr) (old new : List Expr) → 0 < k → expression_at ts i ≡ Some (expr_tree x, j) → is_at ts j symbol.Comma ≡ true → new ≡ old ++ x ∷ [] → with_rest ts old k i ≡ with_rest ts new (k - 1) (j + 1)
unfolding and_then choose listed_at
listed-next ts zero i j x old new h e c q = absurd (omega (arith, h))
listed-next ts (suc k) i j x old new h e c q = rw (e, c, before k, q) (joined old x (listed_at ts k (j + 1)))

-- the last expression
pub listed-last : (ts : List Token) (k i j : ℕ) (x : Expr) (old new : List Expr) (target : Option (List ExprTree × ℕ)) → 0 < k → expression_at ts i ≡ Some (expr_tree x, j) → is_at ts j symbol.Comma ≡ false → new ≡ old ++ x ∷ [] → with_rest ts old k i ≡ target → target ≡ Some (map expr_tree new, j)
unfolding and_then choose listed_at
listed-last ts zero i j x old new target h e c q g = absurd (omega (arith, h))
listed-last ts (suc k) i j x old new target h e c q g = sym g ∙ rw (e, c, q) (ap (λ l. Some (l, j)) (sym (map-last old x)))

-- no expression stands there
pub listed-none : (ts : List Token) (k i : ℕ) (old : List Expr) (target : Option (List ExprTree × ℕ)) → expression_at ts i ≡ None → with_rest ts old k i ≡ target → target ≡ None
unfolding and_then listed_at
listed-none ts zero i old target e g = sym g
listed-none ts (suc k) i old target e g = sym g ∙ rw e refl

-- there is no turn left
pub listed-short : (ts : List Token) (k i : ℕ) (old : List Expr) (target : Option (List ExprTree × ℕ)) → k ≡ 0 → with_rest ts old k i ≡ target → target ≡ None
unfolding and_then listed_at
listed-short ts zero i old target z g = sym g
listed-short ts (suc k) i old target z g = absurd (omega (arith, z))

-- before the first turn
pub listed-begin : (ts : List Token) (k i : ℕ) → with_rest ts [] k i ≡ listed_at ts k i
unfolding and_then
listed-begin ts k i = same (listed_at ts k i) where
  same : (o : Option (List ExprTree × ℕ)) → and_then {B = List ExprTree × ℕ} o (λ r. Some (r.0, r.1)) ≡ o
  same None = refl
  same (Some r) = refl

pub tree-Value : (a : Expr) → rhs_tree (rhs.Value a) ≡ stmt.value (expr_tree a)
unfolding rhs_tree
tree-Value a = refl

pub tree-Result : (c : Call) → rhs_tree (rhs.Call c) ≡ stmt.result_of (call_tree c)
unfolding rhs_tree
tree-Result c = refl

pub tree-New : (w : Word) → rhs_tree (rhs.New w) ≡ stmt.new w
unfolding rhs_tree
tree-New w = refl

pub ruleset rhs_steps = (tree-Value, tree-Result, tree-New)
