-- The grammar of expressions, calls and targets: which tokens, from one place up to another, are spelled out by which tree. The
-- relations stand in the order of the table of productions in docs/LANGUAGE.md, the loosest first.
use Rattle.std.specs.Prelude.{ℕ, ℤ, suc, ◌+◌, ◌≡◌, ◌==◌, Bool, true, false, List, [], ◌∷◌, None, Some}
use Rattle.jh_lex.specs.declared.lexer.symbol.Symbol.TheVariants as symbol
use Rattle.jh_lex.specs.declared.lexer.token.Token.{Token}
use Rattle.jh_ast.specs.declared.word.Word.{Word}
use Rattle.jh_ast.specs.declared.expr.Op.{Op}
use Rattle.jh_ast.specs.Exprs.{ExprTree, place_of, moved}
use Rattle.jh_ast.specs.Exprs as expr
use Rattle.jh_ast.specs.Stmts.{RhsTree, CallTree}
use Rattle.jh_ast.specs.Stmts as stmt
use Rattle.jh_operators.specs.lookahead.Standing.{Is, place_at, word_at, number_at}
use Rattle.jh_parse.specs.expressions.Operators.{operator_at, constant_at}

-- a operator b, at the place of a
abbrev pub binary_of : Op → ExprTree → ExprTree → ExprTree
binary_of o a b = expr.binary (place_of a) o a b

-- a . w, at the place of a
abbrev pub member_of : ExprTree → Word → ExprTree
member_of a w = expr.member (place_of a) a w

-- whether the operators between operands of level n stand once, as comparisons do
abbrev pub stands_once : ℕ → Bool
stands_once n = n == 2

-- { "." WORD } after a
pub data Dots (ts : List Token) : ExprTree → ℕ → ExprTree → ℕ → Type 0 where
  done : {i : ℕ} {a : ExprTree} → Dots ts a i a i
  more : {i j : ℕ} {a t : ExprTree} {w : Word} → Is ts i symbol.Dot → word_at ts (i + 1) ≡ Some w → Dots ts (member_of a w) (i + 2) t j → Dots ts a i t j

mutual
  -- unary with n = 0; product, sum, rel, eq, and, expr with n = 1, 2, 3, 4, 5, 6
  pub data Level (ts : List Token) : ℕ → ℕ → ExprTree → ℕ → Type 0 where
    unary : {i j : ℕ} {a : ExprTree} → Unary ts i a j → Level ts 0 i a j
    chain : {n i j k : ℕ} {a t : ExprTree} → Level ts n i a j → Chain ts n a j t k → Level ts (suc n) i t k

  -- { operator operand } after a, grouped to the left, and [ operator operand ] where the operator stands once
  pub data Chain (ts : List Token) : ℕ → ExprTree → ℕ → ExprTree → ℕ → Type 0 where
    ended : {n i : ℕ} {a : ExprTree} → Chain ts n a i a i
    once : {n i j : ℕ} {a b : ExprTree} {o : Op} → stands_once n ≡ true → operator_at ts (2 + n) i ≡ Some o → Level ts n (i + 1) b j → Chain ts n a i (binary_of o a b) j
    extended : {n i j k : ℕ} {a b t : ExprTree} {o : Op} → stands_once n ≡ false → operator_at ts (2 + n) i ≡ Some o → Level ts n (i + 1) b j → Chain ts n (binary_of o a b) j t k → Chain ts n a i t k

  -- "!" unary | "-" unary | postfix
  pub data Unary (ts : List Token) : ℕ → ExprTree → ℕ → Type 0 where
    negated : {i j : ℕ} {a : ExprTree} → Is ts i symbol.Bang → Unary ts (i + 1) a j → Unary ts i (expr.negation (place_at ts i) a) j
    minus : {i j : ℕ} {a : ExprTree} → Is ts i symbol.Minus → Unary ts (i + 1) a j → Unary ts i (expr.minus (place_at ts i) a) j
    postfix : {i j : ℕ} {a : ExprTree} → Postfix ts i a j → Unary ts i a j

  -- primary { "." WORD }
  pub data Postfix (ts : List Token) : ℕ → ExprTree → ℕ → Type 0 where
    reads : {i j k : ℕ} {a t : ExprTree} → Primary ts i a j → Dots ts a j t k → Postfix ts i t k

  -- literal | "this" | WORD | "(" expr ")"
  pub data Primary (ts : List Token) : ℕ → ExprTree → ℕ → Type 0 where
    constant : {i : ℕ} {a : ExprTree} → constant_at ts i ≡ Some a → Primary ts i a (i + 1)
    number : {i : ℕ} {z : ℤ} → number_at ts i ≡ Some z → Primary ts i (expr.number (place_at ts i) z) (i + 1)
    name : {i : ℕ} {w : Word} → word_at ts i ≡ Some w → Primary ts i (expr.name (place_at ts i) w) (i + 1)
    bracket : {i j : ℕ} {a : ExprTree} → Is ts i symbol.LeftParenthesis → Level ts 6 (i + 1) a j → Is ts j symbol.RightParenthesis → Primary ts i (moved (place_at ts i) a) (j + 1)

-- expr
abbrev pub Expression : List Token → ℕ → ExprTree → ℕ → Type 0
Expression ts i a j = Level ts 6 i a j

-- expr { "," expr }
pub data Listed (ts : List Token) : ℕ → List ExprTree → ℕ → Type 0 where
  last : {i j : ℕ} {a : ExprTree} → Expression ts i a j → Listed ts i (a ∷ []) j
  further : {i j k : ℕ} {a : ExprTree} {xs : List ExprTree} → Expression ts i a j → Is ts j symbol.Comma → Listed ts (j + 1) xs k → Listed ts i (a ∷ xs) k

-- "(" [ expr { "," expr } ] ")"
pub data Arguments (ts : List Token) : ℕ → List ExprTree → ℕ → Type 0 where
  no_arguments : {i : ℕ} → Is ts i symbol.LeftParenthesis → Is ts (i + 1) symbol.RightParenthesis → Arguments ts i [] (i + 2)
  arguments : {i j : ℕ} {xs : List ExprTree} → Is ts i symbol.LeftParenthesis → Listed ts (i + 1) xs j → Is ts j symbol.RightParenthesis → Arguments ts i xs (j + 1)

-- [ postfix "." ] WORD "(" [ expr { "," expr } ] ")"
pub data Call (ts : List Token) : ℕ → CallTree → ℕ → Type 0 where
  of_method : {i j : ℕ} {w : Word} {xs : List ExprTree} → word_at ts i ≡ Some w → Arguments ts (i + 1) xs j → Call ts i (record { receiver = None; method = w; args = xs }) j
  on_receiver : {i j k : ℕ} {a : ExprTree} {w : Word} {xs : List ExprTree} → Postfix ts i a j → Is ts j symbol.Dot → word_at ts (j + 1) ≡ Some w → Arguments ts (j + 2) xs k → Call ts i (record { receiver = Some a; method = w; args = xs }) k

-- WORD | postfix "." WORD
pub data Target (ts : List Token) : ℕ → ExprTree → ℕ → Type 0 where
  of_name : {i : ℕ} {w : Word} → word_at ts i ≡ Some w → Target ts i (expr.name (place_at ts i) w) (i + 1)
  of_member : {i j : ℕ} {a : ExprTree} {w : Word} → Postfix ts i a j → Is ts j symbol.Dot → word_at ts (j + 1) ≡ Some w → Target ts i (member_of a w) (j + 2)

-- expr | call | "new" WORD "(" ")"
pub data Rhs (ts : List Token) : ℕ → RhsTree → ℕ → Type 0 where
  of_value : {i j : ℕ} {a : ExprTree} → Expression ts i a j → Rhs ts i (stmt.value a) j
  of_call : {i j : ℕ} {c : CallTree} → Call ts i c j → Rhs ts i (stmt.result_of c) j
  of_new : {i : ℕ} {w : Word} → Is ts i symbol.New → word_at ts (i + 1) ≡ Some w → Is ts (i + 2) symbol.LeftParenthesis → Is ts (i + 3) symbol.RightParenthesis → Rhs ts i (stmt.new w) (i + 4)
