-- Literals of code.
use Rattle.std.specs.Prelude.{ℕ, ℤ, ◌≡◌, List, Option, None, Some}
use Rattle.jh_lex.specs.declared.lexer.symbol.Symbol.TheVariants as symbol
use Rattle.jh_lex.specs.declared.lexer.token.Token.{Token}
use Rattle.jh_ast.specs.Exprs.{ExprTree}
use Rattle.jh_ast.specs.Exprs as expr
use Rattle.jh_operators.specs.lookahead.Choices.{choose, given}
use Rattle.jh_operators.specs.lookahead.Standing.{Is, is_at, place_at, number_at}

-- "null" | "true" | "false" | NUMBER, which is one token
pub data Literal (ts : List Token) (i : ℕ) : ExprTree → Type 0 where
  null : Is ts i symbol.Null → Literal ts i (expr.null (place_at ts i))
  yes : Is ts i symbol.True → Literal ts i (expr.yes (place_at ts i))
  no : Is ts i symbol.False → Literal ts i (expr.no (place_at ts i))
  number : {z : ℤ} → number_at ts i ≡ Some z → Literal ts i (expr.number (place_at ts i) z)

-- the same as a function
unfoldable pub literal_at : List Token → ℕ → Option ExprTree
literal_at ts i =
    choose (is_at ts i symbol.Null) (Some (expr.null (place_at ts i)))
    (choose (is_at ts i symbol.True) (Some (expr.yes (place_at ts i)))
    (choose (is_at ts i symbol.False) (Some (expr.no (place_at ts i)))
    (given (number_at ts i) (λ z. Some (expr.number (place_at ts i) z)) None)))
