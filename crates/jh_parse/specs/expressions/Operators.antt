-- The operators of expressions, and how loosely each binds.
use Rattle.std.specs.Prelude.{ℕ, ◌==◌, List, Option, None, Some}
use Rattle.jh_lex.specs.declared.lexer.symbol.Symbol.TheVariants as symbol
use Rattle.jh_lex.specs.declared.lexer.token.Token.{Token}
use Rattle.jh_ast.specs.declared.expr.Op.{Op}
use Rattle.jh_ast.specs.declared.expr.Op.TheVariants as op
use Rattle.jh_ast.specs.Exprs.{ExprTree}
use Rattle.jh_ast.specs.Exprs as expr
use Rattle.jh_operators.specs.lookahead.Choices.{and_then, choose, given}
use Rattle.jh_operators.specs.lookahead.Standing.{is_at, place_at}

-- The operators that stand between operands, and how loosely they bind: `.`, which takes a word, is 1, and what is none of them 8.
-- 4, a comparison, stands once, and the others group to the left.
unfoldable pub infix_at : List Token → ℕ → Option (ℕ × Op)
infix_at ts i =
    choose (is_at ts i symbol.BarBar) (Some (7, op.Or))
    (choose (is_at ts i symbol.AmpersandAmpersand) (Some (6, op.And))
    (choose (is_at ts i symbol.EqualEqual) (Some (5, op.Equal))
    (choose (is_at ts i symbol.BangEqual) (Some (5, op.NotEqual))
    (choose (is_at ts i symbol.Less) (Some (4, op.Less))
    (choose (is_at ts i symbol.LessEqual) (Some (4, op.LessEq))
    (choose (is_at ts i symbol.Greater) (Some (4, op.Greater))
    (choose (is_at ts i symbol.GreaterEqual) (Some (4, op.GreaterEq))
    (choose (is_at ts i symbol.Plus) (Some (3, op.Add))
    (choose (is_at ts i symbol.Minus) (Some (3, op.Sub))
    (choose (is_at ts i symbol.Star) (Some (2, op.Mul)) None))))))))))

unfoldable pub operator_at : List Token → ℕ → ℕ → Option Op
operator_at ts rank i = and_then (infix_at ts i) (λ x. choose (x.0 == rank) (Some x.1) None)

unfoldable pub rank_at : List Token → ℕ → ℕ
rank_at ts i = choose (is_at ts i symbol.Dot) 1 (given (infix_at ts i) (λ x. x.0) 8)

-- a word that stands for itself, as the expression at its place
unfoldable pub constant_at : List Token → ℕ → Option ExprTree
constant_at ts i =
    choose (is_at ts i symbol.Null) (Some (expr.null (place_at ts i)))
    (choose (is_at ts i symbol.True) (Some (expr.yes (place_at ts i)))
    (choose (is_at ts i symbol.False) (Some (expr.no (place_at ts i)))
    (choose (is_at ts i symbol.This) (Some (expr.this (place_at ts i))) None)))
