-- The operators that stand between operands, and how loosely they bind.
use Rattle.std.specs.Prelude.{ℕ, ◌==◌, List, Option, None, Some}
use Rattle.jh_lex.specs.declared.lexer.symbol.Symbol.TheVariants as symbol
use Rattle.jh_lex.specs.declared.lexer.token.Token.{Token}
use Rattle.jh_ast.specs.declared.spec.SpecOp.{SpecOp}
use Rattle.jh_ast.specs.declared.spec.SpecOp.TheVariants as op
use Rattle.jh_operators.specs.lookahead.Choices.{and_then, choose}
use Rattle.jh_operators.specs.lookahead.Standing.{is_at}

-- The operators that stand between operands, and how loosely they bind.
-- From 5 on they group to the right, 4 stands once, and 3 and 2 group to the left.
unfoldable pub infix_at : List Token → ℕ → Option (ℕ × SpecOp)
infix_at ts i =
    choose (is_at ts i symbol.Arrow) (Some (7, op.Implies))
    (choose (is_at ts i symbol.Bar) (Some (6, op.Or))
    (choose (is_at ts i symbol.Ampersand) (Some (5, op.And))
    (choose (is_at ts i symbol.Equal) (Some (4, op.Equal))
    (choose (is_at ts i symbol.TildeEqual) (Some (4, op.NotEqual))
    (choose (is_at ts i symbol.Colon) (Some (4, op.Elem))
    (choose (is_at ts i symbol.TildeColon) (Some (4, op.NotElem))
    (choose (is_at ts i symbol.Less) (Some (4, op.Less))
    (choose (is_at ts i symbol.LessEqual) (Some (4, op.LessEq))
    (choose (is_at ts i symbol.Greater) (Some (4, op.Greater))
    (choose (is_at ts i symbol.GreaterEqual) (Some (4, op.GreaterEq))
    (choose (is_at ts i symbol.Union) (Some (3, op.Union))
    (choose (is_at ts i symbol.Plus) (Some (3, op.Add))
    (choose (is_at ts i symbol.Minus) (Some (3, op.Sub))
    (choose (is_at ts i symbol.Intersection) (Some (2, op.Inter))
    (choose (is_at ts i symbol.Star) (Some (2, op.Mul)) None)))))))))))))))

unfoldable pub operator_at : List Token → ℕ → ℕ → Option SpecOp
operator_at ts rank i = and_then (infix_at ts i) (λ x. choose (x.0 == rank) (Some x.1) None)
