-- The operators of formulas, how loosely each binds, and what stands for itself.
use Rattle.std.specs.Prelude.{ℕ, ◌||◌, Bool, List, Option, None, Some}
use Rattle.jh_lex.specs.declared.lexer.symbol.Symbol.TheVariants as symbol
use Rattle.jh_lex.specs.declared.lexer.token.Token.{Token}
use Rattle.jh_ast.specs.Forms.{FormTree}
use Rattle.jh_ast.specs.Forms as form
use Rattle.jh_operators.specs.lookahead.Choices.{choose, given}
use Rattle.jh_operators.specs.lookahead.Standing.{is_at, is_quote_close_at, place_at}
unfoldable pub use Rattle.jh_operators.specs.operators.Infixes.{infix_at, operator_at}

-- how loosely what stands there binds: `..`, which takes a name, is 1, and what is none of the operators 8
unfoldable pub rank_at : List Token → ℕ → ℕ
rank_at ts i = choose (is_at ts i symbol.DotDot) 1 (choose (is_at ts i symbol.Dvd) 4 (given (infix_at ts i) (λ x. x.0) 8))

-- what may stand after a quantifier without brackets
unfoldable pub closes_at : List Token → ℕ → Bool
closes_at ts i = is_quote_close_at ts i || is_at ts i symbol.RightParenthesis || is_at ts i symbol.RightBracket || is_at ts i symbol.RightBrace || is_at ts i symbol.Comma

-- a word that stands for itself, as the tree at its place
unfoldable pub constant_at : List Token → ℕ → Option FormTree
constant_at ts i =
    choose (is_at ts i symbol.Null) (Some (form.null (place_at ts i)))
    (choose (is_at ts i symbol.TrueFormula) (Some (form.yes (place_at ts i)))
    (choose (is_at ts i symbol.FalseFormula) (Some (form.no (place_at ts i)))
    (choose (is_at ts i symbol.Univ) (Some (form.univ (place_at ts i))) None)))
