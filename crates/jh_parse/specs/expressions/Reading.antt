-- What is read of an expression, a call or a target at a place of a list of tokens, with the place after it: the grammar as a
-- function, which the code follows. That it is the grammar is proved in proofs/Sound and proofs/Complete.
use Rattle.std.specs.Prelude.{ℕ, zero, suc, ◌+◌, List, [], ◌∷◌, length, Option, None, Some}
use Rattle.jh_lex.specs.declared.lexer.symbol.Symbol.TheVariants as symbol
use Rattle.jh_lex.specs.declared.lexer.token.Token.{Token}
use Rattle.jh_name.specs.declared.place.Place.{Place}
use Rattle.jh_ast.specs.declared.word.Word.{Word}
use Rattle.jh_ast.specs.Exprs.{ExprTree, place_of, moved}
use Rattle.jh_ast.specs.Exprs as expr
use Rattle.jh_ast.specs.Stmts.{RhsTree, CallTree}
use Rattle.jh_ast.specs.Stmts as stmt
use Rattle.jh_operators.specs.lookahead.Choices.{◌>>=◌, choose, given}
use Rattle.jh_operators.specs.lookahead.Standing.{is_at, is_plain_word_at, place_at, word_at, number_at, behind}
use Rattle.jh_parse.specs.expressions.Operators.{operator_at, constant_at}
use Rattle.jh_parse.specs.expressions.Expressions.{binary_of, member_of, stands_once}

-- what is read deeper inside, after at least one token
pub record Inside : Type 0 where
  pub level : ℕ → ℕ → Option (ExprTree × ℕ)
  pub unary : ℕ → Option (ExprTree × ℕ)
  pub chain : ℕ → ExprTree → ℕ → Option (ExprTree × ℕ)

unfoldable pub bracket_of : List Token → Inside → ℕ → Option (ExprTree × ℕ)
bracket_of ts inside i = inside.level 6 (i + 1) >>= λ a. behind ts a.1 symbol.RightParenthesis >>= λ j. Some (moved (place_at ts i) a.0, j)

unfoldable pub simple_at : List Token → ℕ → Option (ExprTree × ℕ)
simple_at ts i =
    choose (is_plain_word_at ts i) (word_at ts i >>= λ w. Some (expr.name (place_at ts i) w, i + 1))
    (given (number_at ts i) (λ z. Some (expr.number (place_at ts i) z, i + 1))
    (given (constant_at ts i) (λ a. Some (a, i + 1)) None))

unfoldable pub primary_of : List Token → Inside → ℕ → Option (ExprTree × ℕ)
primary_of ts inside i = choose (is_at ts i symbol.LeftParenthesis) (bracket_of ts inside i) (simple_at ts i)

-- an expression and the word that is read of it last, as one
unfoldable pub with_last : ExprTree → Option Word → ExprTree
with_last a last = given last (λ w. member_of a w) a

-- the words after dots, of which the last is kept apart
unfoldable pub dots_at : List Token → ℕ → ExprTree → Option Word → ℕ → Option (ExprTree × Option Word × ℕ)
dots_at ts zero a last i = None
dots_at ts (suc k) a last i =
    choose (is_at ts i symbol.Dot) (word_at ts (i + 1) >>= λ w. dots_at ts k (with_last a last) (Some w) (i + 2)) (Some (a, last, i))

unfoldable pub reads_of : List Token → Inside → ℕ → Option (ExprTree × Option Word × ℕ)
reads_of ts inside i = primary_of ts inside i >>= λ a. dots_at ts (suc (length ts)) a.0 None a.1

unfoldable pub postfix_of : List Token → Inside → ℕ → Option (ExprTree × ℕ)
postfix_of ts inside i = reads_of ts inside i >>= λ r. Some (with_last r.0 r.1, r.2)

-- after a sign before an operand
unfoldable pub signed_of : List Token → Inside → (Place → ExprTree → ExprTree) → ℕ → Option (ExprTree × ℕ)
signed_of ts inside sign i = inside.unary (i + 1) >>= λ a. Some ((sign (place_at ts i) a.0), a.1)

unfoldable pub unary_of : List Token → Inside → ℕ → Option (ExprTree × ℕ)
unary_of ts inside i =
    choose (is_at ts i symbol.Bang) (signed_of ts inside expr.negation i)
    (choose (is_at ts i symbol.Minus) (signed_of ts inside expr.minus i) (postfix_of ts inside i))

-- what stands after a: operators and operands, which are read by lower
abbrev pub chain_with : List Token → Inside → (ℕ → Option (ExprTree × ℕ)) → ℕ → ExprTree → ℕ → Option (ExprTree × ℕ)
chain_with ts inside lower n a i = given (operator_at ts (2 + n) i)
    (λ o. lower (i + 1) >>= λ b. choose (stands_once n) (Some (binary_of o a b.0, b.1)) (inside.chain n (binary_of o a b.0) b.1))
    (Some (a, i))

unfoldable pub level_of : List Token → Inside → ℕ → ℕ → Option (ExprTree × ℕ)
level_of ts inside zero i = unary_of ts inside i
level_of ts inside (suc n) i = level_of ts inside n i >>= λ a. chain_with ts inside (level_of ts inside n) n a.0 a.1

unfoldable pub chain_of : List Token → Inside → ℕ → ExprTree → ℕ → Option (ExprTree × ℕ)
chain_of ts inside n a i = chain_with ts inside (level_of ts inside n) n a i

-- with so many levels left
unfoldable pub inside : List Token → ℕ → Inside
inside ts zero = record {
  level = λ n i. None;
  unary = λ i. None;
  chain = λ n a i. None;
}
inside ts (suc k) = record {
  level = level_of ts (inside ts k);
  unary = unary_of ts (inside ts k);
  chain = chain_of ts (inside ts k);
}

unfoldable pub expression_at : List Token → ℕ → Option (ExprTree × ℕ)
expression_at ts i = level_of ts (inside ts (length ts)) 6 i

-- expressions with commas between them, no more than k
unfoldable pub listed_at : List Token → ℕ → ℕ → Option (List ExprTree × ℕ)
listed_at ts zero i = None
listed_at ts (suc k) i = expression_at ts i >>= λ a.
    choose (is_at ts a.1 symbol.Comma) (listed_at ts k (a.1 + 1) >>= λ r. Some (a.0 ∷ r.0, r.1)) (Some (a.0 ∷ [], a.1))

unfoldable pub arguments_at : List Token → ℕ → Option (List ExprTree × ℕ)
arguments_at ts i = behind ts i symbol.LeftParenthesis >>= λ j.
    choose (is_at ts (i + 1) symbol.RightParenthesis) (Some ([], i + 2))
    (listed_at ts (length ts) (i + 1) >>= λ xs. behind ts xs.1 symbol.RightParenthesis >>= λ k. Some (xs.0, k))

-- an operand and the words after its dots, of which the last is kept apart
unfoldable pub reads_at : List Token → ℕ → Option (ExprTree × Option Word × ℕ)
reads_at ts i = reads_of ts (inside ts (length ts)) i

-- what a call begins with, as read: a receiver and a method's word, or that word alone
unfoldable pub called_of : List Token → ℕ → ExprTree → Option Word → Option (Option ExprTree × Word)
called_of ts i a last = given last (λ w. Some (Some a, w)) (word_at ts i >>= λ w. Some (None, w))

-- a call at i, whose beginning is read up to j
unfoldable pub call_of : List Token → ℕ → ExprTree → Option Word → ℕ → Option (CallTree × ℕ)
call_of ts i a last j = called_of ts i a last >>= λ c. arguments_at ts j >>= λ xs. Some (record { receiver = c.0; method = c.1; args = xs.0 }, xs.1)

unfoldable pub call_at : List Token → ℕ → Option (CallTree × ℕ)
call_at ts i = reads_at ts i >>= λ r. call_of ts i r.0 r.1 r.2

-- a target at i, as read
unfoldable pub target_of : List Token → ℕ → ExprTree → Option Word → Option ExprTree
target_of ts i a last = given last (λ w. Some (member_of a w)) (choose (is_plain_word_at ts i) (Some a) None)

unfoldable pub target_at : List Token → ℕ → Option (ExprTree × ℕ)
target_at ts i = reads_at ts i >>= λ r. target_of ts i r.0 r.1 >>= λ t. Some (t, r.2)

unfoldable pub new_at : List Token → ℕ → Option (RhsTree × ℕ)
new_at ts i = word_at ts (i + 1) >>= λ w. behind ts (i + 2) symbol.LeftParenthesis >>= λ j. behind ts (i + 3) symbol.RightParenthesis >>= λ k. Some (stmt.new w, i + 4)

-- a call is read where a bracket opens behind an expression
unfoldable pub rhs_at : List Token → ℕ → Option (RhsTree × ℕ)
rhs_at ts i =
    choose (is_at ts i symbol.New) (new_at ts i)
    (expression_at ts i >>= λ a. choose (is_at ts a.1 symbol.LeftParenthesis) (call_at ts i >>= λ c. Some (stmt.result_of c.0, c.1)) (Some (stmt.value a.0, a.1)))
