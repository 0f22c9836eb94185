-- What is spelled ends behind its beginning.
use Rattle.std.proofs.Common.{ℕ, ◌<◌, ◌≤◌, List, arith}
use Rattle.jh_lex.specs.declared.lexer.token.Token.{Token}
use Rattle.jh_ast.specs.Exprs.{ExprTree}
use Rattle.jh_ast.specs.Stmts.{RhsTree, CallTree}
use Rattle.jh_parse.specs.expressions.Expressions.{Dots, Level, Chain, Unary, Postfix, Primary, Listed, Arguments, Call, Target, Rhs}
use Rattle.jh_parse.specs.expressions.Expressions as grammar

module _ (ts : List Token) where
  pub dots-end : {i j : ℕ} {a t : ExprTree} → Dots ts a i t j → i ≤ j
  dots-end grammar.done = omega arith
  dots-end (grammar.more d e p) = omega (arith, dots-end p)

  mutual
    pub level-end : {n i j : ℕ} {t : ExprTree} → Level ts n i t j → i < j
    level-end (grammar.unary p) = unary-end p
    level-end (grammar.chain p c) = omega (arith, level-end p, chain-end c)

    pub chain-end : {n i j : ℕ} {a t : ExprTree} → Chain ts n a i t j → i ≤ j
    chain-end grammar.ended = omega arith
    chain-end (grammar.once s e p) = omega (arith, level-end p)
    chain-end (grammar.extended s e p c) = omega (arith, level-end p, chain-end c)

    pub unary-end : {i j : ℕ} {t : ExprTree} → Unary ts i t j → i < j
    unary-end (grammar.negated s p) = omega (arith, unary-end p)
    unary-end (grammar.minus s p) = omega (arith, unary-end p)
    unary-end (grammar.postfix p) = postfix-end p

    pub postfix-end : {i j : ℕ} {t : ExprTree} → Postfix ts i t j → i < j
    postfix-end (grammar.reads p d) = omega (arith, primary-end p, dots-end d)

    pub primary-end : {i j : ℕ} {t : ExprTree} → Primary ts i t j → i < j
    primary-end (grammar.constant e) = omega arith
    primary-end (grammar.number e) = omega arith
    primary-end (grammar.name e) = omega arith
    primary-end (grammar.bracket o p c) = omega (arith, level-end p)

  pub listed-end : {i j : ℕ} {xs : List ExprTree} → Listed ts i xs j → i < j
  listed-end (grammar.last p) = level-end p
  listed-end (grammar.further p c q) = omega (arith, level-end p, listed-end q)

  pub arguments-end : {i j : ℕ} {xs : List ExprTree} → Arguments ts i xs j → i < j
  arguments-end (grammar.no_arguments o c) = omega arith
  arguments-end (grammar.arguments o p c) = omega (arith, listed-end p)

  pub call-end : {i j : ℕ} {c : CallTree} → Call ts i c j → i < j
  call-end (grammar.of_method e p) = omega (arith, arguments-end p)
  call-end (grammar.on_receiver p d e q) = omega (arith, postfix-end p, arguments-end q)

  pub target-end : {i j : ℕ} {t : ExprTree} → Target ts i t j → i < j
  target-end (grammar.of_name e) = omega arith
  target-end (grammar.of_member p d e) = omega (arith, postfix-end p)

  pub rhs-end : {i j : ℕ} {r : RhsTree} → Rhs ts i r j → i < j
  rhs-end (grammar.of_value p) = level-end p
  rhs-end (grammar.of_call p) = call-end p
  rhs-end (grammar.of_new s w o c) = omega arith
