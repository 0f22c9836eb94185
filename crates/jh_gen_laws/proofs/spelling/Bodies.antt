-- The bodies of the methods of a made source.
use Rattle.std.proofs.Common.{◌≡◌, ℕ, ◌+◌, List, ◌∷◌, Some, refl, codes, pos}
use Rattle.jh_name.specs.declared.place.Place.{Place}
use Rattle.jh_lex.specs.declared.lexer.symbol.Symbol.TheVariants as symbol
use Rattle.jh_lex.specs.declared.lexer.token.Token.{Token}
use Rattle.jh_lex.specs.declared.lexer.token.TokenKind.{TokenKind}
use Rattle.jh_lex.specs.declared.lexer.token.TokenKind.TheVariants as kind
use Rattle.jh_ast.specs.declared.expr.Op.TheVariants as op
use Rattle.jh_ast.specs.Exprs.{ExprTree}
use Rattle.jh_ast.specs.Exprs as expr
use Rattle.jh_operators.specs.lookahead.Choices.{and_then, choose}
use Rattle.jh_operators.specs.lookahead.Standing.{place_at}
use Rattle.jh_obligations.specs.jh_parse.expressions.Operators.{infix_at, operator_at}
use Rattle.jh_obligations.specs.jh_parse.expressions.Expressions.{Level, unary, chain, ended, extended, postfix, Postfix, reads, name, number, done, Expression, of_name, of_member, of_value}
use Rattle.jh_obligations.specs.jh_parse.statements.Statements.{of_class, with, Body, body, none, more, one, Statement, declared, assigned}
use Rattle.jh_gen_laws.specs.typing.Trees as trees
use Rattle.jh_gen_laws.proofs.spelling.Standing.{At, spelled, token-at, next, next2, is, word-is, number-is}

module _ {ts : List Token} where
  plus-at : {i : ℕ} {ks : List TokenKind} → At ts i (kind.Symbol symbol.Plus ∷ ks) → operator_at ts 3 i ≡ Some op.Add
  unfolding operator_at infix_at and_then choose
  plus-at a = rw (token-at a) refl

  named : {i : ℕ} {t : List ℕ} {ks : List TokenKind} → At ts i (spelled t ∷ ks) → Postfix ts i (trees.value (place_at ts i) t) (i + 1)
  named a = reads (name (word-is a)) done

  numeral : {i n : ℕ} {ks : List TokenKind} → At ts i (kind.Number (pos n) ∷ ks) → Postfix ts i (expr.number (place_at ts i) (pos n)) (i + 1)
  numeral a = reads (number (number-is a)) done

  -- an operand of a sum
  operand : {i j : ℕ} {a : ExprTree} → Postfix ts i a j → Level ts 1 i a j
  operand x = chain (unary (postfix x)) ended

  -- a sum as an expression
  whole : {i j : ℕ} {a : ExprTree} → Level ts 2 i a j → Expression ts i a j
  whole x = chain (chain (chain (chain x ended) ended) ended) ended

  alone : {i j : ℕ} {a : ExprTree} → Postfix ts i a j → Expression ts i a j
  alone x = whole (chain (operand x) ended)

  -- a name is assigned to a name
  exchange : (n : ℕ) {i : ℕ} {t u : List ℕ} {ks : List TokenKind} → At ts i (spelled t ∷ kind.Symbol symbol.Equal ∷ spelled u ∷ kind.Symbol symbol.Semicolon ∷ ks) → Statement ts n i (trees.set (trees.value (place_at ts i) t) (trees.value (place_at ts (i + 1 + 1)) u)) (i + 1 + 1 + 1 + 1) n
  exchange n a0 =
      let a1 = next a0 in
      let a2 = next a1 in
      let a3 = next a2 in
      assigned (of_name (word-is a0)) (is a1) (of_value (alone (named a2))) (is a3)

  pub swap-body : (n : ℕ) {i : ℕ} (rest : List TokenKind)
      → At ts i (kind.Symbol symbol.LeftBrace ∷ spelled (codes "Object") ∷ spelled (codes "t") ∷ kind.Symbol symbol.Equal ∷ spelled (codes "a") ∷ kind.Symbol symbol.Semicolon
      ∷ spelled (codes "a") ∷ kind.Symbol symbol.Equal ∷ spelled (codes "b") ∷ kind.Symbol symbol.Semicolon ∷ spelled (codes "b") ∷ kind.Symbol symbol.Equal ∷ spelled (codes "t") ∷ kind.Symbol symbol.Semicolon ∷ kind.Symbol symbol.RightBrace ∷ rest)
      → (q1 q2 q3 q4 q5 q6 q7 : Place) × (j : ℕ) × Body ts n i (trees.swap_body q1 q2 q3 q4 q5 q6 q7) j n × At ts (j + 1) rest
  swap-body n rest a0 =
      let a1 = next a0 in
      let a2 = next a1 in
      let a3 = next a2 in
      let a4 = next a3 in
      let a5 = next a4 in
      let a6 = next a5 in
      let b = next (next (next (next a6))) in
      let c = next (next (next (next b))) in
      let first = declared (of_class (word-is a1)) (word-is a2) (with (is a3) (of_value (alone (named a4)))) (is a5) in
      (_, _, _, _, _, _, _, _, body (is a0) (more (one first) (more (one (exchange n a6)) (more (one (exchange n b)) none))) (is c), next c)

  pub sum-body : (n k : ℕ) {i : ℕ} (rest : List TokenKind)
      → At ts i (kind.Symbol symbol.LeftBrace ∷ spelled (codes "n") ∷ kind.Symbol symbol.Equal ∷ spelled (codes "n") ∷ kind.Symbol symbol.Plus ∷ kind.Number (pos k) ∷ kind.Symbol symbol.Semicolon ∷ kind.Symbol symbol.RightBrace ∷ rest)
      → (q1 q2 q3 : Place) × (j : ℕ) × Body ts n i (trees.sum_body q1 q2 q3 k) j n × At ts (j + 1) rest
  sum-body n k rest a0 =
      let a1 = next a0 in
      let a2 = next a1 in
      let a3 = next a2 in
      let a4 = next a3 in
      let a5 = next a4 in
      let a6 = next a5 in
      let a7 = next a6 in
      let sum = whole (chain (operand (named a3)) (extended refl (plus-at a4) (operand (numeral a5)) ended)) in
      (_, _, _, _, body (is a0) (more (one (assigned (of_name (word-is a1)) (is a2) (of_value sum) (is a6))) none) (is a7), next a7)

  -- a number is assigned to the field of a cell
  write : (n k : ℕ) {i : ℕ} {t u : List ℕ} {ks : List TokenKind} → At ts i (spelled t ∷ kind.Symbol symbol.Dot ∷ spelled u ∷ kind.Symbol symbol.Equal ∷ kind.Number (pos k) ∷ kind.Symbol symbol.Semicolon ∷ ks)
      → (q1 q2 : Place) × Statement ts n i (trees.set (trees.member (trees.value (place_at ts i) t) q1 u) (expr.number q2 (pos k))) (i + 1 + 2 + 1 + 1 + 1) n
  write n k a0 =
      let a1 = next a0 in
      let a2 = next a1 in
      let a3 = next2 a1 in
      let a4 = next a3 in
      let a5 = next a4 in
      (_, _, assigned (of_member (named a0) (is a1) (word-is a2)) (is a3) (of_value (alone (numeral a4))) (is a5))

  behind-write : {i : ℕ} {a b c d e f : TokenKind} {ks : List TokenKind} → At ts i (a ∷ b ∷ c ∷ d ∷ e ∷ f ∷ ks) → At ts (i + 1 + 2 + 1 + 1 + 1) ks
  behind-write a0 = next (next (next (next2 (next a0))))

  pub cells-body : (n k : ℕ) {i : ℕ} (rest : List TokenKind)
      → At ts i (kind.Symbol symbol.LeftBrace ∷ spelled (codes "p") ∷ kind.Symbol symbol.Dot ∷ spelled (codes "f") ∷ kind.Symbol symbol.Equal ∷ kind.Number (pos k) ∷ kind.Symbol symbol.Semicolon
      ∷ spelled (codes "q") ∷ kind.Symbol symbol.Dot ∷ spelled (codes "f") ∷ kind.Symbol symbol.Equal ∷ kind.Number (pos 2) ∷ kind.Symbol symbol.Semicolon ∷ kind.Symbol symbol.RightBrace ∷ rest)
      → (q1 q2 q3 q4 q5 q6 : Place) × (j : ℕ) × Body ts n i (trees.cells_body q1 q2 q3 q4 q5 q6 k) j n × At ts (j + 1) rest
  cells-body n k rest a0 =
      let a1 = next a0 in
      let b = behind-write a1 in
      let c = behind-write b in
      let x = write n k a1 in
      let y = write n 2 b in
      (_, _, _, _, _, _, _, body (is a0) (more (one x.2) (more (one y.2) none)) (is c), next c)
