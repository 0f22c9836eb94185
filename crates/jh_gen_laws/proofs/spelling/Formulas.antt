-- The formulas of a made source.
use Rattle.std.proofs.Common.{◌≡◌, ℕ, ◌+◌, List, ◌∷◌, Some, refl, codes, pos}
use Rattle.jh_name.specs.declared.place.Place.{Place}
use Rattle.jh_lex.specs.declared.lexer.symbol.Symbol.TheVariants as symbol
use Rattle.jh_lex.specs.declared.lexer.token.Token.{Token}
use Rattle.jh_lex.specs.declared.lexer.token.TokenKind.{TokenKind}
use Rattle.jh_lex.specs.declared.lexer.token.TokenKind.TheVariants as kind
use Rattle.jh_ast.specs.declared.spec.SpecOp.TheVariants as op
use Rattle.jh_ast.specs.Forms.{FormTree, SpecPart}
use Rattle.jh_ast.specs.Forms as form
use Rattle.jh_operators.specs.lookahead.Choices.{and_then, choose}
use Rattle.jh_operators.specs.lookahead.Standing.{place_at}
use Rattle.jh_spec.specs.parser.Operators.{infix_at, operator_at, constant_at}
use Rattle.jh_spec.specs.parser.Formulas.{Operand, plain, Right, compared, tighter, joined, both, Left, prefix, chain, ended, Prefix, old, postfix, reads, Atom, name, number, constant, done, more}
use Rattle.jh_spec.specs.parser.Parts.{Quoted, quoted}
use Rattle.jh_gen_laws.specs.typing.Trees as trees
use Rattle.jh_gen_laws.proofs.spelling.Standing.{At, spelled, token-at, next, next2, is, quote-open, quote-close, name-is, pair-is, number-is}

module _ {ts : List Token} where
  -- ---- operators
  and-at : {i : ℕ} {ks : List TokenKind} → At ts i (kind.Symbol symbol.Ampersand ∷ ks) → operator_at ts 5 i ≡ Some op.And
  unfolding operator_at infix_at and_then choose
  and-at a = rw (token-at a) refl

  equal-at : {i : ℕ} {ks : List TokenKind} → At ts i (kind.Symbol symbol.Equal ∷ ks) → operator_at ts 4 i ≡ Some op.Equal
  unfolding operator_at infix_at and_then choose
  equal-at a = rw (token-at a) refl

  differ-at : {i : ℕ} {ks : List TokenKind} → At ts i (kind.Symbol symbol.TildeEqual ∷ ks) → operator_at ts 4 i ≡ Some op.NotEqual
  unfolding operator_at infix_at and_then choose
  differ-at a = rw (token-at a) refl

  at-most-at : {i : ℕ} {ks : List TokenKind} → At ts i (kind.Symbol symbol.LessEqual ∷ ks) → operator_at ts 4 i ≡ Some op.LessEq
  unfolding operator_at infix_at and_then choose
  at-most-at a = rw (token-at a) refl

  -- ---- operands
  operand : {i j : ℕ} {a : FormTree} → Prefix ts i a j → Left ts 2 i a j
  operand x = chain (chain (prefix x) ended) ended

  alone : {i j : ℕ} {a : FormTree} → Atom ts i a j → Prefix ts i a j
  alone x = postfix (reads x done)

  named : {i : ℕ} {t : List ℕ} {ks : List TokenKind} → At ts i (spelled t ∷ ks) → Prefix ts i (trees.named (place_at ts i) t) (i + 1)
  named a = alone (name (name-is a))

  numeral : {i n : ℕ} {ks : List TokenKind} → At ts i (kind.Number (pos n) ∷ ks) → Prefix ts i (form.number (place_at ts i) (pos n)) (i + 1)
  numeral a = alone (number (number-is a))

  null : {i : ℕ} {ks : List TokenKind} → At ts i (kind.Symbol symbol.Null ∷ ks) → Prefix ts i (form.null (place_at ts i)) (i + 1)
  unfolding constant_at choose
  null a = alone (constant (rw (token-at a) refl))

  -- a formula of comparisons joined by `&`
  whole : {i j : ℕ} {a : FormTree} → Right ts 1 i a j → Operand ts 3 i a j
  whole x = plain (tighter (tighter x))

  -- ---- the formulas, each with what stands behind it
  pub swap-post : (n : ℕ) {i : ℕ} (rest : List TokenKind)
      → At ts i (kind.QuoteOpen ∷ spelled (codes "a") ∷ kind.Symbol symbol.Equal ∷ kind.Symbol symbol.Old ∷ spelled (codes "b") ∷ kind.Symbol symbol.Ampersand ∷ spelled (codes "b") ∷ kind.Symbol symbol.Equal ∷ kind.Symbol symbol.Old ∷ spelled (codes "a") ∷ kind.QuoteClose ∷ rest)
      → (q1 q2 q3 q4 q5 q6 : Place) × (j : ℕ) × Quoted ts n i (trees.formula (place_at ts i) n (trees.swap_post q1 q2 q3 q4 q5 q6)) j × At ts j rest
  swap-post n rest a0 =
      let a1 = next a0 in
      let a2 = next a1 in
      let a3 = next a2 in
      let a4 = next a3 in
      let a5 = next a4 in
      let a6 = next a5 in
      let a7 = next a6 in
      let a8 = next a7 in
      let a9 = next a8 in
      let a10 = next a9 in
      let left = both (operand (named a1)) (equal-at a2) (operand (old (is a3) (named a4))) in
      let right = both (operand (named a6)) (equal-at a7) (operand (old (is a8) (named a9))) in
      let all = whole (joined (compared left) (and-at a5) (plain (tighter (compared right)))) in
      (_, _, _, _, _, _, _, quoted (quote-open a0) (record { formula = all; quote = quote-close a10 }), next a10)

  pub at-most : (n k : ℕ) {i : ℕ} (rest : List TokenKind)
      → At ts i (kind.QuoteOpen ∷ kind.Number (pos k) ∷ kind.Symbol symbol.LessEqual ∷ spelled (codes "n") ∷ kind.QuoteClose ∷ rest)
      → (q1 q2 : Place) × (j : ℕ) × Quoted ts n i (trees.formula (place_at ts i) n (trees.at_most q1 k q2)) j × At ts j rest
  at-most n k rest a0 =
      let a1 = next a0 in
      let a2 = next a1 in
      let a3 = next a2 in
      let a4 = next a3 in
      let all = whole (tighter (compared (both (operand (numeral a1)) (at-most-at a2) (operand (named a3))))) in
      (_, _, _, quoted (quote-open a0) (record { formula = all; quote = quote-close a4 }), next a4)

  pub cells-pre : (n : ℕ) {i : ℕ} (rest : List TokenKind)
      → At ts i (kind.QuoteOpen ∷ spelled (codes "p") ∷ kind.Symbol symbol.TildeEqual ∷ kind.Symbol symbol.Null ∷ kind.Symbol symbol.Ampersand ∷ spelled (codes "q") ∷ kind.Symbol symbol.TildeEqual ∷ kind.Symbol symbol.Null
      ∷ kind.Symbol symbol.Ampersand ∷ spelled (codes "p") ∷ kind.Symbol symbol.TildeEqual ∷ spelled (codes "q") ∷ kind.QuoteClose ∷ rest)
      → (q1 q2 q3 q4 q5 q6 : Place) × (j : ℕ) × Quoted ts n i (trees.formula (place_at ts i) n (trees.cells_pre q1 q2 q3 q4 q5 q6)) j × At ts j rest
  cells-pre n rest a0 =
      let a1 = next a0 in
      let a2 = next a1 in
      let a3 = next a2 in
      let a4 = next a3 in
      let a5 = next a4 in
      let a6 = next a5 in
      let a7 = next a6 in
      let a8 = next a7 in
      let a9 = next a8 in
      let a10 = next a9 in
      let a11 = next a10 in
      let a12 = next a11 in
      let one = both (operand (named a1)) (differ-at a2) (operand (null a3)) in
      let two = both (operand (named a5)) (differ-at a6) (operand (null a7)) in
      let three = both (operand (named a9)) (differ-at a10) (operand (named a11)) in
      let all = whole (joined (compared one) (and-at a4) (plain (joined (compared two) (and-at a8) (plain (tighter (compared three)))))) in
      (_, _, _, _, _, _, _, quoted (quote-open a0) (record { formula = all; quote = quote-close a12 }), next a12)

  -- the field of a cell
  cell-field : {i : ℕ} {t u : List ℕ} {ks : List TokenKind} → At ts i (spelled t ∷ kind.Symbol symbol.DotDot ∷ kind.Qualified (record { text = u; turn = 0 }) ∷ ks) → Prefix ts i (trees.field_of (trees.named (place_at ts i) t) (place_at ts (i + 1 + 1)) u) (i + 1 + 2)
  cell-field a = postfix (reads (name (name-is a)) (more (is (next a)) (pair-is (next (next a))) done))

  pub cells-post : (n k : ℕ) {i : ℕ} (rest : List TokenKind)
      → At ts i (kind.QuoteOpen ∷ spelled (codes "p") ∷ kind.Symbol symbol.DotDot ∷ kind.Qualified (record { text = codes "Cell.f"; turn = 0 }) ∷ kind.Symbol symbol.Equal ∷ kind.Number (pos k) ∷ kind.Symbol symbol.Ampersand
      ∷ spelled (codes "q") ∷ kind.Symbol symbol.DotDot ∷ kind.Qualified (record { text = codes "Cell.f"; turn = 0 }) ∷ kind.Symbol symbol.Equal ∷ kind.Number (pos 2) ∷ kind.QuoteClose ∷ rest)
      → (q1 q2 q3 q4 q5 q6 : Place) × (j : ℕ) × Quoted ts n i (trees.formula (place_at ts i) n (trees.cells_post q1 q2 q3 q4 q5 q6 k)) j × At ts j rest
  cells-post n k rest a0 =
      let a1 = next a0 in
      let a4 = next2 (next a1) in
      let a5 = next a4 in
      let a6 = next a5 in
      let a7 = next a6 in
      let a10 = next2 (next a7) in
      let a11 = next a10 in
      let a12 = next a11 in
      let one = both (operand (cell-field a1)) (equal-at a4) (operand (numeral a5)) in
      let two = both (operand (cell-field a7)) (equal-at a10) (operand (numeral a11)) in
      let all = whole (joined (compared one) (and-at a6) (plain (tighter (compared two)))) in
      (_, _, _, _, _, _, _, quoted (quote-open a0) (record { formula = all; quote = quote-close a12 }), next a12)
