-- The readers one level down, and one turn of the reader of dots.
use Rattle.std.proofs.Common.{◌≡◌, ℕ, zero, suc, ◌+◌, ◌-◌, ◌<◌, List, refl, ap, sym, arith}
use Rattle.std.specs.Prelude.{Option, None, Some}
use Rattle.jh_lex.specs.declared.lexer.symbol.Symbol.TheVariants as symbol
use Rattle.jh_lex.specs.declared.lexer.token.Token.{Token}
use Rattle.jh_ast.specs.declared.word.Word.{Word}
use Rattle.jh_ast.specs.Exprs.{ExprTree}
use Rattle.jh_operators.specs.lookahead.Choices.{and_then, choose}
use Rattle.jh_operators.specs.lookahead.Standing.{is_at, word_at}
use Rattle.jh_parse.specs.expressions.Reading.{Inside, inside, level_of, unary_of, chain_of, with_last, dots_at}

before : (k : ℕ) → suc k - 1 ≡ k
before k = omega arith

pub level-in : (ts : List Token) (k n i : ℕ) → 0 < k → (inside ts k).level n i ≡ level_of ts (inside ts (k - 1)) n i
unfolding inside
level-in ts zero n i h = absurd (omega arith)
level-in ts (suc k) n i h = ap (λ m. level_of ts (inside ts m) n i) (sym (before k))

pub level-none : (ts : List Token) (n i : ℕ) → (inside ts 0).level n i ≡ None
unfolding inside
level-none ts n i = refl

pub unary-in : (ts : List Token) (k i : ℕ) → 0 < k → (inside ts k).unary i ≡ unary_of ts (inside ts (k - 1)) i
unfolding inside
unary-in ts zero i h = absurd (omega arith)
unary-in ts (suc k) i h = ap (λ m. unary_of ts (inside ts m) i) (sym (before k))

pub unary-none : (ts : List Token) (i : ℕ) → (inside ts 0).unary i ≡ None
unfolding inside
unary-none ts i = refl

pub chain-in : (ts : List Token) (k n : ℕ) (a : ExprTree) (i : ℕ) → 0 < k → (inside ts k).chain n a i ≡ chain_of ts (inside ts (k - 1)) n a i
unfolding inside
chain-in ts zero n a i h = absurd (omega arith)
chain-in ts (suc k) n a i h = ap (λ m. chain_of ts (inside ts m) n a i) (sym (before k))

pub chain-none : (ts : List Token) (n : ℕ) (a : ExprTree) (i : ℕ) → (inside ts 0).chain n a i ≡ None
unfolding inside
chain-none ts n a i = refl

pub level-below : (ts : List Token) (ins : Inside) (n i : ℕ) → 0 < n → level_of ts ins n i ≡ and_then (level_of ts ins (n - 1) i) (λ a. chain_of ts ins (n - 1) a.0 a.1)
unfolding level_of chain_of
level-below ts ins zero i h = absurd (omega arith)
level-below ts ins (suc n) i h = ap (λ m. and_then (level_of ts ins m i) (λ a. chain_of ts ins m a.0 a.1)) (sym (before n))

pub dots-turn : (ts : List Token) (k : ℕ) (a : ExprTree) (last : Option Word) (i : ℕ) → 0 < k → dots_at ts k a last i ≡ choose (is_at ts i symbol.Dot) (and_then (word_at ts (i + 1)) (λ w. dots_at ts (k - 1) (with_last a last) (Some w) (i + 2))) (Some (a, last, i))
unfolding dots_at
dots-turn ts zero a last i h = absurd (omega arith)
dots-turn ts (suc k) a last i h = ap (λ m. choose (is_at ts i symbol.Dot) (and_then (word_at ts (i + 1)) (λ w. dots_at ts m (with_last a last) (Some w) (i + 2))) (Some (a, last, i))) (sym (before k))

pub ruleset level_steps = (level-in, level-none, unary-in, unary-none, chain-in, chain-none, level-below, dots-turn)
