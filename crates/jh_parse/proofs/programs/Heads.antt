-- One turn of the loop that reads what stands before `class`.
use Rattle.std.proofs.Common.{◌≡◌, ℕ, zero, suc, ◌-◌, ◌<◌, List, refl, subst, arith}
use Rattle.std.specs.Prelude.{Option, None, Some, IfSome}
use Rattle.jh_lex.specs.declared.lexer.symbol.Symbol.{Symbol}
use Rattle.jh_lex.specs.declared.lexer.token.Token.{Token}
use Rattle.jh_operators.specs.lookahead.Choices.{and_then, given}
use Rattle.jh_parse.specs.programs.MemberReading.{head_at, heads_at}

before : (k : ℕ) → suc k - 1 ≡ k
before k = omega arith

-- what holds of what is there
pub if_some : (P : ℕ → Type 0) {o : Option ℕ} {j : ℕ} → o ≡ Some j → IfSome o P → P j
if_some P e h = subst (λ o. IfSome o P) e h

module _ (ts : List Token) where
  -- one more stands there
  pub heads-next : (k i j : ℕ) (seen new : List Symbol) → 0 < k → head_at ts seen i ≡ Some (Some (new, j)) → heads_at ts k seen i ≡ heads_at ts (k - 1) new j
  unfolding heads_at and_then given
  heads-next zero i j seen new h e = absurd (omega (arith, h))
  heads-next (suc k) i j seen new h e = rw (e, before k) refl

  -- no more does
  pub heads-all : (k i : ℕ) (seen : List Symbol) → 0 < k → head_at ts seen i ≡ Some None → heads_at ts k seen i ≡ Some i
  unfolding heads_at and_then given
  heads-all zero i seen h e = absurd (omega (arith, h))
  heads-all (suc k) i seen h e = rw e refl

  -- what stands there is refused
  pub heads-none : (k i : ℕ) (seen : List Symbol) → head_at ts seen i ≡ None → heads_at ts k seen i ≡ None
  unfolding heads_at and_then given
  heads-none zero i seen e = refl
  heads-none (suc k) i seen e = rw e refl

  -- there is no turn left
  pub heads-short : (k i : ℕ) (seen : List Symbol) → k ≡ 0 → heads_at ts k seen i ≡ None
  unfolding heads_at
  heads-short zero i seen e = refl
  heads-short (suc k) i seen e = absurd (omega (arith, e))
