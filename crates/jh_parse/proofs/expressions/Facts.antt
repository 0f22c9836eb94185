-- What one token of an expression says of what else may stand there.
use Rattle.std.proofs.Common.{◌≡◌, ℕ, ◌<◌, ◌≤◌, Bool, true, false, List, refl, sym, ◌∙◌, arith}
use Rattle.std.proofs.lemmas.Bool.{false≢true, eqb-true}
use Rattle.std.proofs.lemmas.Option.{none-some}
use Rattle.std.specs.Prelude.{ℤ, Option, None, Some, ◌==◌}
use Rattle.jh_lex.specs.lexer.Numbers.{symbol_number}
use Rattle.jh_lex.specs.declared.lexer.symbol.Symbol.TheVariants as symbol
use Rattle.jh_lex.specs.declared.lexer.token.Token.{Token}
use Rattle.jh_ast.specs.declared.expr.Op.{Op}
use Rattle.jh_ast.specs.Exprs.{ExprTree}
use Rattle.jh_operators.specs.lookahead.Choices.{and_then, choose, given}
use Rattle.jh_operators.specs.lookahead.Standing.{Is, kind_at, is_at, number_at}
use Rattle.jh_operators.proofs.lookahead.Facts.{kinds-apart, other, number-kind}
use Rattle.jh_operators.proofs.lookahead.Options.{Holds, nothing, found, choose_holds, of_found}
use Rattle.jh_parse.specs.expressions.Operators.{infix_at, operator_at, rank_at, constant_at}

-- what doesn't stand where an operator stands
pub record Between (ts : List Token) (i : ℕ) : Type 0 where
  pub dot : is_at ts i symbol.Dot ≡ false
  pub opens : is_at ts i symbol.LeftParenthesis ≡ false
  pub closes : is_at ts i symbol.RightParenthesis ≡ false
  pub comma : is_at ts i symbol.Comma ≡ false
  pub semicolon : is_at ts i symbol.Semicolon ≡ false

between : (ts : List Token) (i m : ℕ) → (kind_at ts i == m) ≡ true → (m == symbol_number symbol.Dot) ≡ false → (m == symbol_number symbol.LeftParenthesis) ≡ false → (m == symbol_number symbol.RightParenthesis) ≡ false
    → (m == symbol_number symbol.Comma) ≡ false → (m == symbol_number symbol.Semicolon) ≡ false → Between ts i
between ts i m e a b c d f = record {
  dot = kinds-apart ts i m _ e a;
  opens = kinds-apart ts i m _ e b;
  closes = kinds-apart ts i m _ e c;
  comma = kinds-apart ts i m _ e d;
  semicolon = kinds-apart ts i m _ e f;
}

infix-between : (ts : List Token) (i : ℕ) → Holds (λ x. Between ts i × (2 ≤ x.0)) (infix_at ts i)
unfolding infix_at
infix-between ts i =
    choose_holds (λ e. found (between ts i (symbol_number symbol.BarBar) e refl refl refl refl refl, omega arith)) (λ _.
    choose_holds (λ e. found (between ts i (symbol_number symbol.AmpersandAmpersand) e refl refl refl refl refl, omega arith)) (λ _.
    choose_holds (λ e. found (between ts i (symbol_number symbol.EqualEqual) e refl refl refl refl refl, omega arith)) (λ _.
    choose_holds (λ e. found (between ts i (symbol_number symbol.BangEqual) e refl refl refl refl refl, omega arith)) (λ _.
    choose_holds (λ e. found (between ts i (symbol_number symbol.Less) e refl refl refl refl refl, omega arith)) (λ _.
    choose_holds (λ e. found (between ts i (symbol_number symbol.LessEqual) e refl refl refl refl refl, omega arith)) (λ _.
    choose_holds (λ e. found (between ts i (symbol_number symbol.Greater) e refl refl refl refl refl, omega arith)) (λ _.
    choose_holds (λ e. found (between ts i (symbol_number symbol.GreaterEqual) e refl refl refl refl refl, omega arith)) (λ _.
    choose_holds (λ e. found (between ts i (symbol_number symbol.Plus) e refl refl refl refl refl, omega arith)) (λ _.
    choose_holds (λ e. found (between ts i (symbol_number symbol.Minus) e refl refl refl refl refl, omega arith)) (λ _.
    choose_holds (λ e. found (between ts i (symbol_number symbol.Star) e refl refl refl refl refl, omega arith)) (λ _.
    nothing)))))))))))

-- the rank of what stands there
rank_by : (ts : List Token) (i : ℕ) (o : Option (ℕ × Op)) → infix_at ts i ≡ o → Holds (λ x. Between ts i × (2 ≤ x.0)) o → Holds (λ x. rank_at ts i ≡ x.0) o
unfolding rank_at choose given
rank_by ts i None e h = nothing
rank_by ts i (Some x) e (found p) = found (rw (p.0.dot, e) refl)

pub infix-rank : (ts : List Token) (i : ℕ) (x : ℕ × Op) → infix_at ts i ≡ Some x → rank_at ts i ≡ x.0
infix-rank ts i x e = of_found (rank_by ts i (infix_at ts i) refl (infix-between ts i)) x e

operator_by : (o : Option (ℕ × Op)) (r : ℕ) (p : Op) → and_then o (λ x. choose (x.0 == r) (Some x.1) None) ≡ Some p → (x : ℕ × Op) × (o ≡ Some x) × (x.0 ≡ r)
unfolding and_then choose
operator_by None r p e = absurd (none-some p e)
operator_by (Some x) r p e = by_test (x.0 == r) refl e where
  by_test : (b : Bool) → (x.0 == r) ≡ b → choose b (Some x.1) None ≡ Some p → (y : ℕ × Op) × (Some x ≡ Some y) × (y.0 ≡ r)
  by_test true t h = (x, refl, eqb-true x.0 r t)
  by_test false t h = absurd (none-some p h)

pub operator-between : (ts : List Token) (r i : ℕ) (p : Op) → operator_at ts r i ≡ Some p → Between ts i × (rank_at ts i ≡ r)
unfolding operator_at
operator-between ts r i p e = let h = operator_by (infix_at ts i) r p e in ((of_found (infix-between ts i) h.0 h.1).0, infix-rank ts i h.0 h.1 ∙ h.2)

-- where something binds more loosely, no operator of that rank stands
pub operator-none : (ts : List Token) (r i : ℕ) → r < rank_at ts i → operator_at ts r i ≡ None
operator-none ts r i h = by_case (operator_at ts r i) refl where
  by_case : (o : Option Op) → operator_at ts r i ≡ o → o ≡ None
  by_case None e = refl
  by_case (Some p) e = absurd (omega (arith, (operator-between ts r i p e).1))

rank_cases : (b : Bool) (o : Option (ℕ × Op)) → 1 < choose b 1 (given o (λ x. x.0) 8) → b ≡ false
unfolding choose given
rank_cases true o k = absurd (omega (arith, k))
rank_cases false o k = refl

pub dot-none : (ts : List Token) (i : ℕ) → 1 < rank_at ts i → is_at ts i symbol.Dot ≡ false
unfolding rank_at
dot-none ts i h = rank_cases (is_at ts i symbol.Dot) (infix_at ts i) h

-- behind the end of an expression stands no operator
loosest : (ts : List Token) (i : ℕ) → is_at ts i symbol.Dot ≡ false → (Between ts i → ⊥) → rank_at ts i ≡ 8
unfolding rank_at choose given
loosest ts i a never = by_case (infix_at ts i) (infix-between ts i) where
  by_case : (o : Option (ℕ × Op)) → Holds (λ x. Between ts i × (2 ≤ x.0)) o → choose (is_at ts i symbol.Dot) 1 (given o (λ x. x.0) 8) ≡ 8
  by_case None h = rw a refl
  by_case (Some x) (found p) = absurd (never p.0)

pub opens-rank : (ts : List Token) (i : ℕ) → Is ts i symbol.LeftParenthesis → rank_at ts i ≡ 8
opens-rank ts i e = loosest ts i (other ts i symbol.LeftParenthesis symbol.Dot e refl) (λ b. false≢true (sym b.opens ∙ e))

pub closes-rank : (ts : List Token) (i : ℕ) → Is ts i symbol.RightParenthesis → rank_at ts i ≡ 8
closes-rank ts i e = loosest ts i (other ts i symbol.RightParenthesis symbol.Dot e refl) (λ b. false≢true (sym b.closes ∙ e))

pub comma-rank : (ts : List Token) (i : ℕ) → Is ts i symbol.Comma → rank_at ts i ≡ 8
comma-rank ts i e = loosest ts i (other ts i symbol.Comma symbol.Dot e refl) (λ b. false≢true (sym b.comma ∙ e))

pub semicolon-rank : (ts : List Token) (i : ℕ) → Is ts i symbol.Semicolon → rank_at ts i ≡ 8
semicolon-rank ts i e = loosest ts i (other ts i symbol.Semicolon symbol.Dot e refl) (λ b. false≢true (sym b.semicolon ∙ e))

-- no token of another kind stands where a constant stands
pub constant-other : (ts : List Token) (i m : ℕ) (a : ExprTree) → (symbol_number symbol.Null == m) ≡ false → (symbol_number symbol.True == m) ≡ false → (symbol_number symbol.False == m) ≡ false → (symbol_number symbol.This == m) ≡ false
    → constant_at ts i ≡ Some a → (kind_at ts i == m) ≡ false
unfolding constant_at
constant-other ts i m a n y f t e = of_found {P = λ b. (kind_at ts i == m) ≡ false} (
    choose_holds (λ s. found (kinds-apart ts i (symbol_number symbol.Null) m s n)) (λ _.
    choose_holds (λ s. found (kinds-apart ts i (symbol_number symbol.True) m s y)) (λ _.
    choose_holds (λ s. found (kinds-apart ts i (symbol_number symbol.False) m s f)) (λ _.
    choose_holds (λ s. found (kinds-apart ts i (symbol_number symbol.This) m s t)) (λ _.
    nothing))))) a e

-- no number is read where no number stands
pub no_number : (ts : List Token) (i : ℕ) → (kind_at ts i == 77) ≡ false → number_at ts i ≡ None
no_number ts i e = by_number (number_at ts i) refl where
  by_number : (o : Option ℤ) → number_at ts i ≡ o → o ≡ None
  by_number None h = refl
  by_number (Some z) h = absurd (false≢true (sym e ∙ number-kind ts i z h))
