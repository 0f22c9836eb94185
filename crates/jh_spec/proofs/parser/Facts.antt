-- What one token of a formula says of what else may stand there.
use Rattle.std.proofs.Common.{◌≡◌, ℕ, ◌<◌, ◌≤◌, Bool, true, false, List, refl, sym, ◌∙◌, arith}
use Rattle.std.proofs.lemmas.Bool.{false≢true, eqb-true}
use Rattle.std.proofs.lemmas.Option.{none-some}
use Rattle.std.specs.Prelude.{Option, None, Some, ◌==◌, ◌||◌}
use Rattle.jh_lex.specs.lexer.Numbers.{symbol_number}
use Rattle.jh_lex.specs.declared.lexer.symbol.Symbol.TheVariants as symbol
use Rattle.jh_lex.specs.declared.lexer.token.Token.{Token}
use Rattle.jh_ast.specs.declared.spec.SpecOp.{SpecOp}
use Rattle.jh_operators.specs.lookahead.Choices.{and_then, choose, given}
use Rattle.jh_operators.specs.lookahead.Standing.{Is, kind_at, is_at, is_quote_close_at}
use Rattle.jh_operators.proofs.lookahead.Facts.{kinds-apart, other}
use Rattle.jh_operators.proofs.lookahead.Options.{Holds, nothing, found, choose_holds, of_found}
use Rattle.jh_spec.specs.parser.Operators.{infix_at, operator_at, rank_at, closes_at}

-- what doesn't stand where an operator stands
pub record Between (ts : List Token) (i : ℕ) : Type 0 where
  pub dots : is_at ts i symbol.DotDot ≡ false
  pub dvd : is_at ts i symbol.Dvd ≡ false
  pub dot : is_at ts i symbol.Dot ≡ false
  pub paren : is_at ts i symbol.RightParenthesis ≡ false
  pub bracket : is_at ts i symbol.RightBracket ≡ false
  pub brace : is_at ts i symbol.RightBrace ≡ false
  pub comma : is_at ts i symbol.Comma ≡ false
  pub quote : is_quote_close_at ts i ≡ false

between : (ts : List Token) (i m : ℕ) → (kind_at ts i == m) ≡ true → (m == symbol_number symbol.DotDot) ≡ false → (m == symbol_number symbol.Dvd) ≡ false → (m == symbol_number symbol.Dot) ≡ false → (m == symbol_number symbol.RightParenthesis) ≡ false
    → (m == symbol_number symbol.RightBracket) ≡ false → (m == symbol_number symbol.RightBrace) ≡ false → (m == symbol_number symbol.Comma) ≡ false → (m == 81) ≡ false → Between ts i
between ts i m e a b o c d f g q = record {
  dots = kinds-apart ts i m _ e a;
  dvd = kinds-apart ts i m _ e b;
  dot = kinds-apart ts i m _ e o;
  paren = kinds-apart ts i m _ e c;
  bracket = kinds-apart ts i m _ e d;
  brace = kinds-apart ts i m _ e f;
  comma = kinds-apart ts i m _ e g;
  quote = kinds-apart ts i m 81 e q;
}

infix-between : (ts : List Token) (i : ℕ) → Holds (λ x. Between ts i × (2 ≤ x.0)) (infix_at ts i)
unfolding infix_at
infix-between ts i =
    choose_holds (λ e. found (between ts i (symbol_number symbol.Arrow) e refl refl refl refl refl refl refl refl, omega arith)) (λ _.
    choose_holds (λ e. found (between ts i (symbol_number symbol.Bar) e refl refl refl refl refl refl refl refl, omega arith)) (λ _.
    choose_holds (λ e. found (between ts i (symbol_number symbol.Ampersand) e refl refl refl refl refl refl refl refl, omega arith)) (λ _.
    choose_holds (λ e. found (between ts i (symbol_number symbol.Equal) e refl refl refl refl refl refl refl refl, omega arith)) (λ _.
    choose_holds (λ e. found (between ts i (symbol_number symbol.TildeEqual) e refl refl refl refl refl refl refl refl, omega arith)) (λ _.
    choose_holds (λ e. found (between ts i (symbol_number symbol.Colon) e refl refl refl refl refl refl refl refl, omega arith)) (λ _.
    choose_holds (λ e. found (between ts i (symbol_number symbol.TildeColon) e refl refl refl refl refl refl refl refl, omega arith)) (λ _.
    choose_holds (λ e. found (between ts i (symbol_number symbol.Less) e refl refl refl refl refl refl refl refl, omega arith)) (λ _.
    choose_holds (λ e. found (between ts i (symbol_number symbol.LessEqual) e refl refl refl refl refl refl refl refl, omega arith)) (λ _.
    choose_holds (λ e. found (between ts i (symbol_number symbol.Greater) e refl refl refl refl refl refl refl refl, omega arith)) (λ _.
    choose_holds (λ e. found (between ts i (symbol_number symbol.GreaterEqual) e refl refl refl refl refl refl refl refl, omega arith)) (λ _.
    choose_holds (λ e. found (between ts i (symbol_number symbol.Union) e refl refl refl refl refl refl refl refl, omega arith)) (λ _.
    choose_holds (λ e. found (between ts i (symbol_number symbol.Plus) e refl refl refl refl refl refl refl refl, omega arith)) (λ _.
    choose_holds (λ e. found (between ts i (symbol_number symbol.Minus) e refl refl refl refl refl refl refl refl, omega arith)) (λ _.
    choose_holds (λ e. found (between ts i (symbol_number symbol.Intersection) e refl refl refl refl refl refl refl refl, omega arith)) (λ _.
    choose_holds (λ e. found (between ts i (symbol_number symbol.Star) e refl refl refl refl refl refl refl refl, omega arith)) (λ _.
    nothing))))))))))))))))

-- the rank of what stands there
rank_by : (ts : List Token) (i : ℕ) (o : Option (ℕ × SpecOp)) → infix_at ts i ≡ o → Holds (λ x. Between ts i × (2 ≤ x.0)) o → Holds (λ x. rank_at ts i ≡ x.0) o
unfolding rank_at choose given
rank_by ts i None e h = nothing
rank_by ts i (Some x) e (found p) = found (rw (p.0.dots, p.0.dvd, e) refl)

pub infix-rank : (ts : List Token) (i : ℕ) (x : ℕ × SpecOp) → infix_at ts i ≡ Some x → rank_at ts i ≡ x.0
infix-rank ts i x e = of_found (rank_by ts i (infix_at ts i) refl (infix-between ts i)) x e

operator_by : (o : Option (ℕ × SpecOp)) (r : ℕ) (p : SpecOp) → and_then o (λ x. choose (x.0 == r) (Some x.1) None) ≡ Some p → (x : ℕ × SpecOp) × (o ≡ Some x) × (x.0 ≡ r)
unfolding and_then choose
operator_by None r p e = absurd (none-some p e)
operator_by (Some x) r p e = by_test (x.0 == r) refl e where
  by_test : (b : Bool) → (x.0 == r) ≡ b → choose b (Some x.1) None ≡ Some p → (y : ℕ × SpecOp) × (Some x ≡ Some y) × (y.0 ≡ r)
  by_test true t h = (x, refl, eqb-true x.0 r t)
  by_test false t h = absurd (none-some p h)

pub operator-between : (ts : List Token) (r i : ℕ) (p : SpecOp) → operator_at ts r i ≡ Some p → Between ts i × (rank_at ts i ≡ r)
unfolding operator_at
operator-between ts r i p e = let h = operator_by (infix_at ts i) r p e in ((of_found (infix-between ts i) h.0 h.1).0, infix-rank ts i h.0 h.1 ∙ h.2)

-- where something binds more loosely, no operator of that rank stands
pub operator-none : (ts : List Token) (r i : ℕ) → r < rank_at ts i → operator_at ts r i ≡ None
operator-none ts r i h = by_case (operator_at ts r i) refl where
  by_case : (o : Option SpecOp) → operator_at ts r i ≡ o → o ≡ None
  by_case None e = refl
  by_case (Some p) e = absurd (omega (arith, (operator-between ts r i p e).1))

rank_cases : (b d : Bool) (o : Option (ℕ × SpecOp)) → Holds (λ x. 2 ≤ x.0) o → (1 < choose b 1 (choose d 4 (given o (λ x. x.0) 8)) → b ≡ false) × (b ≡ false → 1 < choose b 1 (choose d 4 (given o (λ x. x.0) 8))) × (4 < choose b 1 (choose d 4 (given o (λ x. x.0) 8)) → d ≡ false)
unfolding choose given
rank_cases true true o h = (λ k. absurd (omega (arith, k)), λ e. absurd (false≢true (sym e)), λ k. absurd (omega (arith, k)))
rank_cases true false o h = (λ k. absurd (omega (arith, k)), λ e. absurd (false≢true (sym e)), λ k. refl)
rank_cases false true o h = (λ k. refl, λ e. omega arith, λ k. absurd (omega (arith, k)))
rank_cases false false None h = (λ k. refl, λ e. omega arith, λ k. refl)
rank_cases false false (Some x) (found p) = (λ k. refl, λ e. omega (arith, p), λ k. refl)

weaker : {A : Type 0} {P Q : A → Type 0} {o : Option A} → Holds P o → ((x : A) → P x → Q x) → Holds Q o
weaker nothing go = nothing
weaker (found p) go = found (go _ p)

pub dots-none : (ts : List Token) (i : ℕ) → 1 < rank_at ts i → is_at ts i symbol.DotDot ≡ false
unfolding rank_at
dots-none ts i h = (rank_cases (is_at ts i symbol.DotDot) (is_at ts i symbol.Dvd) (infix_at ts i) (weaker (infix-between ts i) (λ x p. p.1))).0 h

pub no_dots-rank : (ts : List Token) (i : ℕ) → is_at ts i symbol.DotDot ≡ false → 1 < rank_at ts i
unfolding rank_at
no_dots-rank ts i h = (rank_cases (is_at ts i symbol.DotDot) (is_at ts i symbol.Dvd) (infix_at ts i) (weaker (infix-between ts i) (λ x p. p.1))).1 h

pub dvd-none : (ts : List Token) (i : ℕ) → 4 < rank_at ts i → is_at ts i symbol.Dvd ≡ false
unfolding rank_at
dvd-none ts i h = (rank_cases (is_at ts i symbol.DotDot) (is_at ts i symbol.Dvd) (infix_at ts i) (weaker (infix-between ts i) (λ x p. p.1))).2 h

-- behind the end of a formula stands no operator
loosest : (ts : List Token) (i : ℕ) → is_at ts i symbol.DotDot ≡ false → is_at ts i symbol.Dvd ≡ false → (Between ts i → ⊥) → rank_at ts i ≡ 8
unfolding rank_at choose given
loosest ts i a b never = by_case (infix_at ts i) (infix-between ts i) where
  by_case : (o : Option (ℕ × SpecOp)) → Holds (λ x. Between ts i × (2 ≤ x.0)) o → choose (is_at ts i symbol.DotDot) 1 (choose (is_at ts i symbol.Dvd) 4 (given o (λ x. x.0) 8)) ≡ 8
  by_case None h = rw (a, b) refl
  by_case (Some x) (found p) = absurd (never p.0)

pub paren-rank : (ts : List Token) (i : ℕ) → Is ts i symbol.RightParenthesis → rank_at ts i ≡ 8
paren-rank ts i e = loosest ts i (other ts i symbol.RightParenthesis symbol.DotDot e refl) (other ts i symbol.RightParenthesis symbol.Dvd e refl) (λ b. false≢true (sym b.paren ∙ e))

pub bracket-rank : (ts : List Token) (i : ℕ) → Is ts i symbol.RightBracket → rank_at ts i ≡ 8
bracket-rank ts i e = loosest ts i (other ts i symbol.RightBracket symbol.DotDot e refl) (other ts i symbol.RightBracket symbol.Dvd e refl) (λ b. false≢true (sym b.bracket ∙ e))

pub brace-rank : (ts : List Token) (i : ℕ) → Is ts i symbol.RightBrace → rank_at ts i ≡ 8
brace-rank ts i e = loosest ts i (other ts i symbol.RightBrace symbol.DotDot e refl) (other ts i symbol.RightBrace symbol.Dvd e refl) (λ b. false≢true (sym b.brace ∙ e))

pub comma-rank : (ts : List Token) (i : ℕ) → Is ts i symbol.Comma → rank_at ts i ≡ 8
comma-rank ts i e = loosest ts i (other ts i symbol.Comma symbol.DotDot e refl) (other ts i symbol.Comma symbol.Dvd e refl) (λ b. false≢true (sym b.comma ∙ e))

pub quote-rank : (ts : List Token) (i : ℕ) → is_quote_close_at ts i ≡ true → rank_at ts i ≡ 8
quote-rank ts i e = loosest ts i (kinds-apart ts i 81 _ e refl) (kinds-apart ts i 81 _ e refl) (λ b. false≢true (sym b.quote ∙ e))

closes_by : (a b c d e : Bool) (P : Type 0) → (a ≡ true → P) → (b ≡ true → P) → (c ≡ true → P) → (d ≡ true → P) → (e ≡ true → P) → (a || b || c || d || e) ≡ true → P
closes_by true b c d e P p q r s t h = p refl
closes_by false true c d e P p q r s t h = q refl
closes_by false false true d e P p q r s t h = r refl
closes_by false false false true e P p q r s t h = s refl
closes_by false false false false e P p q r s t h = t h

pub closes-rank : (ts : List Token) (i : ℕ) → closes_at ts i ≡ true → rank_at ts i ≡ 8
unfolding closes_at
closes-rank ts i h = closes_by _ _ _ _ _ (rank_at ts i ≡ 8) (quote-rank ts i) (paren-rank ts i) (bracket-rank ts i) (brace-rank ts i) (comma-rank ts i) h
