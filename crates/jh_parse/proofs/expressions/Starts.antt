-- With which tokens expressions begin.
use Rattle.std.proofs.Common.{◌≡◌, ℕ, ◌+◌, true, false, List, refl, ap, sym, ◌∙◌}
use Rattle.std.proofs.lemmas.Bool.{false≢true}
use Rattle.std.specs.Prelude.{◌==◌}
use Rattle.jh_lex.specs.lexer.Numbers.{symbol_number}
use Rattle.jh_lex.specs.declared.lexer.symbol.Symbol.TheVariants as symbol
use Rattle.jh_lex.specs.declared.lexer.token.Token.{Token}
use Rattle.jh_ast.specs.Exprs.{ExprTree}
use Rattle.jh_ast.specs.Stmts.{CallTree}
use Rattle.jh_operators.specs.lookahead.Standing.{Is, kind_at, is_at, is_plain_word_at}
use Rattle.jh_operators.proofs.lookahead.Facts.{kinds-apart, word-other, number-other}
use Rattle.jh_parse.specs.expressions.Expressions.{Dots, Level, Unary, Postfix, Primary, Listed, Call, Target, Rhs}
use Rattle.jh_parse.specs.expressions.Expressions as grammar
use Rattle.jh_parse.proofs.expressions.Facts.{constant-other}

-- the number of a kind of token with which no expression begins
pub record NoStart (m : ℕ) : Type 0 where
  pub word : (75 == m) ≡ false
  pub number : (77 == m) ≡ false
  pub null : (symbol_number symbol.Null == m) ≡ false
  pub yes : (symbol_number symbol.True == m) ≡ false
  pub no : (symbol_number symbol.False == m) ≡ false
  pub this : (symbol_number symbol.This == m) ≡ false
  pub opens : (symbol_number symbol.LeftParenthesis == m) ≡ false
  pub bang : (symbol_number symbol.Bang == m) ≡ false
  pub minus : (symbol_number symbol.Minus == m) ≡ false

-- likewise one with which no primary begins
pub record NoPrimary (m : ℕ) : Type 0 where
  pub word : (75 == m) ≡ false
  pub number : (77 == m) ≡ false
  pub null : (symbol_number symbol.Null == m) ≡ false
  pub yes : (symbol_number symbol.True == m) ≡ false
  pub no : (symbol_number symbol.False == m) ≡ false
  pub this : (symbol_number symbol.This == m) ≡ false
  pub opens : (symbol_number symbol.LeftParenthesis == m) ≡ false

pub no_start : (m : ℕ) → (75 == m) ≡ false → (77 == m) ≡ false → (symbol_number symbol.Null == m) ≡ false → (symbol_number symbol.True == m) ≡ false → (symbol_number symbol.False == m) ≡ false → (symbol_number symbol.This == m) ≡ false
    → (symbol_number symbol.LeftParenthesis == m) ≡ false → (symbol_number symbol.Bang == m) ≡ false → (symbol_number symbol.Minus == m) ≡ false → NoStart m
no_start m a b c d e f g h k = record { word = a; number = b; null = c; yes = d; no = e; this = f; opens = g; bang = h; minus = k }

pub no_primary : (m : ℕ) → (75 == m) ≡ false → (77 == m) ≡ false → (symbol_number symbol.Null == m) ≡ false → (symbol_number symbol.True == m) ≡ false → (symbol_number symbol.False == m) ≡ false → (symbol_number symbol.This == m) ≡ false
    → (symbol_number symbol.LeftParenthesis == m) ≡ false → NoPrimary m
no_primary m a b c d e f g = record { word = a; number = b; null = c; yes = d; no = e; this = f; opens = g }

pub as_primary : {m : ℕ} → NoStart m → NoPrimary m
as_primary s = record { word = s.word; number = s.number; null = s.null; yes = s.yes; no = s.no; this = s.this; opens = s.opens }

module _ (ts : List Token) where
  module _ (m : ℕ) where
    pub primary-start : {i j : ℕ} {t : ExprTree} → NoPrimary m → Primary ts i t j → (kind_at ts i == m) ≡ false
    primary-start {i = i} s (grammar.constant {a = a} e) = constant-other ts i m a s.null s.yes s.no s.this e
    primary-start {i = i} s (grammar.number {z = z} e) = number-other ts i m z e s.number
    primary-start {i = i} s (grammar.name {w = w} e) = word-other ts i m w e s.word
    primary-start {i = i} s (grammar.bracket o p c) = kinds-apart ts i (symbol_number symbol.LeftParenthesis) m o s.opens

    pub postfix-start : {i j : ℕ} {t : ExprTree} → NoPrimary m → Postfix ts i t j → (kind_at ts i == m) ≡ false
    postfix-start s (grammar.reads p d) = primary-start s p

    pub unary-start : {i j : ℕ} {t : ExprTree} → NoStart m → Unary ts i t j → (kind_at ts i == m) ≡ false
    unary-start {i = i} s (grammar.negated b p) = kinds-apart ts i (symbol_number symbol.Bang) m b s.bang
    unary-start {i = i} s (grammar.minus b p) = kinds-apart ts i (symbol_number symbol.Minus) m b s.minus
    unary-start s (grammar.postfix p) = postfix-start (as_primary s) p

    pub level-start : {n i j : ℕ} {t : ExprTree} → NoStart m → Level ts n i t j → (kind_at ts i == m) ≡ false
    level-start s (grammar.unary p) = unary-start s p
    level-start s (grammar.chain p c) = level-start s p

    pub listed-start : {i j : ℕ} {xs : List ExprTree} → NoStart m → Listed ts i xs j → (kind_at ts i == m) ≡ false
    listed-start s (grammar.last p) = level-start s p
    listed-start s (grammar.further p c q) = level-start s p

    pub call-start : {i j : ℕ} {c : CallTree} → NoPrimary m → Call ts i c j → (kind_at ts i == m) ≡ false
    call-start {i = i} s (grammar.of_method {w = w} e p) = word-other ts i m w e s.word
    call-start s (grammar.on_receiver p d e q) = postfix-start s p

    pub target-start : {i j : ℕ} {t : ExprTree} → NoPrimary m → Target ts i t j → (kind_at ts i == m) ≡ false
    target-start {i = i} s (grammar.of_name {w = w} e) = word-other ts i m w e s.word
    target-start s (grammar.of_member p d e) = postfix-start s p

  -- a word without a dot after it is all of what is spelled there
  primary-word : {i j : ℕ} {t : ExprTree} → is_plain_word_at ts i ≡ true → Primary ts i t j → j ≡ i + 1
  primary-word e (grammar.constant f) = refl
  primary-word e (grammar.number f) = refl
  primary-word e (grammar.name f) = refl
  primary-word {i = i} e (grammar.bracket o p c) = absurd (false≢true (sym (kinds-apart ts i 75 (symbol_number symbol.LeftParenthesis) e refl) ∙ o))

  dots-word : (i : ℕ) {m j : ℕ} {a t : ExprTree} → is_at ts (i + 1) symbol.Dot ≡ false → m ≡ i + 1 → Dots ts a m t j → j ≡ i + 1
  dots-word i n e grammar.done = e
  dots-word i n e (grammar.more d w p) = absurd (false≢true (sym n ∙ ap (λ k. is_at ts k symbol.Dot) (sym e) ∙ d))

  pub postfix-word : {i j : ℕ} {t : ExprTree} → is_plain_word_at ts i ≡ true → is_at ts (i + 1) symbol.Dot ≡ false → Postfix ts i t j → j ≡ i + 1
  postfix-word e n (grammar.reads p d) = dots-word _ n (primary-word e p) d

  -- behind a word with which a read begins stands its dot
  pub dot-behind : {i j : ℕ} {t : ExprTree} → is_plain_word_at ts i ≡ true → Postfix ts i t j → Is ts j symbol.Dot → Is ts (i + 1) symbol.Dot
  dot-behind {i = i} {j = j} e p d = by_test (is_at ts (i + 1) symbol.Dot) refl where
    by_test : (b : _) → is_at ts (i + 1) symbol.Dot ≡ b → b ≡ true
    by_test true h = refl
    by_test false h = absurd (false≢true (sym h ∙ ap (λ k. is_at ts k symbol.Dot) (sym (postfix-word e h p)) ∙ d))
