-- With which tokens statements begin.
use Rattle.std.proofs.Common.{◌≡◌, ℕ, ◌+◌, false, true, List, refl}
use Rattle.std.specs.Prelude.{◌==◌}
use Rattle.jh_lex.specs.lexer.Numbers.{symbol_number}
use Rattle.jh_lex.specs.declared.lexer.symbol.Symbol.TheVariants as symbol
use Rattle.jh_lex.specs.declared.lexer.token.Token.{Token}
use Rattle.jh_ast.specs.declared.word.JType.{JType}
use Rattle.jh_ast.specs.Exprs.{ExprTree}
use Rattle.jh_ast.specs.Stmts.{StmtTree, CallTree}
use Rattle.jh_operators.specs.lookahead.Standing.{Is, kind_at, is_plain_word_at}
use Rattle.jh_operators.proofs.lookahead.Facts.{kinds-apart, word-other}
use Rattle.jh_parse.specs.expressions.Expressions.{Arguments, Call, Target}
use Rattle.jh_parse.specs.expressions.Expressions as code
use Rattle.jh_parse.proofs.expressions.Complete.{arguments-open}
use Rattle.jh_parse.proofs.expressions.Starts.{NoPrimary, call-start, target-start, dot-behind}
use Rattle.jh_parse.specs.statements.Statements.{Typed, Body, Statement}
use Rattle.jh_parse.specs.statements.Statements as grammar

-- the number of a kind of token with which no statement begins
pub record NoStatement (m : ℕ) : Type 0 where
  pub primary : NoPrimary m
  pub semicolon : (symbol_number symbol.Semicolon == m) ≡ false
  pub opens : (symbol_number symbol.LeftBrace == m) ≡ false
  pub int : (symbol_number symbol.Int == m) ≡ false
  pub boolean : (symbol_number symbol.Boolean == m) ≡ false
  pub if : (symbol_number symbol.If == m) ≡ false
  pub while : (symbol_number symbol.While == m) ≡ false
  pub return : (symbol_number symbol.Return == m) ≡ false

module _ (ts : List Token) where
  pub typed-start : {i j : ℕ} {t : JType} (m : ℕ) → (75 == m) ≡ false → (symbol_number symbol.Int == m) ≡ false → (symbol_number symbol.Boolean == m) ≡ false → Typed ts i t j → (kind_at ts i == m) ≡ false
  typed-start {i = i} m w a b (grammar.an_int e) = kinds-apart ts i _ m e a
  typed-start {i = i} m w a b (grammar.a_boolean e) = kinds-apart ts i _ m e b
  typed-start {i = i} m w a b (grammar.of_class {w = v} e) = word-other ts i m v e w

  pub statement-start : {n i j m : ℕ} {s : StmtTree} (u : ℕ) → NoStatement u → Statement ts n i s j m → (kind_at ts i == u) ≡ false
  statement-start {i = i} u un (grammar.empty e) = kinds-apart ts i _ u e un.semicolon
  statement-start {i = i} u un (grammar.block (grammar.body o p c)) = kinds-apart ts i _ u o un.opens
  statement-start u un (grammar.declared t e p c) = typed-start u un.primary.word un.int un.boolean t
  statement-start u un (grammar.assigned t e p c) = target-start ts u un.primary t
  statement-start u un (grammar.called p c) = call-start ts u un.primary p
  statement-start {i = i} u un (grammar.if_alone s c p e) = kinds-apart ts i _ u s un.if
  statement-start {i = i} u un (grammar.if_else s c p e q) = kinds-apart ts i _ u s un.if
  statement-start {i = i} u un (grammar.while s l c p) = kinds-apart ts i _ u s un.while
  statement-start {i = i} u un (grammar.return_nothing s e) = kinds-apart ts i _ u s un.return
  statement-start {i = i} u un (grammar.return_value s p e) = kinds-apart ts i _ u s un.return

  -- no word stands behind the word with which a call or an assignment begins
  pub call-word : {i j : ℕ} {c : CallTree} → Call ts i c j → is_plain_word_at ts i ≡ true → is_plain_word_at ts (i + 1) ≡ false
  call-word {i = i} (code.of_method e p) w = kinds-apart ts (i + 1) (symbol_number symbol.LeftParenthesis) 75 (arguments-open ts p) refl
  call-word {i = i} (code.on_receiver p d e q) w = kinds-apart ts (i + 1) (symbol_number symbol.Dot) 75 (dot-behind ts w p d) refl

  pub target-word : {i j : ℕ} {t : ExprTree} → Target ts i t j → Is ts j symbol.Equal → is_plain_word_at ts i ≡ true → is_plain_word_at ts (i + 1) ≡ false
  target-word {i = i} (code.of_name e) q w = kinds-apart ts (i + 1) (symbol_number symbol.Equal) 75 q refl
  target-word {i = i} (code.of_member p d e) q w = kinds-apart ts (i + 1) (symbol_number symbol.Dot) 75 (dot-behind ts w p d) refl
