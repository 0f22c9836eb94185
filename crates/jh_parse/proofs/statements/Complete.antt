-- What is spelled is read.
use Rattle.std.proofs.Common.{◌≡◌, ℕ, zero, suc, ◌+◌, ◌<◌, ◌≤◌, Bool, true, false, List, length, refl, ap, sym, ◌∙◌, arith}
use Rattle.std.specs.Prelude.{Option, Some, ◌==◌, ◌&&◌, ◌||◌}
use Rattle.jh_lex.specs.lexer.Numbers.{symbol_number}
use Rattle.jh_lex.specs.declared.lexer.symbol.Symbol.TheVariants as symbol
use Rattle.jh_lex.specs.declared.lexer.token.Token.{Token}
use Rattle.jh_ast.specs.declared.word.JType.{JType}
use Rattle.jh_ast.specs.declared.word.Word.{Word}
use Rattle.jh_ast.specs.Exprs.{ExprTree}
use Rattle.jh_ast.specs.Forms.{LabelledPart}
use Rattle.jh_ast.specs.Stmts.{StmtTree, StmtTrees, RhsTree, CallTree}
use Rattle.jh_ast.specs.Stmts as stmt
use Rattle.jh_operators.specs.lookahead.Lists.{Found}
use Rattle.jh_operators.specs.lookahead.Standing.{Is, kind_at, is_at, is_plain_word_at, place_at, word_at}
use Rattle.jh_operators.proofs.lookahead.Options.{then_is, choose_on, choose_off, behind_on}
use Rattle.jh_operators.proofs.lookahead.Facts.{kinds-apart, other, within, word-kind, word-other}
use Rattle.jh_parse.specs.expressions.Expressions.{Call, Target, Rhs}
use Rattle.jh_parse.proofs.expressions.Complete.{some_one, expression-complete, rhs-complete, CallRead, call-read, TargetRead, target-read}
use Rattle.jh_parse.proofs.expressions.Facts.{closes-rank, semicolon-rank}
use Rattle.jh_parse.proofs.expressions.Starts.{NoPrimary, no_primary, no_start, level-start, call-start, target-start}
use Rattle.jh_spec.proofs.parser.PartComplete.{loop-complete, statements-complete}
use Rattle.jh_parse.specs.statements.Statements.{Typed, Initial, Condition, Invariants, Body, Several, Piece, Part, Statement}
use Rattle.jh_parse.specs.statements.Statements as grammar
use Rattle.jh_parse.specs.statements.Reading.{Inside, typed_at, initial_at, condition_at, invariants_at, declared_at, local_at, is_local_at, call_after, assign_after, simple_at, return_at, part_of, piece_of, several_of, body_of, block_of, else_of, if_of, while_of, statement_of, inside, body_at}
use Rattle.jh_parse.proofs.statements.Ends.{condition-end, invariants-end, several-end, piece-end, part-end, statement-end}
use Rattle.jh_parse.proofs.statements.Starts.{NoStatement, typed-start, statement-start, call-word, target-word}

local_by : (a b c d : Bool) → a ≡ false → b ≡ false → (c ≡ true → d ≡ false) → (a || (b || (c && d))) ≡ false
local_by a b true d e f g = rw (e, f) (g refl)
local_by a b false d e f g = rw (e, f) refl

module _ (ts : List Token) where
  no_close : NoStatement (symbol_number symbol.RightBrace)
  no_close = record { primary = no_primary _ refl refl refl refl refl refl refl; semicolon = refl; opens = refl; int = refl; boolean = refl; if = refl; while = refl; return = refl }

  no_spec : NoStatement 78
  no_spec = record { primary = no_primary _ refl refl refl refl refl refl refl; semicolon = refl; opens = refl; int = refl; boolean = refl; if = refl; while = refl; return = refl }

  pub typed-complete : {i j : ℕ} {t : JType} → Typed ts i t j → typed_at ts i ≡ Some (t, j)
  unfolding typed_at
  typed-complete (grammar.an_int e) = choose_on _ e refl
  typed-complete {i = i} (grammar.a_boolean e) = choose_off _ (other ts i symbol.Boolean symbol.Int e refl) (choose_on _ e refl)
  typed-complete {i = i} (grammar.of_class {w = w} e) = choose_off _ (word-other ts i _ w e refl) (choose_off _ (word-other ts i _ w e refl) (then_is _ e refl))

  initial-complete : {i j : ℕ} {r : Option RhsTree} → Initial ts i r j → Is ts j symbol.Semicolon → initial_at ts i ≡ Some (r, j)
  unfolding initial_at
  initial-complete {i = i} grammar.without s = choose_off _ (other ts i symbol.Semicolon symbol.Equal s refl) refl
  initial-complete (grammar.with e p) s = choose_on _ e (then_is _ (rhs-complete ts p s) refl)

  condition-complete : {i j : ℕ} {c : ExprTree} → Condition ts i c j → condition_at ts i ≡ Some (c, j)
  unfolding condition_at
  condition-complete {i = i} (grammar.condition {j = j} o p c) = then_is _ (behind_on ts i symbol.LeftParenthesis o) (then_is _ (expression-complete ts p (omega (arith, closes-rank ts j c)) (omega (arith, within ts j symbol.RightParenthesis refl c))) (then_is _ (behind_on ts j symbol.RightParenthesis c) refl))

  condition-opens : {i j : ℕ} {c : ExprTree} → Condition ts i c j → Is ts i symbol.LeftParenthesis
  condition-opens (grammar.condition o p c) = o

  invariants-complete : {n i j m : ℕ} {ls : List LabelledPart} → Invariants ts n i ls j m → Is ts j symbol.LeftParenthesis → invariants_at ts n i ≡ Some (ls, j, m)
  unfolding invariants_at
  invariants-complete {i = i} grammar.no_invariants o = choose_off _ (kinds-apart ts i _ 78 o refl) refl
  invariants-complete (grammar.invariants s p) o = choose_on _ s (then_is _ (loop-complete ts p) refl)

  typed-local : {i j : ℕ} {t : JType} {w : Word} → Typed ts i t j → word_at ts j ≡ Some w → is_local_at ts i ≡ true
  typed-local {i = i} (grammar.an_int e) f = rw e refl
  typed-local {i = i} (grammar.a_boolean e) f = rw (other ts i symbol.Boolean symbol.Int e refl, e) refl
  typed-local {i = i} {w = w} (grammar.of_class {w = v} e) f = rw (word-other ts i (symbol_number symbol.Int) v e refl, word-other ts i (symbol_number symbol.Boolean) v e refl, word-kind ts i v e, word-kind ts (i + 1) w f) refl

  local-complete : {n i a j : ℕ} {t : JType} {w : Word} {r : Option RhsTree} → Typed ts i t a → word_at ts a ≡ Some w → Initial ts (a + 1) r j → Is ts j symbol.Semicolon → local_at ts n i ≡ Some (stmt.local (place_at ts i) (record { name = w; jtype = t }) r, j + 1, n)
  unfolding local_at declared_at
  local-complete {j = j} t e p s = then_is _ (then_is _ (typed-complete t) (then_is _ e refl)) (then_is _ (initial-complete p s) (then_is _ (behind_on ts j symbol.Semicolon s) refl))

  -- with what neither a call nor an assignment begins
  record Simple (i : ℕ) : Type 0 where
    semicolon : is_at ts i symbol.Semicolon ≡ false
    opens : is_at ts i symbol.LeftBrace ≡ false
    if : is_at ts i symbol.If ≡ false
    while : is_at ts i symbol.While ≡ false
    return : is_at ts i symbol.Return ≡ false
    local : is_local_at ts i ≡ false

  simple_by : {i : ℕ} → ((m : ℕ) → NoPrimary m → (kind_at ts i == m) ≡ false) → (is_plain_word_at ts i ≡ true → is_plain_word_at ts (i + 1) ≡ false) → Simple i
  simple_by not word = record {
    semicolon = not _ (no_primary _ refl refl refl refl refl refl refl);
    opens = not _ (no_primary _ refl refl refl refl refl refl refl);
    if = not _ (no_primary _ refl refl refl refl refl refl refl);
    while = not _ (no_primary _ refl refl refl refl refl refl refl);
    return = not _ (no_primary _ refl refl refl refl refl refl refl);
    local = local_by _ _ _ _ (not _ (no_primary _ refl refl refl refl refl refl refl)) (not _ (no_primary _ refl refl refl refl refl refl refl)) word;
  }

  simple-only : (ins : Inside) (n i : ℕ) {r : Option (Found StmtTree)} → Simple i → simple_at ts n i ≡ r → statement_of ts ins n i ≡ r
  unfolding statement_of
  simple-only ins n i s e = choose_off _ s.semicolon (choose_off _ s.opens (choose_off _ s.if (choose_off _ s.while (choose_off _ s.return (choose_off _ s.local e)))))

  call-complete : (n i j : ℕ) (c : CallTree) → Call ts i c j → Is ts j symbol.Semicolon → simple_at ts n i ≡ Some (stmt.call (place_at ts i) c, j + 1, n)
  unfolding simple_at call_after
  call-complete n i j c p s = let r : CallRead ts i c j = call-read ts p in then_is _ r.read (choose_on _ r.opens (then_is _ r.made (then_is _ (behind_on ts j symbol.Semicolon s) refl)))

  assign-complete : (n i a j : ℕ) (t : ExprTree) (v : RhsTree) → Target ts i t a → Is ts a symbol.Equal → Rhs ts (a + 1) v j → Is ts j symbol.Semicolon → simple_at ts n i ≡ Some (stmt.assign (place_at ts i) t v, j + 1, n)
  unfolding simple_at assign_after
  assign-complete n i a j t v p e q s = let r : TargetRead ts i t a = target-read ts p (other ts a symbol.Equal symbol.Dot e refl) (omega (arith, within ts a symbol.Equal refl e)) in
      then_is _ r.read (choose_off _ (other ts a symbol.Equal symbol.LeftParenthesis e refl) (then_is _ r.made (then_is _ (behind_on ts a symbol.Equal e) (then_is _ (rhs-complete ts q s) (then_is _ (behind_on ts j symbol.Semicolon s) refl)))))

  -- what is read deeper inside, from what is read there
  deep : (n m : ℕ) {j l : ℕ} {t : StmtTree} → ((k : ℕ) → j ≤ m + k → statement_of ts (inside ts k) n m ≡ Some (t, j, l)) → m < j → (k : ℕ) → j < m + k → inside ts k n m ≡ Some (t, j, l)
  unfolding inside
  deep n m read some zero h = absurd (omega (arith, some, h))
  deep n m read some (suc k) h = read k (omega (arith, h))

  mutual
    unfolding statement_of if_of else_of while_of return_at block_of body_of several_of piece_of part_of

    statement-complete : {n i j m : ℕ} {s : StmtTree} → Statement ts n i s j m → (k : ℕ) → j ≤ i + k → statement_of ts (inside ts k) n i ≡ Some (s, j, m)
    statement-complete (grammar.empty s) k h = choose_on _ s refl
    statement-complete {i = i} (grammar.block (grammar.body {j = j} o p c)) k h = choose_off _ (other ts i symbol.LeftBrace symbol.Semicolon o refl) (choose_on _ o (then_is _ (then_is _ (behind_on ts i symbol.LeftBrace o) (several-complete p c k (omega (arith, h)) (length ts) (omega (arith, within ts j symbol.RightBrace refl c)))) refl))
    statement-complete (grammar.declared t e p c) k h = choose_off _ (typed-start ts _ refl refl refl t) (choose_off _ (typed-start ts _ refl refl refl t) (choose_off _ (typed-start ts _ refl refl refl t) (choose_off _ (typed-start ts _ refl refl refl t) (choose_off _ (typed-start ts _ refl refl refl t)
        (choose_on _ (typed-local t e) (local-complete t e p c))))))
    statement-complete {n = n} {i = i} (grammar.assigned {a = a} {j = j} {t = t} {r = r} p e q s) k h = simple-only (inside ts k) n i (simple_by (λ m u. target-start ts m u p) (target-word ts p e)) (assign-complete n i a j t r p e q s)
    statement-complete {n = n} {i = i} (grammar.called {j = j} {c = c} p s) k h = simple-only (inside ts k) n i (simple_by (λ m u. call-start ts m u p) (call-word ts p)) (call-complete n i j c p s)
    statement-complete {i = i} (grammar.if_alone s c p e) k h = choose_off _ (other ts i symbol.If symbol.Semicolon s refl) (choose_off _ (other ts i symbol.If symbol.LeftBrace s refl) (choose_on _ s
        (then_is _ (condition-complete c) (then_is _ (part-complete p k (omega (arith, h, condition-end ts c))) (choose_off _ e refl)))))
    statement-complete {i = i} (grammar.if_else s c p e q) k h = choose_off _ (other ts i symbol.If symbol.Semicolon s refl) (choose_off _ (other ts i symbol.If symbol.LeftBrace s refl) (choose_on _ s
        (then_is _ (condition-complete c) (then_is _ (part-complete p k (omega (arith, h, condition-end ts c, part-end ts q))) (choose_on _ e (then_is _ (part-complete q k (omega (arith, h, condition-end ts c, part-end ts p))) refl))))))
    statement-complete {i = i} (grammar.while s l c p) k h = choose_off _ (other ts i symbol.While symbol.Semicolon s refl) (choose_off _ (other ts i symbol.While symbol.LeftBrace s refl) (choose_off _ (other ts i symbol.While symbol.If s refl) (choose_on _ s
        (then_is _ (invariants-complete l (condition-opens c)) (then_is _ (condition-complete c) (then_is _ (part-complete p k (omega (arith, h, invariants-end ts l, condition-end ts c))) refl))))))
    statement-complete {i = i} (grammar.return_nothing s e) k h = choose_off _ (other ts i symbol.Return symbol.Semicolon s refl) (choose_off _ (other ts i symbol.Return symbol.LeftBrace s refl) (choose_off _ (other ts i symbol.Return symbol.If s refl) (choose_off _ (other ts i symbol.Return symbol.While s refl) (choose_on _ s (choose_on _ e refl)))))
    statement-complete {i = i} (grammar.return_value {j = j} s p e) k h = choose_off _ (other ts i symbol.Return symbol.Semicolon s refl) (choose_off _ (other ts i symbol.Return symbol.LeftBrace s refl) (choose_off _ (other ts i symbol.Return symbol.If s refl) (choose_off _ (other ts i symbol.Return symbol.While s refl) (choose_on _ s
        (choose_off _ (level-start ts _ (no_start _ refl refl refl refl refl refl refl refl refl) p) (then_is _ (expression-complete ts p (omega (arith, semicolon-rank ts j e)) (omega (arith, within ts j symbol.Semicolon refl e))) (then_is _ (behind_on ts j symbol.Semicolon e) refl)))))))

    part-complete : {n i j m : ℕ} {s : StmtTree} → Part ts n i s j m → (k : ℕ) → j < i + k → part_of ts (inside ts k) n i ≡ Some (s, j, m)
    part-complete (grammar.alone p) k h = choose_off _ (statement-start ts 78 no_spec p) (deep _ _ (λ k h. statement-complete p k h) (statement-end ts p) k h)
    part-complete (grammar.together o p) k h = choose_on _ o (then_is _ (statements-complete ts p) refl)

    piece-complete : {n i j m : ℕ} {ss : List StmtTree} → Piece ts n i ss j m → (k : ℕ) → j < i + k → piece_of ts (inside ts k) n i ≡ Some (ss, j, m)
    piece-complete (grammar.one p) k h = choose_off _ (statement-start ts 78 no_spec p) (then_is _ (deep _ _ (λ k h. statement-complete p k h) (statement-end ts p) k h) refl)
    piece-complete (grammar.spoken o p) k h = choose_on _ o (then_is _ (statements-complete ts p) refl)

    several-complete : {n i j m : ℕ} {ss : StmtTrees} → Several ts n i ss j m → Is ts j symbol.RightBrace → (k : ℕ) → j < i + k → (q : ℕ) → j ≤ i + q → several_of ts (inside ts k) q n i ≡ Some (ss, j, m)
    several-complete grammar.none c k h zero g = choose_on _ c refl
    several-complete grammar.none c k h (suc q) g = choose_on _ c refl
    several-complete (grammar.more p r) c k h zero g = absurd (omega (arith, g, piece-end ts p, several-end ts r))
    several-complete (grammar.more p r) c k h (suc q) g = choose_off _ (piece-close p) (then_is _ (piece-complete p k (omega (arith, h, several-end ts r))) (then_is _ (several-complete r c k (omega (arith, h, piece-end ts p)) q (omega (arith, g, piece-end ts p))) refl))

    -- no statement begins with the closing brace
    piece-close : {n i j m : ℕ} {ss : List StmtTree} → Piece ts n i ss j m → is_at ts i symbol.RightBrace ≡ false
    piece-close (grammar.one p) = statement-start ts _ no_close p
    piece-close {i = i} (grammar.spoken o p) = kinds-apart ts i 78 _ o refl

  -- what is spelled as a body is read
  pub body_at-complete : {n i j m : ℕ} {ss : StmtTrees} → Body ts n i ss j m → body_at ts n i ≡ Some (ss, j, m)
  unfolding body_at body_of
  body_at-complete {i = i} (grammar.body {j = j} o p c) = let h : j < length ts = within ts j symbol.RightBrace refl c in then_is _ (behind_on ts i symbol.LeftBrace o) (several-complete p c (length ts) (omega (arith, h)) (length ts) (omega (arith, h)))

-- at most one body begins at a place
pub at_most_one : (ts : List Token) (n i j k m l : ℕ) (ss rs : StmtTrees) → Body ts n i ss j m → Body ts n i rs k l → (ss ≡ rs) × (j ≡ k) × (m ≡ l)
at_most_one ts n i j k m l ss rs p q = parts (some_one (sym (body_at-complete ts p) ∙ body_at-complete ts q)) where
  parts : {a b : Found StmtTrees} → a ≡ b → (a.0 ≡ b.0) × (a.1 ≡ b.1) × (a.2 ≡ b.2)
  parts e = (ap (λ (x : Found StmtTrees). x.0) e, ap (λ (x : Found StmtTrees). x.1) e, ap (λ (x : Found StmtTrees). x.2) e)
