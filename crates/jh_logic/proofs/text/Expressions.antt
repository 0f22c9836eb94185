-- Expressions, calls and targets of code: their parts, and that the mode behind them is the one before them.
use Rattle.std.proofs.Common.{◌≡◌, refl, ap, ◌∙◌, ℕ, ◌+◌, true, List, [], ◌∷◌, Some, arith}
use Rattle.jh_name.specs.declared.place.Place.{Place}
use Rattle.jh_lex.specs.lexer.Modes.{mode_at}
use Rattle.jh_lex.specs.lexer.Shapes.{HasShape}
use Rattle.jh_lex.specs.declared.lexer.symbol.Symbol.TheVariants as symbol
use Rattle.jh_lex.specs.declared.lexer.token.Token.{Token}
use Rattle.jh_ast.specs.declared.word.Word.{Word}
use Rattle.jh_ast.specs.declared.expr.Op.{Op}
use Rattle.jh_ast.specs.Exprs.{ExprTree, moved}
use Rattle.jh_ast.specs.Exprs as e
use Rattle.jh_ast.specs.Stmts.{RhsTree, CallTree}
use Rattle.jh_rules.specs.Shape as shape
use Rattle.jh_rules.specs.Shape.{◌and◌, of_words, of_literal, expr_parts, call_parts, rhs_parts, some_parts, all_parts, may_be_assigned}
use Rattle.jh_operators.specs.lookahead.Standing.{Is, place_at, word_at}
use Rattle.jh_operators.proofs.lookahead.Options.{Holds, nothing, found, choose_holds, then_holds, of_found}
use Rattle.jh_parse.specs.expressions.Operators.{infix_at, operator_at, constant_at}
use Rattle.jh_parse.specs.expressions.Expressions.{Dots, Level, Chain, Unary, Postfix, Primary, Listed, Arguments, Call, Target, Rhs, member_of, binary_of}
use Rattle.jh_parse.specs.expressions.Expressions as grammar
use Rattle.jh_logic.proofs.text.Tokens.{symbol-mode, word-mode, number-mode}
use Rattle.jh_logic.proofs.text.Goodness.{Plain, plain-none, plain-and, plain-word, plain-literal, plain-each, plain-no}

-- places some tokens further on
pub two : (i : ℕ) → i + 2 ≡ i + 1 + 1
two i = omega arith

pub three : (i : ℕ) → i + 3 ≡ i + 2 + 1
three i = omega arith

pub four : (i : ℕ) → i + 4 ≡ i + 3 + 1
four i = omega arith

moved-parts : (p : Place) (a : ExprTree) → Plain (expr_parts a) → Plain (expr_parts (moved p a))
unfolding expr_parts
moved-parts p (e.null q) h = h
moved-parts p (e.yes q) h = h
moved-parts p (e.no q) h = h
moved-parts p (e.number q z) h = h
moved-parts p (e.this q) h = h
moved-parts p (e.name q w) h = h
moved-parts p (e.member q a w) h = h
moved-parts p (e.negation q a) h = h
moved-parts p (e.minus q a) h = h
moved-parts p (e.binary q o a b) h = h

member-parts : (a : ExprTree) (w : Word) → Plain (expr_parts a) → w.text.turn ≡ 0 → Plain (expr_parts (member_of a w))
unfolding expr_parts
member-parts a w h t = plain-and (expr_parts a) (of_words (w ∷ [])) h (plain-word w t)

binary-parts : (o : Op) (a b : ExprTree) → Plain (expr_parts a) → Plain (expr_parts b) → Plain (expr_parts (binary_of o a b))
unfolding expr_parts
binary-parts o a b h k = plain-and (expr_parts a) (expr_parts b) h k

name-parts : (p : Place) (w : Word) → w.text.turn ≡ 0 → Plain (expr_parts (e.name p w))
unfolding expr_parts
name-parts p w t = plain-word w t

module _ (ts : List Token) where
  -- an operator and a constant are symbols
  infix-mode : (i : ℕ) → Holds (λ x. mode_at ts (i + 1) ≡ mode_at ts i) (infix_at ts i)
  unfolding infix_at
  infix-mode i =
      choose_holds (λ h. found (symbol-mode ts i symbol.BarBar h)) (λ _.
      choose_holds (λ h. found (symbol-mode ts i symbol.AmpersandAmpersand h)) (λ _.
      choose_holds (λ h. found (symbol-mode ts i symbol.EqualEqual h)) (λ _.
      choose_holds (λ h. found (symbol-mode ts i symbol.BangEqual h)) (λ _.
      choose_holds (λ h. found (symbol-mode ts i symbol.Less h)) (λ _.
      choose_holds (λ h. found (symbol-mode ts i symbol.LessEqual h)) (λ _.
      choose_holds (λ h. found (symbol-mode ts i symbol.Greater h)) (λ _.
      choose_holds (λ h. found (symbol-mode ts i symbol.GreaterEqual h)) (λ _.
      choose_holds (λ h. found (symbol-mode ts i symbol.Plus h)) (λ _.
      choose_holds (λ h. found (symbol-mode ts i symbol.Minus h)) (λ _.
      choose_holds (λ h. found (symbol-mode ts i symbol.Star h)) (λ _.
      nothing)))))))))))

  operator-mode : (r i : ℕ) (o : Op) → operator_at ts r i ≡ Some o → mode_at ts (i + 1) ≡ mode_at ts i
  unfolding operator_at
  operator-mode r i o h = of_found {P = λ _. mode_at ts (i + 1) ≡ mode_at ts i} (then_holds (infix-mode i) (λ x p. choose_holds (λ _. found p) (λ _. nothing))) o h

  constant-mode : (i : ℕ) (a : ExprTree) → constant_at ts i ≡ Some a → (mode_at ts (i + 1) ≡ mode_at ts i) × Plain (expr_parts a)
  unfolding constant_at expr_parts
  constant-mode i a h = of_found {P = λ a. (mode_at ts (i + 1) ≡ mode_at ts i) × Plain (expr_parts a)} (
      choose_holds (λ k. found (symbol-mode ts i symbol.Null k, plain-none)) (λ _.
      choose_holds (λ k. found (symbol-mode ts i symbol.True k, plain-none)) (λ _.
      choose_holds (λ k. found (symbol-mode ts i symbol.False k, plain-none)) (λ _.
      choose_holds (λ k. found (symbol-mode ts i symbol.This k, plain-none)) (λ _.
      nothing))))) a h

  module _ (fits : HasShape ts) where
    -- the mode at a place is that at another, and an expression has plain parts
    abbrev pub Same : ℕ → ℕ → Type 0
    Same i j = mode_at ts j ≡ mode_at ts i

    abbrev pub Reads : ℕ → ℕ → ExprTree → Type 0
    Reads i j a = Same i j × Plain (expr_parts a)

    -- a symbol and a word behind it
    dot-word : (i : ℕ) (w : Word) → Is ts i symbol.Dot → word_at ts (i + 1) ≡ Some w → Same i (i + 2)
    dot-word i w d h = ap (mode_at ts) (two i) ∙ (word-mode ts fits (i + 1) w h).0 ∙ symbol-mode ts i symbol.Dot d

    turn-at : (i : ℕ) (w : Word) → word_at ts i ≡ Some w → w.text.turn ≡ 0
    turn-at i w h = (word-mode ts fits i w h).1

    dots : {i j : ℕ} {a t : ExprTree} → Dots ts a i t j → Plain (expr_parts a) → Reads i j t
    dots grammar.done h = (refl, h)
    dots {i = i} {a = a} (grammar.more {w = w} d g p) h =
        let rest = dots p (member-parts a w h (turn-at (i + 1) w g)) in
        (rest.0 ∙ dot-word i w d g, rest.1)

    mutual
      unfolding expr_parts

      pub level : {n i j : ℕ} {t : ExprTree} → Level ts n i t j → Reads i j t
      level (grammar.unary p) = unary p
      level (grammar.chain p c) = let a = level p in let t = chain c a.1 in (t.0 ∙ a.0, t.1)

      chain : {n i j : ℕ} {a t : ExprTree} → Chain ts n a i t j → Plain (expr_parts a) → Reads i j t
      chain grammar.ended h = (refl, h)
      chain {n = n} {i = i} {a = a} (grammar.once {b = b} {o = o} st g p) h = let x = level p in (x.0 ∙ operator-mode (2 + n) i o g, binary-parts o a b h x.1)
      chain {n = n} {i = i} {a = a} (grammar.extended {b = b} {o = o} st g p c) h =
          let x = level p in
          let t = chain c (binary-parts o a b h x.1) in
          (t.0 ∙ x.0 ∙ operator-mode (2 + n) i o g, t.1)

      unary : {i j : ℕ} {t : ExprTree} → Unary ts i t j → Reads i j t
      unary {i = i} (grammar.negated b p) = let a = unary p in (a.0 ∙ symbol-mode ts i symbol.Bang b, a.1)
      unary {i = i} (grammar.minus b p) = let a = unary p in (a.0 ∙ symbol-mode ts i symbol.Minus b, a.1)
      unary (grammar.postfix p) = postfix p

      pub postfix : {i j : ℕ} {t : ExprTree} → Postfix ts i t j → Reads i j t
      postfix (grammar.reads p d) = let a = primary p in let t = dots d a.1 in (t.0 ∙ a.0, t.1)

      primary : {i j : ℕ} {t : ExprTree} → Primary ts i t j → Reads i j t
      primary {i = i} {t = a} (grammar.constant h) = constant-mode i a h
      primary {i = i} (grammar.number {z = z} h) = let n = number-mode ts fits i z h in (n.0, plain-literal z n.1)
      primary {i = i} (grammar.name {w = w} h) = let n = word-mode ts fits i w h in (n.0, plain-word w n.1)
      primary {i = i} (grammar.bracket {j = j} {a = a} o p c) =
          let x = level p in
          (symbol-mode ts j symbol.RightParenthesis c ∙ x.0 ∙ symbol-mode ts i symbol.LeftParenthesis o, moved-parts (place_at ts i) a x.1)

    listed : {i j : ℕ} {xs : List ExprTree} → Listed ts i xs j → Same i j × Plain (all_parts expr_parts xs)
    listed (grammar.last {a = a} p) = let x = level p in (x.0, plain-each expr_parts a [] x.1 (plain-no expr_parts))
    listed (grammar.further {j = j} {a = a} {xs = xs} p c q) =
        let x = level p in
        let rest = listed q in
        (rest.0 ∙ symbol-mode ts j symbol.Comma c ∙ x.0, plain-each expr_parts a xs x.1 rest.1)

    arguments : {i j : ℕ} {xs : List ExprTree} → Arguments ts i xs j → Same i j × Plain (all_parts expr_parts xs)
    arguments {i = i} (grammar.no_arguments o c) = (ap (mode_at ts) (two i) ∙ symbol-mode ts (i + 1) symbol.RightParenthesis c ∙ symbol-mode ts i symbol.LeftParenthesis o, plain-no expr_parts)
    arguments {i = i} (grammar.arguments {j = j} o p c) = let x = listed p in (symbol-mode ts j symbol.RightParenthesis c ∙ x.0 ∙ symbol-mode ts i symbol.LeftParenthesis o, x.1)

    pub call : {i j : ℕ} {c : CallTree} → Call ts i c j → Same i j × Plain (call_parts c)
    call {i = i} (grammar.of_method {w = w} {xs = xs} h p) =
        let n = word-mode ts fits i w h in
        let x = arguments p in
        (x.0 ∙ n.0, plain-and shape.nothing (of_words (w ∷ []) and all_parts expr_parts xs) plain-none (plain-and (of_words (w ∷ [])) (all_parts expr_parts xs) (plain-word w n.1) x.1))
    call (grammar.on_receiver {j = j} {a = a} {w = w} {xs = xs} p d h q) =
        let r = postfix p in
        let x = arguments q in
        (x.0 ∙ dot-word j w d h ∙ r.0, plain-and (expr_parts a) (of_words (w ∷ []) and all_parts expr_parts xs) r.1 (plain-and (of_words (w ∷ [])) (all_parts expr_parts xs) (plain-word w (turn-at (j + 1) w h)) x.1))

    pub target : {i j : ℕ} {a : ExprTree} → Target ts i a j → Same i j × Plain (expr_parts a) × (may_be_assigned a ≡ true)
    target {i = i} (grammar.of_name {w = w} h) = let n = word-mode ts fits i w h in (n.0, name-parts (place_at ts i) w n.1, refl)
    target (grammar.of_member {j = j} {a = a} {w = w} p d h) = let r = postfix p in (dot-word j w d h ∙ r.0, member-parts a w r.1 (turn-at (j + 1) w h), refl)

    pub rhs : {i j : ℕ} {r : RhsTree} → Rhs ts i r j → Same i j × Plain (rhs_parts r)
    rhs (grammar.of_value p) = level p
    rhs (grammar.of_call p) = call p
    rhs {i = i} (grammar.of_new {w = w} n h o c) =
        let x = word-mode ts fits (i + 1) w h in
        (ap (mode_at ts) (four i) ∙ symbol-mode ts (i + 3) symbol.RightParenthesis c ∙ ap (mode_at ts) (three i) ∙ symbol-mode ts (i + 2) symbol.LeftParenthesis o ∙ ap (mode_at ts) (two i) ∙ x.0 ∙ symbol-mode ts i symbol.New n, plain-word w x.1)
