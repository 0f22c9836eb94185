-- Statements of a source: their parts, the numbers of their formulas, and that the mode behind them is the one before them.
use Rattle.std.proofs.Common.{◌≡◌, ◌≢◌, refl, sym, ap, subst, ◌∙◌, ℕ, ◌+◌, true, List, [], ◌∷◌, append_assoc, Option, Some}
use Rattle.jh_lex.specs.lexer.Modes.{mode_at}
use Rattle.jh_lex.specs.lexer.Shapes.{HasShape}
use Rattle.jh_lex.specs.declared.lexer.mode.Mode.TheVariants as mode
use Rattle.jh_lex.specs.declared.lexer.symbol.Symbol.TheVariants as symbol
use Rattle.jh_lex.specs.declared.lexer.token.Token.{Token}
use Rattle.jh_ast.specs.declared.word.Word.{Word}
use Rattle.jh_ast.specs.declared.word.JType.{JType}
use Rattle.jh_ast.specs.Exprs.{ExprTree}
use Rattle.jh_ast.specs.Forms.{LabelledPart}
use Rattle.jh_ast.specs.Stmts.{StmtTree, StmtTrees, RhsTree}
use Rattle.jh_ast.specs.Stmts as s
use Rattle.jh_rules.specs.Shape.{Parts, ◌and◌, nothing, call_parts, of_type, of_declared, of_param, of_target, type_words, expr_parts, rhs_parts, labelled_parts, some_parts, all_parts, stmt_parts, stmts_parts, is_not_void}
use Rattle.jh_operators.specs.lookahead.Standing.{word_at, is_spec_open_at, is_spec_close_at}
use Rattle.jh_parse.specs.statements.Statements.{Typed, Initial, Condition, Invariants, Body, Several, Piece, Part, Statement, before}
use Rattle.jh_parse.specs.statements.Statements as grammar
use Rattle.jh_logic.proofs.text.Tokens.{specification-plain, symbol-mode, word-mode, word-fine, spec-opens, spec-closes}
use Rattle.jh_logic.proofs.text.Goodness.{good-type, good-target, Plain, plain-none, plain-and, plain-declared, Fine, fine-plain, fine-and, fine-then, then-fine, fine-each, fine-no}
use Rattle.jh_logic.proofs.text.Expressions as expression
use Rattle.jh_logic.proofs.text.Expressions.{two}
use Rattle.jh_logic.proofs.text.Specifications as specification
use Rattle.jh_logic.proofs.text.Specifications.{Same}
use Rattle.jh_logic.proofs.text.Formulas.{AreFirst, none-first, more-first}

-- parts one after another, however they are grouped
pub grouped : (x y z : Parts) → (x and y) and z ≡ x and (y and z)
grouped x y z = λ i. record {
  words = append_assoc x.words y.words z.words i;
  declared = append_assoc x.declared y.declared z.declared i;
  types = append_assoc x.types y.types z.types i;
  literals = append_assoc x.literals y.literals z.literals i;
  numbers = append_assoc x.numbers y.numbers z.numbers i;
  targets = append_assoc x.targets y.targets z.targets i;
}

-- several statements and the rest
before-parts : (ss : List StmtTree) (rest : StmtTrees) → all_parts stmt_parts ss and stmts_parts rest ≡ stmts_parts (before ss rest)
unfolding all_parts stmts_parts
before-parts [] rest = refl
before-parts (x ∷ ss) rest = grouped (stmt_parts x) (all_parts stmt_parts ss) (stmts_parts rest) ∙ ap (λ y. stmt_parts x and y) (before-parts ss rest)

before-fine : {n k m : ℕ} (ss : List StmtTree) (rest : StmtTrees) → Fine n k (all_parts stmt_parts ss) → Fine k m (stmts_parts rest) → Fine n m (stmts_parts (before ss rest))
before-fine {n = n} {m = m} ss rest f h = subst (λ (x : Parts). Fine n m x) (before-parts ss rest) (fine-and (all_parts stmt_parts ss) (stmts_parts rest) f h)

no-stmts : (n : ℕ) → Fine n n (stmts_parts s.none)
unfolding stmts_parts
no-stmts n = fine-plain n nothing plain-none

one-stmt : {n m : ℕ} (x : StmtTree) → Fine n m (stmt_parts x) → Fine n m (all_parts stmt_parts (x ∷ []))
one-stmt {m = m} x f = fine-each stmt_parts x [] f (fine-no m stmt_parts)

module _ (ts : List Token) (fits : HasShape ts) where
  abbrev At : ℕ → Type 0
  At i = mode_at ts i ≢ mode.Formula

  -- a type that is not void
  abbrev pub Types : JType → Type 0
  Types t = (is_not_void t ≡ true) × AreFirst (type_words t)

  pub typed : {i j : ℕ} {t : JType} → Typed ts i t j → Same ts i j × Types t
  typed {i = i} (grammar.an_int h) = (symbol-mode ts i symbol.Int h, (refl, none-first))
  typed {i = i} (grammar.a_boolean h) = (symbol-mode ts i symbol.Boolean h, (refl, none-first))
  typed {i = i} (grammar.of_class {w = w} h) = let x = word-mode ts fits i w h in (x.0, (refl, more-first w [] x.1 none-first))

  -- a name that is declared behind its type
  pub declares : (i a : ℕ) (t : JType) (w : Word) → At i → Same ts i a × Types t → word_at ts a ≡ Some w → Same ts i (a + 1) × Plain (of_param (record { name = w; jtype = t }))
  declares i a t w plain x h =
      let n = word-mode ts fits a w h in
      (n.0 ∙ x.0, plain-and (of_type t) (of_declared w) (record { good = good-type t x.1.0 x.1.1; numbers = refl }) (plain-declared w n.1 (word-fine ts fits a w h (λ e. plain (sym x.0 ∙ e)))))

  initial : {i j : ℕ} {r : Option RhsTree} → Initial ts i r j → Same ts i j × Plain (some_parts rhs_parts r)
  initial grammar.without = (refl, plain-none)
  initial {i = i} (grammar.with h p) = let x = expression.rhs ts fits p in (x.0 ∙ symbol-mode ts i symbol.Equal h, x.1)

  condition : {i j : ℕ} {c : ExprTree} → Condition ts i c j → Same ts i j × Plain (expr_parts c)
  condition {i = i} (grammar.condition {j = j} o p c) = let x = expression.level ts fits p in (symbol-mode ts j symbol.RightParenthesis c ∙ x.0 ∙ symbol-mode ts i symbol.LeftParenthesis o, x.1)

  -- a specification stands in code, and code goes on behind it
  pub spoken : (i j : ℕ) → is_spec_open_at ts i ≡ true → is_spec_close_at ts j ≡ true → Same ts i (j + 1) × (mode_at ts (i + 1) ≢ mode.Formula)
  spoken i j o c = (spec-closes ts fits j c ∙ sym (spec-opens ts fits i o).0, λ e. specification-plain (sym (spec-opens ts fits i o).1 ∙ e))

  invariants : {n i j m : ℕ} {ls : List LabelledPart} → Invariants ts n i ls j m → Same ts i j × Fine n m (all_parts labelled_parts ls)
  invariants {n = n} grammar.no_invariants = (refl, fine-no n labelled_parts)
  invariants {i = i} (grammar.invariants {j = j} o p) = let x = spoken i j o p.1 in (x.0, (specification.invariants ts fits p.0 x.1).1)

  mutual
    unfolding stmt_parts stmts_parts

    pub body : {n i j m : ℕ} {ss : StmtTrees} → Body ts n i ss j m → At i → Same ts i (j + 1) × Fine n m (stmts_parts ss)
    body {i = i} {j = j} (grammar.body o p c) plain =
        let first = symbol-mode ts i symbol.LeftBrace o in
        let x = several p (λ e. plain (sym first ∙ e)) in
        (symbol-mode ts j symbol.RightBrace c ∙ x.0 ∙ first, x.1)

    several : {n i j m : ℕ} {ss : StmtTrees} → Several ts n i ss j m → At i → Same ts i j × Fine n m (stmts_parts ss)
    several {n = n} grammar.none plain = (refl, no-stmts n)
    several (grammar.more {piece = ss} {rest = rest} p q) plain =
        let x = piece p plain in
        let y = several q (λ e. plain (sym x.0 ∙ e)) in
        (y.0 ∙ x.0, before-fine ss rest x.1 y.1)

    piece : {n i j m : ℕ} {ss : List StmtTree} → Piece ts n i ss j m → At i → Same ts i j × Fine n m (all_parts stmt_parts ss)
    piece (grammar.one {s = x} p) plain = let y = statement p plain in (y.0, one-stmt x y.1)
    piece {i = i} (grammar.spoken {j = j} o p) plain = let x = spoken i j o p.1 in (x.0, (specification.statements ts fits p.0 x.1).1)

    inner : {n i j m : ℕ} {x : StmtTree} → Part ts n i x j m → At i → Same ts i j × Fine n m (stmt_parts x)
    inner (grammar.alone p) plain = statement p plain
    inner {i = i} (grammar.together {j = j} {m = m} {ss = ss} o p) plain = let x = spoken i j o p.1 in (x.0, before-fine ss s.none (specification.statements ts fits p.0 x.1).1 (no-stmts m))

    statement : {n i j m : ℕ} {x : StmtTree} → Statement ts n i x j m → At i → Same ts i j × Fine n m (stmt_parts x)
    statement {n = n} {i = i} (grammar.empty h) plain = (symbol-mode ts i symbol.Semicolon h, fine-plain n nothing plain-none)
    statement (grammar.block p) plain = body p plain
    statement {n = n} {i = i} (grammar.declared {a = a} {j = j} {t = t} {w = w} {r = r} u h p c) plain =
        let x = declares i a t w plain (typed u) h in
        let y = initial p in
        (symbol-mode ts j symbol.Semicolon c ∙ y.0 ∙ x.0, fine-plain n (of_param (record { name = w; jtype = t }) and some_parts rhs_parts r) (plain-and (of_param (record { name = w; jtype = t })) (some_parts rhs_parts r) x.1 y.1))
    statement {n = n} (grammar.assigned {a = a} {j = j} {t = t} {r = r} p h q c) plain =
        let x = expression.target ts fits p in
        let y = expression.rhs ts fits q in (
          symbol-mode ts j symbol.Semicolon c ∙ y.0 ∙ symbol-mode ts a symbol.Equal h ∙ x.0,
          fine-plain n (of_target t and expr_parts t and rhs_parts r) (plain-and (of_target t) (expr_parts t and rhs_parts r) (record { good = good-target t x.2; numbers = refl }) (plain-and (expr_parts t) (rhs_parts r) x.1 y.1)),
        )
    statement {n = n} (grammar.called {j = j} {c = c} p h) plain = let x = expression.call ts fits p in (symbol-mode ts j symbol.Semicolon h ∙ x.0, fine-plain n (call_parts c) x.1)
    statement {i = i} (grammar.if_alone {c = c} {s = x} h p q e) plain =
        let first = symbol-mode ts i symbol.If h in
        let y = condition p in
        let z = inner q (λ k. plain (sym (y.0 ∙ first) ∙ k)) in
        (z.0 ∙ y.0 ∙ first, then-fine (expr_parts c) (stmt_parts x and nothing) y.1 (fine-then (stmt_parts x) nothing z.1 plain-none))
    statement {i = i} (grammar.if_else {b = b} {m = m} {c = c} {s = x} {t = v} h p q e r) plain =
        let first = symbol-mode ts i symbol.If h in
        let y = condition p in
        let z = inner q (λ k. plain (sym (y.0 ∙ first) ∙ k)) in
        let before-else = symbol-mode ts b symbol.Else e ∙ z.0 ∙ y.0 ∙ first in
        let u = inner r (λ k. plain (sym before-else ∙ k)) in
        (u.0 ∙ before-else, then-fine (expr_parts c) (stmt_parts x and (stmt_parts v and nothing)) y.1 (fine-and (stmt_parts x) (stmt_parts v and nothing) z.1 (fine-then (stmt_parts v) nothing u.1 plain-none)))
    statement {i = i} (grammar.while {ls = ls} {c = c} {s = x} h l p q) plain =
        let first = symbol-mode ts i symbol.While h in
        let is = invariants l in
        let y = condition p in
        let z = inner q (λ k. plain (sym (y.0 ∙ is.0 ∙ first) ∙ k)) in
        (z.0 ∙ y.0 ∙ is.0 ∙ first, fine-and (all_parts labelled_parts ls) (expr_parts c and stmt_parts x) is.1 (then-fine (expr_parts c) (stmt_parts x) y.1 z.1))
    statement {n = n} {i = i} (grammar.return_nothing h c) plain = (ap (mode_at ts) (two i) ∙ symbol-mode ts (i + 1) symbol.Semicolon c ∙ symbol-mode ts i symbol.Return h, fine-plain n nothing plain-none)
    statement {n = n} {i = i} (grammar.return_value {j = j} {a = a} h p c) plain =
        let x = expression.level ts fits p in
        (symbol-mode ts j symbol.Semicolon c ∙ x.0 ∙ symbol-mode ts i symbol.Return h, fine-plain n (expr_parts a) x.1)
