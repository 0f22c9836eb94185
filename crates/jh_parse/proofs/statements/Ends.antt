-- Statements end behind their beginning.
use Rattle.std.proofs.Common.{ℕ, ◌<◌, ◌≤◌, List, arith}
use Rattle.jh_lex.specs.declared.lexer.token.Token.{Token}
use Rattle.jh_ast.specs.declared.word.JType.{JType}
use Rattle.jh_ast.specs.Exprs.{ExprTree}
use Rattle.jh_ast.specs.Forms.{LabelledPart}
use Rattle.jh_ast.specs.Stmts.{StmtTree, StmtTrees, RhsTree}
use Rattle.std.specs.Prelude.{Option}
use Rattle.jh_operators.specs.lookahead.Lists.{Many, none, more}
use Rattle.jh_spec.specs.parser.Parts.{LoopItem, Loop, Statements}
use Rattle.jh_spec.specs.parser.Parts as part
use Rattle.jh_spec.proofs.parser.PartComplete.{quoted-end, semicolon-end, spoken-end, labelled-end, target-end as target_spec-end}
use Rattle.jh_parse.proofs.expressions.Ends.{level-end, call-end, target-end, rhs-end}
use Rattle.jh_parse.specs.statements.Statements.{Typed, Initial, Condition, Invariants, Body, Several, Piece, Part, Statement}
use Rattle.jh_parse.specs.statements.Statements as grammar

module _ (ts : List Token) where
  spoken_part-end : {n i j m : ℕ} {s : StmtTree} → part.Statement ts n i s j m → i < j
  spoken_part-end (part.an_assert s p d) = omega (arith, spoken-end ts p, semicolon-end ts d)
  spoken_part-end (part.a_note s p d) = omega (arith, spoken-end ts p, semicolon-end ts d)
  spoken_part-end (part.a_ghost p s q d) = omega (arith, target_spec-end ts p, quoted-end ts q, semicolon-end ts d)

  loop_item-end : {n i j m : ℕ} {l : LabelledPart} → LoopItem ts n i l j m → i < j
  loop_item-end (part.loop_item s p d) = omega (arith, labelled-end ts p, semicolon-end ts d)

  spoken_parts-end : {n i j m : ℕ} {ss : List StmtTree} → Many (part.Statement ts) n i ss j m → i ≤ j
  spoken_parts-end none = omega arith
  spoken_parts-end (more p q) = omega (arith, spoken_part-end p, spoken_parts-end q)

  loop_items-end : {n i j m : ℕ} {ls : List LabelledPart} → Many (LoopItem ts) n i ls j m → i ≤ j
  loop_items-end none = omega arith
  loop_items-end (more p q) = omega (arith, loop_item-end p, loop_items-end q)

  pub typed-end : {i j : ℕ} {t : JType} → Typed ts i t j → i < j
  typed-end (grammar.an_int e) = omega arith
  typed-end (grammar.a_boolean e) = omega arith
  typed-end (grammar.of_class e) = omega arith

  pub initial-end : {i j : ℕ} {r : Option RhsTree} → Initial ts i r j → i ≤ j
  initial-end grammar.without = omega arith
  initial-end (grammar.with e p) = omega (arith, rhs-end ts p)

  pub condition-end : {i j : ℕ} {c : ExprTree} → Condition ts i c j → i < j
  condition-end (grammar.condition o p c) = omega (arith, level-end ts p)

  pub invariants-end : {n i j m : ℕ} {ls : List LabelledPart} → Invariants ts n i ls j m → i ≤ j
  invariants-end grammar.no_invariants = omega arith
  invariants-end (grammar.invariants o p) = omega (arith, loop_items-end p.0)

  mutual
    pub body-end : {n i j m : ℕ} {ss : StmtTrees} → Body ts n i ss j m → i < j
    body-end (grammar.body o p c) = omega (arith, several-end p)

    pub several-end : {n i j m : ℕ} {ss : StmtTrees} → Several ts n i ss j m → i ≤ j
    several-end grammar.none = omega arith
    several-end (grammar.more p q) = omega (arith, piece-end p, several-end q)

    pub piece-end : {n i j m : ℕ} {ss : List StmtTree} → Piece ts n i ss j m → i < j
    piece-end (grammar.one p) = statement-end p
    piece-end (grammar.spoken o p) = omega (arith, spoken_parts-end p.0)

    pub part-end : {n i j m : ℕ} {s : StmtTree} → Part ts n i s j m → i < j
    part-end (grammar.alone p) = statement-end p
    part-end (grammar.together o p) = omega (arith, spoken_parts-end p.0)

    pub statement-end : {n i j m : ℕ} {s : StmtTree} → Statement ts n i s j m → i < j
    statement-end (grammar.empty e) = omega arith
    statement-end (grammar.block p) = omega (arith, body-end p)
    statement-end (grammar.declared t e p c) = omega (arith, typed-end t, initial-end p)
    statement-end (grammar.assigned t e p c) = omega (arith, target-end ts t, rhs-end ts p)
    statement-end (grammar.called p c) = omega (arith, call-end ts p)
    statement-end (grammar.if_alone s c p e) = omega (arith, condition-end c, part-end p)
    statement-end (grammar.if_else s c p e q) = omega (arith, condition-end c, part-end p, part-end q)
    statement-end (grammar.while s l c p) = omega (arith, invariants-end l, condition-end c, part-end p)
    statement-end (grammar.return_nothing s e) = omega arith
    statement-end (grammar.return_value s p e) = omega (arith, level-end ts p)
