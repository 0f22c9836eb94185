-- One turn of the loop that reads the statements of a body, and the readers one level down.
use Rattle.std.proofs.Common.{◌≡◌, ℕ, zero, suc, ◌+◌, ◌-◌, ◌<◌, true, false, List, [], ◌∷◌, ◌++◌, map, refl, ap, sym, ◌∙◌, arith}
use Rattle.std.proofs.lemmas.List.{map-append}
use Rattle.std.proofs.lemmas.Option.{none-some}
use Rattle.std.specs.Prelude.{Option, None, Some}
use Rattle.jh_lex.specs.declared.lexer.symbol.Symbol.TheVariants as symbol
use Rattle.jh_lex.specs.declared.lexer.token.Token.{Token}
use Rattle.jh_ast.specs.declared.stmt.Stmt.{Stmt}
use Rattle.jh_name.specs.declared.place.Place.{Place}
use Rattle.std.specs.declared.alloc.Global.{Global}
use Rattle.std.specs.declared.boxed.Box.{Box}
use Rattle.jh_ast.specs.declared.expr.Expr.{Expr}
use Rattle.jh_ast.specs.declared.stmt.StmtBody.TheVariants as body
use Rattle.jh_ast.proofs.StmtSteps.{tree-If}
use Rattle.jh_ast.specs.Exprs.{ExprTree}
use Rattle.jh_ast.specs.Bare.{expr_tree, stmt_body_tree, stmt_tree, stmt_trees}
use Rattle.jh_ast.specs.Stmts.{StmtTree, StmtTrees}
use Rattle.jh_ast.specs.Stmts as stmt
use Rattle.jh_operators.specs.lookahead.Choices.{and_then, choose}
use Rattle.jh_operators.specs.lookahead.Lists.{Found}
use Rattle.jh_operators.specs.lookahead.Standing.{is_at, place_at}
use Rattle.jh_parse.proofs.expressions.Complete.{some_one}
use Rattle.jh_parse.specs.statements.Reading.{Inside, inside, statement_of, several_of, piece_of, part_of, else_of}
use Rattle.jh_parse.specs.statements.Reads.{after_these}
use Rattle.jh_parse.specs.statements.Statements.{before}

count : (k : ℕ) → suc k - 1 ≡ k
count k = omega arith

pub inside-in : (ts : List Token) (k n i : ℕ) → 0 < k → inside ts k n i ≡ statement_of ts (inside ts (k - 1)) n i
unfolding inside
inside-in ts zero n i h = absurd (omega arith)
inside-in ts (suc k) n i h = ap (λ m. statement_of ts (inside ts m) n i) (sym (count k))

pub inside-none : (ts : List Token) (n i : ℕ) → inside ts 0 n i ≡ None
unfolding inside
inside-none ts n i = refl

before-append : (xs ys : List StmtTree) (rest : StmtTrees) → before (xs ++ ys) rest ≡ before xs (before ys rest)
before-append [] ys rest = refl
before-append (x ∷ xs) ys rest = ap (stmt.more x) (before-append xs ys rest)

pub before-end : (made : List Stmt) → before (map stmt_tree made) stmt.none ≡ stmt_trees made
before-end [] = refl
before-end (x ∷ xs) = ap (stmt.more (stmt_tree x)) (before-end xs)

pub trees-append : (xs ys : List Stmt) → map stmt_tree (xs ++ ys) ≡ map stmt_tree xs ++ map stmt_tree ys
trees-append xs ys = map-append stmt_tree xs ys

pub ruleset reading_steps = (inside-in, inside-none, before-end, trees-append)

-- what is made, with what is read from here on
abbrev pub with_rest : List Token → Inside → List Stmt → ℕ → ℕ → ℕ → Option (Found StmtTrees)
with_rest ts ins made k n i = and_then {B = Found StmtTrees} (several_of ts ins k n i) (λ r. Some (before (map stmt_tree made) r.0, r.1, r.2))

module _ (ts : List Token) (ins : Inside) where
  joined : (old new : List Stmt) (j m : ℕ) (p : Found (List StmtTree)) → ◌≡◌ {A = Found (List StmtTree)} (map stmt_tree old ++ p.0, p.1, p.2) (map stmt_tree new, j, m) → (k : ℕ)
      → and_then {B = Found StmtTrees} (and_then {B = Found StmtTrees} (several_of ts ins k p.2 p.1) (λ r. Some (before p.0 r.0, r.1, r.2))) (λ r. Some (before (map stmt_tree old) r.0, r.1, r.2)) ≡ and_then {B = Found StmtTrees} (several_of ts ins k m j) (λ r. Some (before (map stmt_tree new) r.0, r.1, r.2))
  unfolding and_then
  joined old new j m p e k = by_case (several_of ts ins k p.2 p.1) ∙ ap (λ (q : Found (List StmtTree)). and_then {B = Found StmtTrees} (several_of ts ins k q.2 q.1) (λ r. Some (before q.0 r.0, r.1, r.2))) e where
    by_case : (o : Option (Found StmtTrees)) → and_then {B = Found StmtTrees} (and_then {B = Found StmtTrees} o (λ r. Some (before p.0 r.0, r.1, r.2))) (λ r. Some (before (map stmt_tree old) r.0, r.1, r.2)) ≡ and_then {B = Found StmtTrees} o (λ r. Some (before (map stmt_tree old ++ p.0) r.0, r.1, r.2))
    by_case None = refl
    by_case (Some r) = ap (λ l. Some (l, r.1, r.2)) (sym (before-append (map stmt_tree old) p.0 r.0))

  -- one more piece
  pub several-next : (k n i j m : ℕ) (old new : List Stmt) → 0 < k → is_at ts i symbol.RightBrace ≡ false → after_these old (piece_of ts ins n i) ≡ Some (map stmt_tree new, j, m) → with_rest ts ins old k n i ≡ with_rest ts ins new (k - 1) m j
  unfolding and_then choose several_of
  several-next zero n i j m old new h off e = absurd (omega (arith, h))
  several-next (suc k) n i j m old new h off e = rw (off, count k) (by_case (piece_of ts ins n i) e) where
    by_case : (o : Option (Found (List StmtTree))) → after_these old o ≡ Some (map stmt_tree new, j, m)
        → and_then {B = Found StmtTrees} (and_then {B = Found StmtTrees} o (λ p. and_then (several_of ts ins k p.2 p.1) (λ r. Some (before p.0 r.0, r.1, r.2)))) (λ r. Some (before (map stmt_tree old) r.0, r.1, r.2)) ≡ and_then {B = Found StmtTrees} (several_of ts ins k m j) (λ r. Some (before (map stmt_tree new) r.0, r.1, r.2))
    by_case None e = absurd (none-some _ e)
    by_case (Some p) e = joined old new j m p (some_one e) k

  several-end : (k n i : ℕ) → is_at ts i symbol.RightBrace ≡ true → several_of ts ins k n i ≡ Some (stmt.none, i, n)
  unfolding choose several_of
  several-end zero n i on = rw on refl
  several-end (suc k) n i on = rw on refl

  -- the closing brace
  pub several-all : (k n i : ℕ) (old : List Stmt) (target : Option (Found StmtTrees)) → is_at ts i symbol.RightBrace ≡ true → with_rest ts ins old k n i ≡ target → target ≡ Some (stmt_trees old, i, n)
  unfolding and_then
  several-all k n i old target on e = sym e ∙ ap (λ o. and_then {B = Found StmtTrees} o (λ r. Some (before (map stmt_tree old) r.0, r.1, r.2))) (several-end k n i on) ∙ ap (λ l. Some (l, i, n)) (before-end old)

  -- nothing stands there
  pub several-none : (k n i : ℕ) (old : List Stmt) (target : Option (Found StmtTrees)) → is_at ts i symbol.RightBrace ≡ false → after_these old (piece_of ts ins n i) ≡ None → with_rest ts ins old k n i ≡ target → target ≡ None
  unfolding and_then choose several_of
  several-none zero n i old target off e h = sym h ∙ rw off refl
  several-none (suc k) n i old target off e h = sym h ∙ rw off (by_case (piece_of ts ins n i) e) where
    by_case : (o : Option (Found (List StmtTree))) → after_these old o ≡ None → and_then {B = Found StmtTrees} (and_then {B = Found StmtTrees} o (λ p. and_then (several_of ts ins k p.2 p.1) (λ r. Some (before p.0 r.0, r.1, r.2)))) (λ r. Some (before (map stmt_tree old) r.0, r.1, r.2)) ≡ None
    by_case None e = refl
    by_case (Some p) e = absurd (none-some _ (sym e))

  -- there is no turn left
  pub several-short : (k n i : ℕ) (old : List Stmt) (target : Option (Found StmtTrees)) → k ≡ 0 → is_at ts i symbol.RightBrace ≡ false → with_rest ts ins old k n i ≡ target → target ≡ None
  unfolding and_then choose several_of
  several-short zero n i old target z off h = sym h ∙ rw off refl
  several-short (suc k) n i old target z off h = absurd (omega (arith, z))

  -- before the first turn
  pub several-begin : (k n i : ℕ) → with_rest ts ins [] k n i ≡ several_of ts ins k n i
  unfolding and_then
  several-begin k n i = same (several_of ts ins k n i) where
    same : (o : Option (Found StmtTrees)) → and_then {B = Found StmtTrees} o (λ r. Some (r.0, r.1, r.2)) ≡ o
    same None = refl
    same (Some r) = refl

-- the second part of a branch
module _ (ts : List Token) (ins : Inside) (i : ℕ) (c : ExprTree) (s : StmtTree) (n j : ℕ) where
  pub else-without : (r : StmtTree) → is_at ts j symbol.Else ≡ false → r ≡ stmt.branch (place_at ts i) c s stmt.none → else_of ts ins i c s n j ≡ Some (r, j, n)
  unfolding choose else_of
  else-without r e q = rw (e, q) refl

  pub else-none : is_at ts j symbol.Else ≡ true → part_of ts ins n (j + 1) ≡ None → else_of ts ins i c s n j ≡ None
  unfolding and_then choose else_of
  else-none e q = rw (e, q) refl

  pub else-with : (r t : StmtTree) (k m : ℕ) → is_at ts j symbol.Else ≡ true → part_of ts ins n (j + 1) ≡ Some (t, k, m) → r ≡ stmt.branch (place_at ts i) c s (stmt.more t stmt.none) → else_of ts ins i c s n j ≡ Some (r, k, m)
  unfolding and_then choose else_of
  else-with r t k m e q h = rw (e, q, h) refl

-- a branch with the parts that it was made of
pub branch-without : (p : Place) (c : Expr) (a : Box Stmt Global) (s r : Stmt) → stmt_tree r ≡ stmt_body_tree p (body.If c a None) → a.value ≡ s → stmt_tree r ≡ stmt.branch p (expr_tree c) (stmt_tree s) stmt.none
branch-without p c a s r e f = e ∙ tree-If p c a None ∙ ap (λ (x : Stmt). stmt.branch p (expr_tree c) (stmt_tree x) stmt.none) f

pub branch-with : (p : Place) (c : Expr) (a b : Box Stmt Global) (s t r : Stmt) → stmt_tree r ≡ stmt_body_tree p (body.If c a (Some b)) → a.value ≡ s → b.value ≡ t → stmt_tree r ≡ stmt.branch p (expr_tree c) (stmt_tree s) (stmt.more (stmt_tree t) stmt.none)
branch-with p c a b s t r e f g = e ∙ tree-If p c a (Some b) ∙ ap (λ (x : Stmt). stmt.branch p (expr_tree c) (stmt_tree x) (stmt.more (stmt_tree b.value) stmt.none)) f ∙ ap (λ (x : Stmt). stmt.branch p (expr_tree c) (stmt_tree s) (stmt.more (stmt_tree x) stmt.none)) g
